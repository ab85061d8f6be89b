use Rattle.std.proofs.Common.{Err, refl, inl, inr, ap}
use Rattle.edf_export.specs.declared.fault.ExportFault.{ExportFault}
use Rattle.edf_cli.proofs.Puts.{nothing-gets}
use Rattle.edf_command.proofs.exporting.export_recording.Goals as goal

pub returns-in-Ok-clause-exported : goal.returns-in-Ok-clause-exported
returns-in-Ok-clause-exported g c clean h holds =
    inl (
      (c.in-Ok._len, c.in-Ok.ensures.answered clean h holds),
      c.in-Ok.ensures.truly.counted,
      nothing-gets (g.F.Output.contents c.args.err.now) (g.F.Output.failures c.args.err.now),
      refl,
    )

pub returns-in-Ok-clause-printed : goal.returns-in-Ok-clause-printed
returns-in-Ok-clause-printed g c = inl (
  c.in-Ok.ensures.truly.counted,
  nothing-gets (g.F.Output.contents c.args.err.now) (g.F.Output.failures c.args.err.now),
  refl,
)

pub returns-in-Err-clause-printed : goal.returns-in-Err-clause-printed
returns-in-Err-clause-printed g c = inr (
  c.in-Err.fault,
  (λ is. c.in-Err.ensures.truly.unfailed (ap (λ (f : ExportFault). Err f) is)),
  c.in-Err.ensures.truly.counted,
  c.print_refusal.ensures,
)

pub returns-in-Err-clause-exported : goal.returns-in-Err-clause-exported
returns-in-Err-clause-exported g c clean h holds =
    inr (
      c.in-Err.fault,
      c.in-Err.ensures.answered clean h holds,
      c.in-Err.ensures.truly.counted,
      c.print_refusal.ensures,
    )
