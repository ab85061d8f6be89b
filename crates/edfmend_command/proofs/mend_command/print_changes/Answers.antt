use Rattle.std.proofs.Common.{inl, inr, arith, Bool, subst, sym}
use Rattle.edf_cli.proofs.Puts.{nothing-gets}
use Rattle.edfmend_command.specs.Run.{IsMendedFile}
use Rattle.edfmend_command.proofs.Opened.{then-more}
use Rattle.edfmend_command.proofs.mend_command.print_changes.Goals as goal

pub returns-in-Ok-write_again-clause-printed : goal.returns-in-Ok-write_again-clause-printed
returns-in-Ok-write_again-clause-printed g c =
    let mends = (rw (c.in-Ok.ensures.same c.args.file.now) at c.in-Ok-write_again.ensures.answer)
    c.in-Ok.ensures.plan in
    inl (
      mends.new,
      record {
        is_good = c.is_good.result;
        mended = c.in-Ok-write_again.mended;
        is_mended = subst (λ (b : Bool). IsMendedFile
            (g.I.Inputs.bytes c.args.inputs.now c.args.file.now) c.args.wanted.now b
            c.in-Ok-write_again.mended mends.new) (sym c.is_good.ensures) mends.is_mended;
        printed = c.print_ledger.ensures;
      },
    )

pub returns-clause-printed : goal.returns-clause-printed
returns-clause-printed g c = inr (record {
  why = c.in-Err-write_again.fault;
  is_why = (rw (c.in-Ok.ensures.same c.args.file.now) at c.in-Err-write_again.ensures.answer)
      c.in-Ok.ensures.plan;
  unsaid = nothing-gets (g.O.Output.contents c.args.out.now) (g.O.Output.failures c.args.out.now);
  said = c.refuse-in-Err-write_again.ensures;
})

pub returns-in-Err-clause-printed : goal.returns-in-Err-clause-printed
returns-in-Err-clause-printed g c = inr (record {
  why = c.in-Err.fault;
  is_why = c.in-Err.ensures.trouble;
  unsaid = nothing-gets (g.O.Output.contents c.args.out.now) (g.O.Output.failures c.args.out.now);
  said = c.refuse.ensures;
})

pub returns-in-Ok-write_again-clause-opened : goal.returns-in-Ok-write_again-clause-opened
returns-in-Ok-write_again-clause-opened g c = then-more _ _ _ c.args.file.now 2 1 3 (omega arith)
    c.in-Ok.ensures.opened c.write_again.ensures.opened

pub returns-clause-opened : goal.returns-clause-opened
returns-clause-opened g c = then-more _ _ _ c.args.file.now 2 1 3 (omega arith)
    c.in-Ok.ensures.opened c.write_again.ensures.opened
