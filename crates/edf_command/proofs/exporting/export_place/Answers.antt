use Rattle.edf_store.specs.declared.fault.StoreFault.TheVariants.{Failed}
use Rattle.std.proofs.Common.{◌≡◌, ◌∙◌, List, sym, ap, refl, inl, inr}
use Rattle.std.specs.Prelude.{Option}
use Rattle.edf_header.specs.Key.{Key}
use Rattle.edf_store.proofs.Readiness.{stays_then}
use Rattle.edf_command.specs.Exporting.{at_place}
use Rattle.edf_export.specs.declared.fault.ExportFault.TheVariants.{Store}
use Rattle.edf_command.specs.Lines.{no_recording_line}
use Rattle.edf_cli.specs.Output.{output_change, Explains}
use Rattle.edf_cli.specs.declared.status.Status.TheVariants.{Refused}
use Rattle.edf_export.proofs.Walks.{clean_before}
use Rattle.edf_command.proofs.Staying.{is-refusal, not-failed}
use Rattle.edf_cli.proofs.Puts.{nothing-gets}
use Rattle.edf_command.proofs.exporting.export_place.Goals as goal

pub returns-in-Err : goal.returns-in-Err
returns-in-Err g c = record {
  stays = c.identities.ensures.changes.stays;
  printed = inl (inr (
    Store c.in-Err.fault,
    (λ is. not-failed _ _ c.in-Err.fault c.in-Err.ensures.refuses.why (let same : c.in-Err.fault
        ≡ Failed = cc in same)),
    refl,
    c.print_refusal.ensures,
  ));
  exported = λ clean h holds.
      inr (inr (record {
        fault = c.in-Err.fault;
        is_store_refusal =
            is-refusal _ _ c.in-Err.fault (λ unclean. unclean clean) c.in-Err.ensures.refuses.why;
        said = (
          nothing-gets (g.O.Output.contents c.args.out.now) (g.O.Output.failures c.args.out.now),
          c.print_refusal.ensures,
        );
      }));
}

pub returns-in-Some : goal.returns-in-Some
returns-in-Some g c =
    let old = c.args.store.now in
    let mid = c.identities.new.self in
    let new = c.export_recording.new.store in
    let at : List Key → Option Key = λ keys. at_place keys c.args.place in
    record {
      stays = stays_then g.S.Store old mid new c.identities.ensures.changes.stays
          c.export_recording.ensures.stays;
      printed = inl c.export_recording.ensures.printed;
      exported = λ clean h holds. inl (record {
        keys = c.in-Ok.recordings.items;
        key = c.in-Some.identity.now;
        are_keys = c.in-Ok.ensures.keys
            (clean_before g.S.Store mid new c.export_recording.ensures.stays
            clean) h holds;
        is_at = ap at (sym c.as_slice.ensures.value) ∙ sym c.in-Some.ensures;
        exported = c.export_recording.ensures.exported clean h
            (c.identities.ensures.changes.stays.holdings h holds);
      });
    }

pub returns : goal.returns
returns g c =
    let at : List Key → Option Key = λ keys. at_place keys c.args.place in
    let said : Explains (output_change g.O.Output c.args.out.now c.args.out.now)
    (output_change g.F.Output c.args.err.now c.print_no_recording.new.err)
    (no_recording_line c.args.place) Refused c.print_no_recording.result
    = (
      nothing-gets (g.O.Output.contents c.args.out.now) (g.O.Output.failures c.args.out.now),
      c.print_no_recording.ensures,
    ) in
    record {
      stays = c.identities.ensures.changes.stays;
      printed = inr said;
      exported = λ clean h holds. inr (inl (record {
        keys = c.in-Ok.recordings.items;
        are_keys = c.in-Ok.ensures.keys clean h holds;
        none = ap at (sym c.as_slice.ensures.value) ∙ sym c.in-None.ensures;
        said = said;
      }));
    }
