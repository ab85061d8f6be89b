use Rattle.std.proofs.Common.{Bool, true, false, List, [], length, take, drop, sym, ◌∙◌, refl}
use Rattle.std.proofs.Common.{subst, inl, inr, take-append-drop}
use Rattle.edf_header.specs.Key.{Key}
use Rattle.edf_holdings.proofs.KeyLists.{keys_are_one}
use Rattle.edf_store.proofs.Readiness.{stays_then}
use Rattle.edf_command.specs.Listing.{AreHeldBy}
use Rattle.edf_command.specs.Lines.{first_list_lines}
use Rattle.edf_cli.specs.Output.{output_change, Gets, AreLinesWritten}
use Rattle.edf_cli.specs.declared.status.Status.TheVariants.{Done}
use Rattle.edf_cli.proofs.Puts.{nothing-gets, trouble-lines}
use Rattle.edf_export.proofs.Walks.{clean_before}
use Rattle.edf_command.proofs.Staying.{is-refusal, not-failed}
use Rattle.edf_command.proofs.listing.list.Goals as goal

pub returns-in-Err : goal.returns-in-Err
returns-in-Err g c = record {
  stays = c.identities.ensures.changes.stays;
  printed = inr (inr (
    c.in-Err.fault,
    not-failed _ _ c.in-Err.fault c.in-Err.ensures.refuses.why,
    refl,
    c.print_refusal.ensures,
  ));
  listed = λ clean h holds. inr (record {
    given = [];
    fault = c.in-Err.fault;
    is_store_refusal =
        is-refusal _ _ c.in-Err.fault (λ unclean. unclean clean) c.in-Err.ensures.refuses.why;
    first = λ keys are. (keys, refl);
    written = λ spell is. nothing-gets (g.O.Output.contents c.args.out.now)
        (g.O.Output.failures c.args.out.now);
    said = c.print_refusal.ensures;
  });
}

pub returns-in-Ok-true : goal.returns-in-Ok-true
returns-in-Ok-true g c =
    let old = c.args.store.now in
    let mid = c.identities.new.self in
    let new = c.put_recordings.new.store in
    let keys = c.in-Ok.recordings.items in
    record {
      stays = stays_then g.S.Store old mid new c.identities.ensures.changes.stays
          c.in-Ok-true.ensures.stays;
      printed = inl (
        c.in-Ok-true.ensures.counted c.in-Ok-true.field-0-test,
        nothing-gets (g.F.Output.contents c.args.err.now) (g.F.Output.failures c.args.err.now),
        refl,
      );
      listed = λ clean h holds.
          let are = c.in-Ok.ensures.keys (clean_before g.S.Store mid new c.in-Ok-true.ensures.stays
          clean) h holds in
          let held : List Key → Type 0 = λ ks. AreHeldBy h ks in
          let all = subst held (sym c.as_slice.ensures.value) (λ k has. (are.held k).0 has) in
          inl (record {
            keys = keys;
            are_keys = are;
            said = λ spell is.
                let w = output_change g.O.Output c.args.out.now c.put_recordings.new.out in
                let IsOut : Bool → List Key → Type 0 =
                λ written ks. AreLinesWritten w (first_list_lines spell h ks) (length ks) written in
                let put = c.in-Ok-true.ensures.put clean h spell
                (c.identities.ensures.changes.stays.holdings h holds) all is in
                let done = subst (IsOut true) c.as_slice.ensures.value
                (subst (λ (b : Bool). IsOut b c.as_slice.result.now) c.in-Ok-true.field-0-test
                put) in
                inl (inl (done, refl));
            silent = nothing-gets (g.F.Output.contents c.args.err.now)
                (g.F.Output.failures c.args.err.now);
          });
    }

pub returns-in-Ok-false : goal.returns-in-Ok-false
returns-in-Ok-false g c =
    let old = c.args.store.now in
    let mid = c.identities.new.self in
    let new = c.put_recordings.new.store in
    let keys = c.in-Ok.recordings.items in
    record {
      stays = stays_then g.S.Store old mid new c.identities.ensures.changes.stays
          c.in-Ok-false.ensures.stays;
      printed = inr (inl (
        nothing-gets (g.F.Output.contents c.args.err.now)
            (g.F.Output.failures c.args.err.now),
        refl,
      ));
      listed = λ clean h holds.
          let are = c.in-Ok.ensures.keys (clean_before g.S.Store mid new c.in-Ok-false.ensures.stays
          clean) h holds in
          let held : List Key → Type 0 = λ ks. AreHeldBy h ks in
          let all = subst held (sym c.as_slice.ensures.value) (λ k has. (are.held k).0 has) in
          inl (record {
            keys = keys;
            are_keys = are;
            said = λ spell is.
                let w = output_change g.O.Output c.args.out.now c.put_recordings.new.out in
                let IsOut : Bool → List Key → Type 0 =
                λ written ks. AreLinesWritten w (first_list_lines spell h ks) (length ks) written in
                let put = c.in-Ok-false.ensures.put clean h spell
                (c.identities.ensures.changes.stays.holdings h holds) all is in
                let done = subst (IsOut false) c.as_slice.ensures.value
                (subst (λ (b : Bool). IsOut b c.as_slice.result.now) c.in-Ok-false.field-0-test
                put) in
                trouble-lines w (first_list_lines spell h keys) (length keys) Done done;
            silent = nothing-gets (g.F.Output.contents c.args.err.now)
                (g.F.Output.failures c.args.err.now);
          });
    }

pub returns : goal.returns
returns g c =
    let old = c.args.store.now in
    let mid = c.identities.new.self in
    let new = c.put_recordings.new.store in
    let keys = c.in-Ok.recordings.items in
    record {
      stays = stays_then g.S.Store old mid new c.identities.ensures.changes.stays
          c.in-Err-put_recordings.ensures.stays;
      printed = inr (inr (
        c.in-Err-put_recordings.stop,
        c.in-Err-put_recordings.ensures.unfailed,
        c.in-Err-put_recordings.ensures.counted,
        c.print_refusal-in-Err-put_recordings.ensures,
      ));
      listed = λ clean h holds.
          let are = c.in-Ok.ensures.keys
          (clean_before g.S.Store mid new c.in-Err-put_recordings.ensures.stays clean) h holds in
          let held : List Key → Type 0 = λ ks. AreHeldBy h ks in
          let all = subst held (sym c.as_slice.ensures.value) (λ k has. (are.held k).0 has) in
          let stop = c.in-Err-put_recordings.ensures.refused clean in
          let then = stop.1 h (c.identities.ensures.changes.stays.holdings h holds) all in
          inr (record {
            given = take stop.0 keys;
            fault = c.in-Err-put_recordings.stop;
            is_store_refusal = then.0;
            first = λ others they. (
              drop stop.0 keys,
              keys_are_one h others keys they are
                  ∙ sym (take-append-drop stop.0 keys),
            );
            written = λ spell is.
                let IsOut : List Key → Type 0 = λ ks.
                Gets (output_change g.O.Output c.args.out.now c.put_recordings.new.out)
                (first_list_lines spell h ks stop.0) in
                subst IsOut c.as_slice.ensures.value (then.1 spell is);
            said = c.print_refusal-in-Err-put_recordings.ensures;
          });
    }
