use Rattle.std.proofs.Common.{Bool, ℕ, ◌+◌, ◌∙◌, List, length, take, ap, refl, sym, subst, arith}
use Rattle.std.proofs.lemmas.Bool.{false≢true}
use Rattle.std.proofs.lemmas.List.{take_all}
use Rattle.std.proofs.lemmas.Result.{err_from_is_err_and}
use Rattle.edf_store.proofs.Readiness.{stays_then}
use Rattle.edf_command.specs.Lines.{list_line, list_lines, first_list_lines}
use Rattle.edf_cli.specs.Output.{output_change, Gets, IsLineWritten}
use Rattle.edf_cli.proofs.Puts.{nothing-gets, gets-after, gets-no_more, stops-after}
use Rattle.edf_export.proofs.Walks.{stays_same, clean_before}
use Rattle.edf_command.proofs.Written.{listed-next, listed-past}
use Rattle.edf_command.proofs.listing.put_recordings.Goals as goal

pub loop-at-init : goal.loop-at-init
loop-at-init g c = record {
  stays = stays_same g.S.Store c.args.store.now;
  counted = refl;
  put = λ clean h holds held spell is. nothing-gets (g.O.Output.contents c.args.out.now)
      (g.O.Output.failures c.args.out.now);
}

pub loop-at-preserved : goal.loop-at-preserved
loop-at-preserved g c =
    let old = c.args.store.now in
    let mid = c.loop-at.store in
    let new = c.put_recording.new.store in
    let key = c.index-recordings-at.result in
    let at = c.loop-at.at in
    let recordings = c.args.recordings.now in
    record {
      stays = stays_then g.S.Store old mid new c.loop-at.invariant.stays
          c.in_ok-put_recording.ensures.stays;
      counted = c.in_ok-put_recording.ensures.counted c.if-not-branch.false
          ∙ c.loop-at.invariant.counted;
      put = λ clean h holds held spell is.
          let IsOut : List ℕ → Type 0 = λ bytes.
          Gets (output_change g.O.Output c.args.out.now c.put_recording.new.out) bytes in
          let some = held key (at, c.loop-at-test.true, sym c.index-recordings-at.is) in
          let first = c.loop-at.invariant.put
          (clean_before g.S.Store mid new c.in_ok-put_recording.ensures.stays clean) h holds held
          spell is in
          let IsOne : Bool → Type 0 = λ written.
          IsLineWritten (output_change g.O.Output c.loop-at.out c.put_recording.new.out)
          (list_line spell (at + 1) key (h key)) written in
          let one = subst IsOne c.if-not-branch.false
          (c.in_ok-put_recording.ensures.put clean h spell
          (c.loop-at.invariant.stays.holdings h holds) some is) in
          subst IsOut (sym (listed-next spell h recordings at key c.loop-at-test.true
          c.index-recordings-at.is))
          (gets-after (g.O.Output.contents c.args.out.now) (g.O.Output.failures c.args.out.now)
          (g.O.Output.contents c.loop-at.out) (g.O.Output.failures c.loop-at.out)
          (g.O.Output.contents c.put_recording.new.out)
          (g.O.Output.failures c.put_recording.new.out)
          (list_lines spell h 1 (take at recordings)) (list_line spell (at + 1) key (h key)) first
          one);
    }

pub returns-then-not-branch : goal.returns-then-not-branch
returns-then-not-branch g c =
    let old = c.args.store.now in
    let mid = c.loop-at.store in
    let new = c.put_recording.new.store in
    let key = c.index-recordings-at.result in
    let at = c.loop-at.at in
    let recordings = c.args.recordings.now in
    record {
      stays = stays_then g.S.Store old mid new c.loop-at.invariant.stays
          c.in_ok-put_recording.ensures.stays;
      counted = λ whole. absurd (false≢true whole);
      put = λ clean h spell holds held is.
          let some = held key (at, c.loop-at-test.true, sym c.index-recordings-at.is) in
          let first = c.loop-at.invariant.put
          (clean_before g.S.Store mid new c.in_ok-put_recording.ensures.stays clean) h holds held
          spell is in
          let IsOne : Bool → Type 0 = λ written.
          IsLineWritten (output_change g.O.Output c.loop-at.out c.put_recording.new.out)
          (list_line spell (at + 1) key (h key)) written in
          let one = subst IsOne c.if-not-branch.true
          (c.in_ok-put_recording.ensures.put clean h spell
          (c.loop-at.invariant.stays.holdings h holds) some is) in
          let past = listed-past spell h recordings at key c.loop-at-test.true
          c.index-recordings-at.is in
          stops-after (g.O.Output.contents c.args.out.now) (g.O.Output.failures c.args.out.now)
          (g.O.Output.contents c.loop-at.out) (g.O.Output.failures c.loop-at.out)
          (g.O.Output.contents c.put_recording.new.out)
          (g.O.Output.failures c.put_recording.new.out)
          (first_list_lines spell h recordings) (length recordings) at
          (list_line spell (at + 1) key (h key)) past.0 c.loop-at-test.true past.1 first one;
      unfailed = tt;
      refused = λ clean. tt;
    }

pub returns-in_err-put_recording-clause-stays : goal.returns-in_err-put_recording-clause-stays
returns-in_err-put_recording-clause-stays g c =
    stays_then g.S.Store c.args.store.now c.loop-at.store c.put_recording.new.store
    c.loop-at.invariant.stays c.in_err-put_recording.ensures.stays

pub returns-in_err-put_recording-clause-counted : goal.returns-in_err-put_recording-clause-counted
returns-in_err-put_recording-clause-counted g c =
    let p = err_from_is_err_and c.from_residual.result c.from_residual.ensures.1 in
    rw p.1 (c.in_err-put_recording.ensures.nothing.1 ∙ c.loop-at.invariant.counted)

pub returns-in_err-put_recording-clause-unfailed :
    goal.returns-in_err-put_recording-clause-unfailed
returns-in_err-put_recording-clause-unfailed g c =
    let p = err_from_is_err_and c.from_residual.result c.from_residual.ensures.1 in
    rw (p.1, p.2) c.in_err-put_recording.ensures.unfailed

pub returns-in_err-put_recording-clause-refused : goal.returns-in_err-put_recording-clause-refused
returns-in_err-put_recording-clause-refused g c clean =
    let p = err_from_is_err_and c.from_residual.result c.from_residual.ensures.1 in
    let mid = c.loop-at.store in
    let new = c.put_recording.new.store in
    let key = c.index-recordings-at.result in
    let at = c.loop-at.at in
    let recordings = c.args.recordings.now in
    rw (p.1, p.2) (
      at,
      λ h holds held.
          let some = held key (at, c.loop-at-test.true, sym c.index-recordings-at.is) in (
            c.in_err-put_recording.ensures.refused clean h
                (c.loop-at.invariant.stays.holdings h holds) some,
            λ spell is.
                let first = c.loop-at.invariant.put
                (clean_before g.S.Store mid new c.in_err-put_recording.ensures.stays clean) h holds
                held spell is in
                gets-no_more (g.O.Output.contents c.args.out.now)
                (g.O.Output.failures c.args.out.now) (g.O.Output.contents c.loop-at.out)
                (g.O.Output.failures c.loop-at.out)
                (g.O.Output.contents c.put_recording.new.out)
                (g.O.Output.failures c.put_recording.new.out)
                (list_lines spell h 1 (take at recordings)) first
                c.in_err-put_recording.ensures.nothing,
          ),
    )

pub returns : goal.returns
returns g c = record {
  stays = c.loop-at.invariant.stays;
  counted = λ _. c.loop-at.invariant.counted;
  put = λ clean h spell holds held is.
      let recordings = c.args.recordings.now in
      let IsOut : List ℕ → Type 0 = λ bytes.
      Gets (output_change g.O.Output c.args.out.now c.loop-at.out) bytes in
      let all = take_all c.loop-at.at recordings (omega arith)
      ∙ sym (take_all (length recordings) recordings (omega arith)) in
      subst IsOut (ap (list_lines spell h 1) all)
      (c.loop-at.invariant.put clean h holds held spell is);
  unfailed = tt;
  refused = λ clean. tt;
}
