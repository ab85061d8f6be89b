use Rattle.std.proofs.Common.{Result, Some, None, List, [], sym, subst, ◌∙◌, arith}
use Rattle.edf_field.specs.Number.{duration_of}
use Rattle.edf_fragment.specs.Fragment.{DataRecord}
use Rattle.edf_store.specs.StoreTx.{HasCauseOrIsUnclean, ReadsInTransaction}
use Rattle.edf_store.specs.declared.fault.StoreFault.{StoreFault}
use Rattle.edf_intake.specs.Inside.Verdict.{IsVerdict}
use Rattle.edf_intake.specs.declared.data_records.Lookup.{Lookup}
use Rattle.edf_intake.specs.declared.data_records.Verdict.TheVariants.{New}
use Rattle.edf_intake.proofs.Taking.{near_there, verdict_near, gap_found}
use Rattle.edf_intake.proofs.Transactions.{passed_on, reads_none, reads_as, reads_refused}
use Rattle.edf_intake.proofs.Transactions.{reads_then, reads_then_refused}
use Rattle.edf_intake.proofs.data_records.find_verdict.Goals as goal

pub returns-in-Some-clause-changes : goal.returns-in-Some-clause-changes
returns-in-Some-clause-changes g c =
    let lookup : Lookup = record { verdict = New; gap = Some c.in-Some.rest } in
    reads_none g.S.Store c.args.transaction.now
    (HasCauseOrIsUnclean g.S.Store c.args.transaction.now) lookup c.requires.running.running

pub returns-in-Some-clause-lookup : goal.returns-in-Some-clause-lookup
returns-in-Some-clause-lookup g c =
    let key = c.args.identity.now in
    record {
      verdict = λ clean h seen.
          sym (near_there c.duration-duration.result (duration_of key.duration)
          c.start-start.result c.args.data_record.now.start [] (h key)
          c.duration-duration.ensures.value c.start-start.ensures.value
          (sym (c.in-Some.ensures.none_near (h key) (c.requires.gap clean h seen))));
      gap = λ clean h seen. c.in-Some.ensures.rest (h key) (c.requires.gap clean h seen);
      from = c.in-Some.ensures.from ∙ c.start-start.ensures.value;
    }

pub near-requires-clause-recording : goal.near-requires-clause-recording
near-requires-clause-recording g c =
    (c.args.identity.now, c.requires.running.recording, c.duration-duration.ensures.value)

pub returns-in_err-near-clause-changes : goal.returns-in_err-near-clause-changes
returns-in_err-near-clause-changes g c =
    let first = c.args.transaction.now in
    let last = c.near.new.self in
    let Why = HasCauseOrIsUnclean g.S.Store last in
    passed_on c.from_residual.result c.in_err-near.field-0.0
    (λ (r : Result Lookup StoreFault). ReadsInTransaction g.S.Store first last r Why)
    c.from_residual.ensures.1
    (reads_refused g.S.Store first last Why c.in_err-near.field-0.0 c.in_err-near.ensures.changes)

pub next_start-requires-clause-recording : goal.next_start-requires-clause-recording
next_start-requires-clause-recording g c = (
  c.args.identity.now,
  c.in_ok-near.ensures.changes.same.ids c.args.id.row c.args.identity.now
      c.requires.running.recording,
)

pub returns-in_err-until-in-New-clause-changes : goal.returns-in_err-until-in-New-clause-changes
returns-in_err-until-in-New-clause-changes g c =
    let first = c.args.transaction.now in
    let mid = c.near.new.self in
    let last = c.next_start.new.self in
    let Why = HasCauseOrIsUnclean g.S.Store last in
    let fault = c.in_err-until-in-New.field-0.0 in
    passed_on c.from_residual-in_err-until-in-New.result fault
    (λ (r : Result Lookup StoreFault). ReadsInTransaction g.S.Store first last r Why)
    c.from_residual-in_err-until-in-New.ensures.1
    (reads_then_refused g.S.Store first mid last (HasCauseOrIsUnclean g.S.Store mid) Why
    c.in_ok-near.near c.in_ok-near.ensures.changes fault c.in_err-until-in-New.ensures.changes)

pub returns-in-New-clause-changes : goal.returns-in-New-clause-changes
returns-in-New-clause-changes g c =
    let first = c.args.transaction.now in
    let mid = c.near.new.self in
    let last = c.next_start.new.self in
    let until = c.in_ok-until-in-New.until in
    let lookup : Lookup = record {
      verdict = New;
      gap = Some (record { from = c.start-start.result; until = until });
    } in
    reads_then g.S.Store first mid last (HasCauseOrIsUnclean g.S.Store mid)
    (HasCauseOrIsUnclean g.S.Store last) c.in_ok-near.near c.in_ok-near.ensures.changes until lookup
    c.in_ok-until-in-New.ensures.changes

pub returns-in-New-clause-lookup : goal.returns-in-New-clause-lookup
returns-in-New-clause-lookup g c =
    let first = c.args.transaction.now.store.now in
    let mid = c.near.new.self.store.now in
    let key = c.args.identity.now in
    let read = c.in_ok-near.ensures.changes in
    record {
      verdict = λ clean. verdict_near g.S.Store first c.args.id.row key c.args.data_record.now
          c.start-start.result c.in_ok-near.near.items New c.start-start.ensures.value
          c.requires.running.recording
          (c.in_ok-near.ensures.near
          (omega (arith, c.in_ok-until-in-New.ensures.changes.stays.crash.clean)))
          (subst (λ (ns : List DataRecord). IsVerdict c.args.data_record.now ns New)
          c.as_slice.ensures.value c.in-New.ensures);
      gap = λ clean. gap_found g.S.Store first mid c.args.id.row key c.start-start.result
          c.in_ok-until-in-New.until read.stays.cap read.same c.requires.running.recording
          (c.in_ok-until-in-New.ensures.next clean);
      from = c.start-start.ensures.value;
    }

pub returns-clause-changes : goal.returns-clause-changes
returns-clause-changes g c =
    let last = c.near.new.self in
    let lookup : Lookup = record { verdict = c.verdict_of.result; gap = None } in
    reads_as g.S.Store c.args.transaction.now last (HasCauseOrIsUnclean g.S.Store last)
    c.in_ok-near.near lookup c.in_ok-near.ensures.changes

pub returns-clause-lookup : goal.returns-clause-lookup
returns-clause-lookup g c = record {
  verdict = λ clean. verdict_near g.S.Store c.args.transaction.now.store.now c.args.id.row
      c.args.identity.now c.args.data_record.now c.start-start.result c.in_ok-near.near.items
      c.verdict_of.result c.start-start.ensures.value c.requires.running.recording
      (c.in_ok-near.ensures.near clean)
      (subst (λ (ns : List DataRecord). IsVerdict c.args.data_record.now ns c.verdict_of.result)
      c.as_slice.ensures.value c.verdict_of.ensures);
  gap = λ clean h seen. tt;
  from = tt;
}
