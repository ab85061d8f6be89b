use Rattle.std.proofs.Common.{◌≡◌, ℕ, ◌<◌, ◌++◌, ◌∷◌, [], length, Option, Some, None, Ok, Err, refl}
use Rattle.std.proofs.Common.{sym, ap, subst, ◌∙◌, arith, rules}
use Rattle.sqlite.specs.State.{HasCleanDisk}
use Rattle.edf_header.specs.Key.{Key, MayStart}
use Rattle.edf_header.specs.Header.{Layout, IsLayout}
use Rattle.edf_header.proofs.Cited.{header-has-layout}
use Rattle.edf_fragment.specs.Fragment.{DataRecord}
use Rattle.edf_fragment.specs.Reading.{IsNextAnswer, CountsReadFault, initial_progress}
use Rattle.edf_fragment.specs.declared.advance.Progress.{Progress}
use Rattle.edf_fragment.proofs.Runs.{next_of}
use Rattle.edf_fragment.proofs.Fragments.{one_more_read, refused_then}
use Rattle.edf_store.specs.Held.{at}
use Rattle.edf_store.proofs.Readiness.{stays_then}
use Rattle.edf_intake.specs.Inside.Transaction.{IsRunningFor}
use Rattle.edf_intake.specs.Inside.Gap.{IsGapInTransaction}
use Rattle.edf_intake.specs.Inside.Course.{IsRecordTaken}
use Rattle.edf_intake.specs.declared.data_records.Findings.{Findings}
use Rattle.edf_intake.proofs.Meeting.{MetSoFar}
use Rattle.edf_intake.proofs.Steps.{at_start, few_seen, first_seen, one_more_met, at_end}
use Rattle.edf_intake.proofs.Taking.{no_more}
use Rattle.edf_intake.proofs.Transactions.{stays_here}
use Rattle.edf_intake.proofs.data_records.take_records.Goals as goal

pub records-init : goal.records-init
records-init g c =
    let left = g.R.Input.remaining c.args.input.now in
    let store = c.args.transaction.now.store.now in
    let header = c.args.fragment.now.header in
    let findings : Findings = record { new = 0; known = 0; clash = None } in
    let fresh = c.requires.header in
    let begun : MetSoFar g.S.Store store store header left left initial_progress findings =
    at_start g.S.Store store header fresh.before left fresh.header c.args.destination.spare
    c.requires.spare in
    record {
      same_reference = refl;
      stays = stays_here g.S.Store store;
      running = c.requires.running;
      only = λ clean id k there. there;
      header = refl;
      reading = ap (λ (p : Progress). p.state) fresh.none_read;
      counted = refl;
      so_far = subst (λ (p : Progress). MetSoFar g.S.Store store store header left left p findings)
          (sym fresh.none_read) begun;
      gap = λ clean h seen. tt;
    }

pub take_record-requires-clause-running : goal.take_record-requires-clause-running
take_record-requires-clause-running g c =
    let same : c.identity-identity.result.now ≡ c.args.fragment.now.header.key =
    c.identity-identity.ensures ∙ ap (λ (l : Layout). l.key) (c.header.ensures
    ∙ (c.in-Ok-Some.ensures.header ∙ c.records.invariant.header)) in
    subst (IsRunningFor g.S.Store c.records.transaction c.args.destination.id.row) (sym same)
    c.records.invariant.running

pub take_record-requires-clause-next : goal.take_record-requires-clause-next
take_record-requires-clause-next g c =
    let inv = c.records.invariant in
    let l = c.args.fragment.now.header in
    let first = c.args.transaction.now.store.now in
    let now = c.records.transaction.store.now in
    let left = g.R.Input.remaining c.args.input.now in
    let mid = g.R.Input.remaining c.records.input in
    let rest = g.R.Input.remaining c.next.new.input in
    let from = c.records.fragment.progress in
    let to = c.next.new.self.progress in
    let r = c.in-Ok-Some.data_record in
    let head = c.requires.header.header in
    let same : c.identity-identity.result.now ≡ l.key = c.identity-identity.ensures
    ∙ ap (λ (x : Layout). x.key) (c.header.ensures ∙ (c.in-Ok-Some.ensures.header ∙ inv.header)) in
    let answer = subst (λ (o : Option DataRecord). IsNextAnswer l from to mid rest (Ok o))
    c.in-Ok-Some.field-0-is
    (subst (λ (x : Layout). IsNextAnswer x from to mid rest (Ok c.in-Ok-Some.field-0)) inv.header
    c.in-Ok-Some.ensures.answer) in
    let step = next_of l from to mid rest (Some r) r inv.reading answer refl in
    let layout : IsLayout l = subst IsLayout (sym head.layout_is)
    (header-has-layout head.bytes head.header [] head.is_header) in
    let was : HasCleanDisk (at g.S.Store now) → HasCleanDisk (at g.S.Store first) =
    λ clean. omega (arith, inv.stays.crash.clean) in
    let sees = c.requires.running.running in
    record {
      sound = search rules;
      below_cap = λ clean may h seen. subst (λ (k : Key). length (h k) < now.cap) (sym same)
          (few_seen g.S.Store first l c.requires.header.before left head c.args.destination.spare
          c.requires.spare now mid from c.records.course.findings inv.so_far sees was inv.stays.cap
          clean may.0 may.1 h seen);
      first = λ clean may h seen. subst (λ (k : Key). h k ≡ [] → MayStart k r.start) (sym same)
          (first_seen g.S.Store first l c.requires.header.before left head
          c.args.destination.spare c.requires.spare now mid rest from to c.records.course.findings r
          inv.so_far inv.reading answer sees was clean may.0 may.1 h seen);
      countable = omega (arith, inv.so_far.counted, step.1.may_come, layout.count.1);
      gap = subst (λ (k : Key). IsGapInTransaction g.S.Store c.records.transaction k
          c.records.course.gap)
          (sym same) inv.gap;
    }

pub returns-in-Err-take_record-clause-changes : goal.returns-in-Err-take_record-clause-changes
returns-in-Err-take_record-clause-changes g c =
    let inv = c.records.invariant in
    let e = c.in-Err-take_record.ensures.changes in
    record {
      same_reference = e.same_reference ∙ inv.same_reference;
      stays = stays_then g.S.Store c.args.transaction.now.store.now
          c.records.transaction.store.now c.take_record.new.transaction.store.now inv.stays
          e.stays;
      running = tt;
    }

pub returns-in-Err-take_record-clause-halted : goal.returns-in-Err-take_record-clause-halted
returns-in-Err-take_record-clause-halted g c left head =
    let inv = c.records.invariant in
    let l = c.args.fragment.now.header in
    let first = g.R.Input.remaining c.args.input.now in
    let mid = g.R.Input.remaining c.records.input in
    let rest = g.R.Input.remaining c.next.new.input in
    let from = c.records.fragment.progress in
    let to = c.next.new.self.progress in
    let r = c.in-Ok-Some.data_record in
    let answer = subst (λ (o : Option DataRecord). IsNextAnswer l from to mid rest (Ok o))
    c.in-Ok-Some.field-0-is
    (subst (λ (x : Layout). IsNextAnswer x from to mid rest (Ok c.in-Ok-Some.field-0)) inv.header
    c.in-Ok-Some.ensures.answer) in (
      record {
        layout = l;
        mid = first;
        records = inv.so_far.records ++ r ∷ [];
        progress = to;
        header = head;
        read = (one_more_read l first mid rest inv.so_far.records from to r inv.so_far.read
            inv.reading answer).0;
        counted = c.in-Ok-Some.ensures.counted ∙ inv.counted;
      },
      c.in-Err-take_record.ensures.why,
    )

pub records-preserved : goal.records-preserved
records-preserved g c =
    let inv = c.records.invariant in
    let first = c.args.transaction.now.store.now in
    let now = c.records.transaction.store.now in
    let next = c.take_record.new.transaction.store.now in
    let l = c.args.fragment.now.header in
    let left = g.R.Input.remaining c.args.input.now in
    let mid = g.R.Input.remaining c.records.input in
    let rest = g.R.Input.remaining c.next.new.input in
    let from = c.records.fragment.progress in
    let to = c.next.new.self.progress in
    let r = c.in-Ok-Some.data_record in
    let e = c.in-Ok.ensures.changes in
    let id = c.args.destination.id.row in
    let spare = c.args.destination.spare in
    let same : c.identity-identity.result.now ≡ l.key = c.identity-identity.ensures
    ∙ ap (λ (x : Layout). x.key) (c.header.ensures ∙ (c.in-Ok-Some.ensures.header ∙ inv.header)) in
    let taken = subst (λ (k : Key). IsRecordTaken g.S.Store c.records.transaction
    c.take_record.new.transaction k r id spare c.records.course c.in-Ok.next) same
    c.in-Ok.ensures.taken in
    let answer = subst (λ (o : Option DataRecord). IsNextAnswer l from to mid rest (Ok o))
    c.in-Ok-Some.field-0-is
    (subst (λ (x : Layout). IsNextAnswer x from to mid rest (Ok c.in-Ok-Some.field-0)) inv.header
    c.in-Ok-Some.ensures.answer) in
    let step = next_of l from to mid rest (Some r) r inv.reading answer refl in
    let was : HasCleanDisk (at g.S.Store next) → HasCleanDisk (at g.S.Store now) =
    λ clean. omega (arith, e.stays.crash.clean) in
    let was_first : HasCleanDisk (at g.S.Store now) → HasCleanDisk (at g.S.Store first) =
    λ clean. omega (arith, inv.stays.crash.clean) in
    record {
      same_reference = e.same_reference ∙ inv.same_reference;
      stays = stays_then g.S.Store first now next inv.stays e.stays;
      running = record { running = e.running; recording = taken.recording };
      only = no_more g.S.Store first now next e.stays inv.only taken.only;
      header = c.in-Ok-Some.ensures.header ∙ inv.header;
      reading = ap (λ (p : Progress). p.state) step.0;
      counted = c.in-Ok-Some.ensures.counted ∙ inv.counted;
      so_far = one_more_met g.S.Store first l c.requires.header.before left
          c.requires.header.header spare c.requires.spare now next mid rest from to
          c.records.course.findings c.in-Ok.next.findings r inv.so_far inv.reading answer
          (ap (λ (p : Progress). p.given) step.0) step.1.may_come was was_first taken.counts
          taken.counted;
      gap = taken.gap;
    }

pub returns-in-Ok-None-clause-changes : goal.returns-in-Ok-None-clause-changes
returns-in-Ok-None-clause-changes g c =
    let inv = c.records.invariant in
    record {
      same_reference = inv.same_reference;
      stays = inv.stays;
      running = inv.running.running;
    }

pub returns-in-Ok-None-clause-taken : goal.returns-in-Ok-None-clause-taken
returns-in-Ok-None-clause-taken g c =
    let inv = c.records.invariant in
    let l = c.args.fragment.now.header in
    let mid = g.R.Input.remaining c.records.input in
    let rest = g.R.Input.remaining c.next.new.input in
    let from = c.records.fragment.progress in
    let to = c.next.new.self.progress in
    let answer = subst (λ (o : Option DataRecord). IsNextAnswer l from to mid rest (Ok o))
    c.in-Ok-None.field-0-is
    (subst (λ (x : Layout). IsNextAnswer x from to mid rest (Ok c.in-Ok-None.field-0)) inv.header
    c.in-Ok-None.ensures.answer) in
    let end = at_end g.S.Store c.args.transaction.now.store.now l c.requires.header.before
    (g.R.Input.remaining c.args.input.now) c.requires.header.header c.args.destination.spare
    c.requires.spare
    c.records.transaction.store.now mid rest from to c.records.course.findings inv.so_far
    inv.reading answer (λ clean. omega (arith, inv.stays.crash.clean)) in
    record {
      only = inv.only;
      counted = c.in-Ok-None.ensures.counted ∙ inv.counted;
      records = inv.so_far.records;
      read = end.0;
      findings_are = end.1;
    }

pub returns-in-Err-clause-changes : goal.returns-in-Err-clause-changes
returns-in-Err-clause-changes g c =
    let inv = c.records.invariant in
    record { same_reference = inv.same_reference; stays = inv.stays; running = tt }

pub returns-in-Err-clause-halted : goal.returns-in-Err-clause-halted
returns-in-Err-clause-halted g c left head =
    let inv = c.records.invariant in
    let l = c.args.fragment.now.header in
    let first = g.R.Input.remaining c.args.input.now in
    let mid = g.R.Input.remaining c.records.input in
    let rest = g.R.Input.remaining c.next.new.input in
    let from = c.records.fragment.progress in
    let to = c.next.new.self.progress in
    let answer = subst (λ (x : Layout). IsNextAnswer x from to mid rest (Err c.in-Err.fault))
    inv.header
    c.in-Err.ensures.answer in (
      c.in-Err.fault,
      c.refusal_of_fragment_fault.ensures,
      refused_then l left first mid rest inv.so_far.records from to c.in-Err.fault head
          inv.so_far.read inv.reading answer,
      subst (λ (n : ℕ). CountsReadFault n (g.R.Input.failures c.next.new.input) c.in-Err.fault)
          inv.counted c.in-Err.ensures.counted,
    )
