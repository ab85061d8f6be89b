use Rattle.std.proofs.Common.{◌≡◌, ℕ, List, length, Option, Some, Result, Err, sym, ap, subst, ◌∙◌}
use Rattle.std.specs.Result.{IfErr}
use Rattle.sqlite_trees.specs.declared.store.Store.{Ghosts}
use Rattle.edf_header.specs.Key.{Key}
use Rattle.edf_header.specs.Header.{Layout, most_records}
use Rattle.edf_fragment.proofs.Fragments.{open_refused}
use Rattle.edf_fragment.specs.Fragment.{DataRecord}
use Rattle.edf_fragment.specs.Parsed.{Fragment}
use Rattle.edf_holdings.specs.Holdings.{Holdings}
use Rattle.edf_holdings.specs.Reply.{reply}
use Rattle.edf_store.specs.Call.{IsUnclean}
use Rattle.edf_store.specs.declared.transaction.StoreTx.{StoreTx}
use Rattle.edf_store.proofs.Faults.{with_cause}
use Rattle.edf_store.proofs.Readiness.{stays_then}
use Rattle.edf_fragment.specs.Call.{input_state}
use Rattle.edf_intake.specs.Refusal.{reply_of}
use Rattle.edf_intake.specs.Inside.Verdict.{IsSpare, AreFindings}
use Rattle.edf_intake.specs.Inside.Transaction.{IsRunningFor, KeepsRunning}
use Rattle.edf_intake.specs.Inside.Halt.{refusal_of_fragment_fault, HaltsReading}
use Rattle.edf_intake.specs.Inside.Taken.{IsDestination, IsAcceptedInTransaction, StopsWith}
use Rattle.edf_intake.specs.declared.data_records.Destination.{Destination}
use Rattle.edf_intake.specs.declared.data_records.Findings.{Findings}
use Rattle.edf_intake.specs.declared.answer.Receipt.{Receipt}
use Rattle.edf_intake.specs.declared.answer.Refusal.{Refusal}
use Rattle.edf_intake.specs.declared.answer.Stop.{Stop}
use Rattle.edf_intake.specs.declared.answer.Stop.TheVariants.{Input, Store}
use Rattle.edf_intake.proofs.Halting.{stopped_by, reads_header_alone, halted}
use Rattle.edf_intake.proofs.Transactions.{passed_on, keeps_none}
use Rattle.edf_intake.proofs.Wholes.{is_accepted, is_refused}
use Rattle.edf_intake.proofs.fragment.take_fragment.Goals as goal

abbrev receipt_of : Key → ℕ → ℕ → Receipt
receipt_of k n m = record { identity = k; new = n; known = m }

-- the destination that was found under the identity is there under the layout's key
destination_of : {S : Type 0} (g : Ghosts S) (first made : StoreTx S) (k : Key) (l : Layout)
    (count : Option ℕ) (d : Destination) → k ≡ l.key → count ≡ l.count →
    IsDestination g first made k (most_records count) d →
    IsDestination g first made l.key (most_records l.count) d
destination_of g first made k l count d named counted there =
    subst (λ (x : Key). IsDestination g first made x (most_records l.count) d) named
    (subst (λ (n : Option ℕ). IsDestination g first made k (most_records n) d) counted there)

-- the answer to the whole fragment, under the cap that the store has
answered : (m n spare : ℕ) (k : Key) (records : List DataRecord) (findings : Findings)
    (refusal : Refusal) → m ≡ n
    → ((h : Holdings) → IsSpare m (length (h k)) (length records) spare →
    AreFindings k h records findings →
    reply_of (Err refusal) ≡ Some (reply m h (Fragment k records)))
    → (h : Holdings) → IsSpare n (length (h k)) (length records) spare →
    AreFindings k h records findings →
    reply_of (Err refusal) ≡ Some (reply n h (Fragment k records))
answered m n spare k records findings refusal capped answer =
    subst (λ (x : ℕ). (h : Holdings) → IsSpare x (length (h k)) (length records) spare →
    AreFindings k h records findings →
    reply_of (Err refusal) ≡ Some (reply x h (Fragment k records))) capped answer

pub returns-in_err-fragment-clause-changes : goal.returns-in_err-fragment-clause-changes
returns-in_err-fragment-clause-changes g c =
    keeps_none g.S.Store c.args.transaction.now c.from_residual.result c.requires.running

pub returns-in_err-fragment-clause-stopped : goal.returns-in_err-fragment-clause-stopped
returns-in_err-fragment-clause-stopped g c =
    let tx = c.args.transaction.now in
    let from = input_state g.R.Input c.args.input.now in
    let to = input_state g.R.Input c.read.new.input in
    let fault = c.in_err-fragment.field-0.0 in
    passed_on c.from_residual.result (Input (refusal_of_fragment_fault fault))
    (λ (r : Result Receipt Stop). IfErr r (StopsWith g.S.Store tx tx from to))
    c.from_residual.ensures.1
    (stopped_by g.S.Store tx tx from to fault
    (open_refused from.remaining to.remaining fault c.in_err-fragment.ensures.step)
    c.in_err-fragment.ensures.counted)

pub returns-in_err-destination-clause-changes : goal.returns-in_err-destination-clause-changes
returns-in_err-destination-clause-changes g c =
    let p = c.in_err-destination.ensures.changes in
    passed_on c.from_residual-in_err-destination.result (Store c.in_err-destination.field-0.0)
    (λ (r : Result Receipt Stop).
    KeepsRunning g.S.Store c.args.transaction.now c.find_destination.new.transaction r)
    c.from_residual-in_err-destination.ensures.1
    (record { same_reference = p.same_reference; stays = p.stays; running = tt })

pub returns-in_err-destination-clause-stopped : goal.returns-in_err-destination-clause-stopped
returns-in_err-destination-clause-stopped g c =
    let first = c.args.transaction.now in
    let made = c.find_destination.new.transaction in
    let from = input_state g.R.Input c.args.input.now in
    let to = input_state g.R.Input c.read.new.input in
    let fault = c.in_err-destination.field-0.0 in
    passed_on c.from_residual-in_err-destination.result (Store fault)
    (λ (r : Result Receipt Stop). IfErr r (StopsWith g.S.Store first made from to))
    c.from_residual-in_err-destination.ensures.1 (
      reads_header_alone from to c.in_ok-fragment.fragment.header c.in_ok-fragment.ensures.step.0
          c.in_ok-fragment.ensures.counted,
      with_cause ⊥ (IsUnclean g.S.Store made.store.now) ⊥ fault
          c.in_err-destination.ensures.changes.why,
    )

pub take_records-requires-clause-running : goal.take_records-requires-clause-running
take_records-requires-clause-running g c =
    let named : c.identity.result.now ≡ c.in_ok-fragment.fragment.header.key = c.identity.ensures
    ∙ ap (λ (l : Layout). l.key) c.header-header.ensures in
    subst (IsRunningFor g.S.Store c.find_destination.new.transaction
    c.in_ok-destination.destination.id.row) named (record {
      running = c.in_ok-destination.ensures.changes.running;
      recording = c.in_ok-destination.ensures.is_destination.recording;
    })

pub take_records-requires-clause-spare : goal.take_records-requires-clause-spare
take_records-requires-clause-spare g c =
    let l = c.in_ok-fragment.fragment.header in
    let named : c.identity.result.now ≡ l.key = c.identity.ensures
    ∙ ap (λ (x : Layout). x.key) c.header-header.ensures in
    let counted : c.count.result ≡ l.count = c.count.ensures.value
    ∙ ap (λ (x : Layout). x.count) c.header-header.ensures in
    (destination_of g.S.Store c.args.transaction.now c.find_destination.new.transaction
    c.identity.result.now l c.count.result c.in_ok-destination.destination named counted
    c.in_ok-destination.ensures.is_destination).spare

pub take_records-requires-clause-header : goal.take_records-requires-clause-header
take_records-requires-clause-header g c = record {
  before = g.R.Input.remaining c.args.input.now;
  header = c.in_ok-fragment.ensures.step.0;
  none_read = c.in_ok-fragment.ensures.step.1;
}

pub returns-in-None-clause-changes : goal.returns-in-None-clause-changes
returns-in-None-clause-changes g c =
    let p = c.in_ok-destination.ensures.changes in
    let q = c.in_ok-findings.ensures.changes in
    record {
      same_reference = q.same_reference ∙ p.same_reference;
      stays = stays_then g.S.Store c.args.transaction.now.store.now
          c.find_destination.new.transaction.store.now c.take_records.new.transaction.store.now
          p.stays q.stays;
      running = q.running;
    }

pub returns-in-None-clause-accepted : goal.returns-in-None-clause-accepted
returns-in-None-clause-accepted g c =
    let first = c.args.transaction.now in
    let made = c.find_destination.new.transaction in
    let last = c.take_records.new.transaction in
    let l = c.in_ok-fragment.fragment.header in
    let from = input_state g.R.Input c.args.input.now in
    let mid = input_state g.R.Input c.read.new.input in
    let to = input_state g.R.Input c.take_records.new.input in
    let d = c.in_ok-destination.destination in
    let findings = c.in_ok-findings.findings in
    let named : c.identity.result.now ≡ l.key = c.identity.ensures
    ∙ ap (λ (x : Layout). x.key) c.header-header.ensures in
    let counted : c.count.result ≡ l.count = c.count.ensures.value
    ∙ ap (λ (x : Layout). x.count) c.header-header.ensures in
    let there = destination_of g.S.Store first made c.identity.result.now l c.count.result d named
    counted c.in_ok-destination.ensures.is_destination in
    let identity : c.into_identity-identity.result ≡ l.key = c.into_identity-identity.ensures
    ∙ ap (λ (x : Layout). x.key) (c.into_header.ensures ∙ c.in_ok-findings.ensures.header) in
    subst (λ (k : Key). IsAcceptedInTransaction g.S.Store first last from to
    (receipt_of k findings.new findings.known)) (sym identity)
    (is_accepted g.S.Store first made last from mid to l d findings
    c.in_ok-fragment.ensures.step.0 c.in_ok-fragment.ensures.counted
    c.in_ok-destination.ensures.changes.stays c.in_ok-findings.ensures.changes.stays there
    c.in_ok-findings.ensures.taken (c.conflict.ensures.accepted c.in-None.is) c.requires.whole
    c.requires.running)

pub returns-in-Some-clause-changes : goal.returns-in-Some-clause-changes
returns-in-Some-clause-changes g c =
    let p = c.in_ok-destination.ensures.changes in
    let q = c.in_ok-findings.ensures.changes in
    record {
      same_reference = q.same_reference ∙ p.same_reference;
      stays = stays_then g.S.Store c.args.transaction.now.store.now
          c.find_destination.new.transaction.store.now c.take_records.new.transaction.store.now
          p.stays q.stays;
      running = tt;
    }

pub returns-in-Some-clause-stopped : goal.returns-in-Some-clause-stopped
returns-in-Some-clause-stopped g c =
    let first = c.args.transaction.now in
    let made = c.find_destination.new.transaction in
    let last = c.take_records.new.transaction in
    let l = c.in_ok-fragment.fragment.header in
    let from = input_state g.R.Input c.args.input.now in
    let mid = input_state g.R.Input c.read.new.input in
    let to = input_state g.R.Input c.take_records.new.input in
    let d = c.in_ok-destination.destination in
    let findings = c.in_ok-findings.findings in
    let taken = c.in_ok-findings.ensures.taken in
    let named : c.identity.result.now ≡ l.key = c.identity.ensures
    ∙ ap (λ (x : Layout). x.key) c.header-header.ensures in
    let counted : c.count.result ≡ l.count = c.count.ensures.value
    ∙ ap (λ (x : Layout). x.count) c.header-header.ensures in
    let there = destination_of g.S.Store first made c.identity.result.now l c.count.result d named
    counted c.in_ok-destination.ensures.is_destination in
    is_refused g.S.Store first made last from mid to l d findings
    c.in_ok-fragment.ensures.step.0 c.in_ok-fragment.ensures.counted
    c.in_ok-destination.ensures.changes.stays c.in_ok-findings.ensures.changes.stays there taken
    c.in-Some.refusal c.in-Some.ensures.refused
    (answered c.args.cap first.store.now.cap d.spare l.key taken.records findings
    c.in-Some.refusal c.requires.cap (λ h. c.in-Some.ensures.answer l.key h taken.records))

pub returns-in_err-findings-clause-changes : goal.returns-in_err-findings-clause-changes
returns-in_err-findings-clause-changes g c =
    let first = c.args.transaction.now in
    let made = c.find_destination.new.transaction in
    let last = c.take_records.new.transaction in
    let p = c.in_ok-destination.ensures.changes in
    let q = c.in_err-findings.ensures.changes in
    passed_on c.from_residual-in_err-findings.result c.in_err-findings.field-0.0
    (λ (r : Result Receipt Stop). KeepsRunning g.S.Store first last r)
    c.from_residual-in_err-findings.ensures.1 (record {
      same_reference = q.same_reference ∙ p.same_reference;
      stays = stays_then g.S.Store first.store.now made.store.now last.store.now p.stays q.stays;
      running = tt;
    })

pub returns-in_err-findings-clause-stopped : goal.returns-in_err-findings-clause-stopped
returns-in_err-findings-clause-stopped g c =
    let first = c.args.transaction.now in
    let last = c.take_records.new.transaction in
    let from = input_state g.R.Input c.args.input.now in
    let to = input_state g.R.Input c.take_records.new.input in
    let stop = c.in_err-findings.field-0.0 in
    passed_on c.from_residual-in_err-findings.result stop
    (λ (r : Result Receipt Stop). IfErr r (StopsWith g.S.Store first last from to))
    c.from_residual-in_err-findings.ensures.1
    (halted g.S.Store first last from to stop (subst (λ (n : ℕ). HaltsReading g.S.Store last
    (record { remaining = from.remaining; failed = n }) to stop)
    c.in_ok-fragment.ensures.counted
    (c.in_err-findings.ensures.halted from.remaining c.in_ok-fragment.ensures.step.0)))
