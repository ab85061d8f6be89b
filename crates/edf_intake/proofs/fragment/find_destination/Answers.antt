use Rattle.std.proofs.Common.{Option, IfSome, Result, sym, subst, ◌∙◌, ℕ}
use Rattle.edf_header.specs.Header.{most_records}
use Rattle.edf_store.specs.Fault.{HasCause}
use Rattle.edf_store.specs.StoreTx.{KeepsTransaction}
use Rattle.edf_store.specs.declared.fault.StoreFault.{StoreFault}
use Rattle.edf_intake.specs.Inside.Verdict.{IsSpareInTransaction}
use Rattle.edf_intake.specs.declared.data_records.Destination.{Destination}
use Rattle.edf_intake.proofs.Taking.{sees_as}
use Rattle.edf_intake.proofs.Finding.{at_most, room_left}
use Rattle.edf_intake.proofs.Transactions.{passed_on, reads_then, reads_then_refused, stays_read}
use Rattle.edf_intake.proofs.Transactions.{stays_read_refused, stays_refused}
use Rattle.edf_intake.proofs.fragment.find_destination.Goals as goal

pub returns-in_err-id-clause-changes : goal.returns-in_err-id-clause-changes
returns-in_err-id-clause-changes g c =
    let first = c.args.transaction.now in
    let made = c.recording.new.self in
    let fault = c.in_err-id.field-0.0 in
    passed_on c.from_residual.result fault
    (λ (r : Result Destination StoreFault). KeepsTransaction g.S.Store first made r)
    c.from_residual.ensures.1
    (stays_refused g.S.Store first made fault c.in_err-id.ensures.changes)

pub known_spare-requires : goal.known_spare-requires
known_spare-requires g c = record {
  running = record {
    running = c.in_ok-id.ensures.changes.running;
    recording = c.in_ok-id.ensures.row_id.has_row_id;
  };
}

pub returns-in_err-spare-clause-changes : goal.returns-in_err-spare-clause-changes
returns-in_err-spare-clause-changes g c =
    let first = c.args.transaction.now in
    let made = c.recording.new.self in
    let asked = c.known_spare.new.transaction in
    let fault = c.in_err-spare.field-0.0 in
    passed_on c.from_residual-in_err-spare.result fault
    (λ (r : Result Destination StoreFault). KeepsTransaction g.S.Store first asked r)
    c.from_residual-in_err-spare.ensures.1
    (stays_read_refused g.S.Store first made asked c.in_ok-id.id c.in_ok-id.ensures.changes fault
    c.in_err-spare.ensures.changes)

pub returns-in-Some-clause-changes : goal.returns-in-Some-clause-changes
returns-in-Some-clause-changes g c =
    let d : Destination = record { id = c.in_ok-id.id; spare = c.in-Some.spare } in
    stays_read g.S.Store c.args.transaction.now c.recording.new.self c.known_spare.new.transaction
    c.in_ok-id.id c.in_ok-id.ensures.changes c.in_ok-spare.field-0 d c.in_ok-spare.ensures.changes

pub returns-in-Some-clause-is_destination : goal.returns-in-Some-clause-is_destination
returns-in-Some-clause-is_destination g c =
    let first = c.args.transaction.now.store.now in
    let made = c.recording.new.self.store.now in
    let asked = c.known_spare.new.transaction in
    let key = c.args.identity.now in
    let found = c.in_ok-id.ensures.row_id in
    let read = c.in_ok-spare.ensures.changes in
    record {
      recording = read.same.ids c.in_ok-id.id.row key found.has_row_id;
      same = λ h seen. sees_as g.S.Store made asked.store.now read.stays.cap read.same h
          (sees_as g.S.Store first made c.in_ok-id.ensures.changes.stays.cap found.same h seen);
      only = at_most g.S.Store key first made asked.store.now read.stays found.only read.only;
      spare = subst (λ (o : Option ℕ). IfSome o
          (IsSpareInTransaction g.S.Store asked key (most_records c.args.count))) c.in-Some.is
          c.in_ok-spare.ensures.spare;
    }

pub count-requires-clause-recording : goal.count-requires-clause-recording
count-requires-clause-recording g c = (
  c.args.identity.now,
  c.in_ok-spare.ensures.changes.same.ids c.in_ok-id.id.row c.args.identity.now
      c.in_ok-id.ensures.row_id.has_row_id,
)

pub returns-in_err-held-clause-changes : goal.returns-in_err-held-clause-changes
returns-in_err-held-clause-changes g c =
    let first = c.args.transaction.now in
    let made = c.recording.new.self in
    let asked = c.known_spare.new.transaction in
    let last = c.count.new.self in
    let fault = c.in_err-held.field-0.0 in
    passed_on c.from_residual-in_err-held.result fault
    (λ (r : Result Destination StoreFault). KeepsTransaction g.S.Store first last r)
    c.from_residual-in_err-held.ensures.1
    (stays_read_refused g.S.Store first made last c.in_ok-id.id c.in_ok-id.ensures.changes fault
    (reads_then_refused g.S.Store {Z = ℕ} made asked last HasCause HasCause c.in_ok-spare.field-0
    c.in_ok-spare.ensures.changes fault c.in_err-held.ensures.changes))

pub returns-clause-changes : goal.returns-clause-changes
returns-clause-changes g c =
    let first = c.args.transaction.now in
    let made = c.recording.new.self in
    let asked = c.known_spare.new.transaction in
    let last = c.count.new.self in
    let held = c.in_ok-held.held in
    let d : Destination = record { id = c.in_ok-id.id; spare = c.saturating_sub-spare.result } in
    stays_read g.S.Store first made last c.in_ok-id.id c.in_ok-id.ensures.changes held d
    (reads_then g.S.Store made asked last HasCause HasCause c.in_ok-spare.field-0
    c.in_ok-spare.ensures.changes held held c.in_ok-held.ensures.changes)

pub returns-clause-is_destination : goal.returns-clause-is_destination
returns-clause-is_destination g c =
    let first = c.args.transaction.now.store.now in
    let made = c.recording.new.self in
    let asked = c.known_spare.new.transaction in
    let last = c.count.new.self in
    let id = c.in_ok-id.id.row in
    let key = c.args.identity.now in
    let found = c.in_ok-id.ensures.row_id in
    let spare = c.in_ok-spare.ensures.changes in
    let held = c.in_ok-held.ensures.changes in
    let read = reads_then g.S.Store made asked last HasCause HasCause c.in_ok-spare.field-0 spare
    c.in_ok-held.held c.in_ok-held.held held in
    record {
      recording = read.same.ids id key found.has_row_id;
      same = λ h seen. sees_as g.S.Store made.store.now last.store.now read.stays.cap read.same h
          (sees_as g.S.Store first made.store.now c.in_ok-id.ensures.changes.stays.cap found.same
          h seen);
      only = at_most g.S.Store key first made.store.now last.store.now read.stays found.only
          read.only;
      spare = room_left g.S.Store asked last id key
          (record { running = spare.running; recording = spare.same.ids id key found.has_row_id })
          c.in_ok-held.held HasCause held (most_records c.args.count) c.args.cap c.in_ok-held.held
          c.saturating_sub-spare.result
          (c.requires.cap ∙ sym c.in_ok-id.ensures.changes.stays.cap ∙ sym spare.stays.cap)
          c.in_ok-held.ensures.count c.saturating_sub-spare.ensures;
    }
