use Rattle.std.proofs.Common.{Result, Ok, sym, ◌∙◌}
use Rattle.edf_store.specs.StoreTx.{HasCauseOrIsUnclean}
use Rattle.edf_store.specs.declared.fault.StoreFault.{StoreFault}
use Rattle.edf_store.proofs.Readiness.{stays_then}
use Rattle.edf_intake.specs.Inside.Transaction.{KeepsRunning}
use Rattle.edf_intake.specs.declared.data_records.Course.{Course}
use Rattle.edf_intake.proofs.Taking.{none_of, clashed_before, clash_met, known_met, full_met}
use Rattle.edf_intake.proofs.Taking.{may_take, added_met}
use Rattle.edf_intake.proofs.Transactions.{passed_on, keeps_none}
use Rattle.edf_intake.proofs.data_records.take_record.Goals as goal
use Rattle.edf_intake.proofs.data_records.take_record.Goals.{then-findings-spare+in_ok-add-in-New}
use Rattle.edf_intake.proofs.data_records.take_record.Goals.{else-findings-spare}

pub returns-then-is_some-clause-changes : goal.returns-then-is_some-clause-changes
returns-then-is_some-clause-changes g c =
    keeps_none g.S.Store c.args.transaction.now (Ok c.args.course) c.requires.running.running

pub returns-then-is_some-clause-taken : goal.returns-then-is_some-clause-taken
returns-then-is_some-clause-taken g c =
    clashed_before g.S.Store c.args.destination.id.row c.args.identity.now c.args.data_record.now
    c.args.destination.spare c.args.course c.args.transaction.now c.requires.running
    (sym c.is_some.ensures ∙ c.if-is_some.true) c.requires.next.gap

pub returns-in_err-lookup-clause-changes : goal.returns-in_err-lookup-clause-changes
returns-in_err-lookup-clause-changes g c =
    let p = c.in_err-lookup.ensures.changes in
    passed_on c.from_residual.result c.in_err-lookup.field-0.0 (λ (r : Result Course StoreFault).
    KeepsRunning g.S.Store c.args.transaction.now c.find_verdict.new.transaction r)
    c.from_residual.ensures.1
    (record { same_reference = p.same_reference; stays = p.stays; running = tt })

pub returns-in-Clashes-clause-changes : goal.returns-in-Clashes-clause-changes
returns-in-Clashes-clause-changes g c =
    let p = c.in_ok-lookup.ensures.changes in
    record { same_reference = p.same_reference; stays = p.stays; running = p.running }

pub returns-in-Clashes-clause-taken : goal.returns-in-Clashes-clause-taken
returns-in-Clashes-clause-taken g c =
    let mid = c.find_verdict.new.transaction in
    clash_met g.S.Store c.args.destination.id.row c.args.identity.now c.args.data_record.now
    c.args.destination.spare c.args.course c.args.transaction.now c.requires.running mid
    (HasCauseOrIsUnclean g.S.Store mid) c.in_ok-lookup.lookup c.in_ok-lookup.ensures.changes
    c.in_ok-lookup.ensures.lookup
    (none_of c.args.course.findings.clash (sym c.is_some.ensures ∙ c.if-is_some.false))
    c.start-start.result c.in-Clashes.stored c.start-start.ensures.value c.in-Clashes.is

pub returns-in-Known-clause-changes : goal.returns-in-Known-clause-changes
returns-in-Known-clause-changes g c =
    let p = c.in_ok-lookup.ensures.changes in
    record { same_reference = p.same_reference; stays = p.stays; running = p.running }

pub returns-in-Known-clause-taken : goal.returns-in-Known-clause-taken
returns-in-Known-clause-taken g c =
    let mid = c.find_verdict.new.transaction in
    known_met g.S.Store c.args.destination.id.row c.args.identity.now c.args.data_record.now
    c.args.destination.spare c.args.course c.args.transaction.now c.requires.running mid
    (HasCauseOrIsUnclean g.S.Store mid) c.in_ok-lookup.lookup c.in_ok-lookup.ensures.changes
    c.in_ok-lookup.ensures.lookup
    (none_of c.args.course.findings.clash (sym c.is_some.ensures ∙ c.if-is_some.false))
    c.in-Known.is

pub add-requires-clause-spare : goal.add-requires-clause-spare
add-requires-clause-spare g c =
    let mid = c.find_verdict.new.transaction in
    may_take g.S.Store c.args.destination.id.row c.args.identity.now c.args.data_record.now
    c.args.destination.spare c.args.course c.args.transaction.now c.requires.running mid
    (HasCauseOrIsUnclean g.S.Store mid) c.in_ok-lookup.lookup c.in_ok-lookup.ensures.changes
    c.in_ok-lookup.ensures.lookup
    (none_of c.args.course.findings.clash (sym c.is_some.ensures ∙ c.if-is_some.false))
    c.in-New.is c.if-findings-spare.true c.requires.next

pub returns-in_err-add-in-New-clause-changes : goal.returns-in_err-add-in-New-clause-changes
returns-in_err-add-in-New-clause-changes g c =
    let first = c.args.transaction.now in
    let mid = c.find_verdict.new.transaction in
    let last = c.add.new.self in
    let p = c.in_ok-lookup.ensures.changes in
    let q = c.in_err-add-in-New.ensures.changes in
    passed_on c.from_residual-in_err-add-in-New.result c.in_err-add-in-New.field-0.0
    (λ (r : Result Course StoreFault). KeepsRunning g.S.Store first last r)
    c.from_residual-in_err-add-in-New.ensures.1 (record {
      same_reference = q.same_reference ∙ p.same_reference;
      stays = stays_then g.S.Store first.store.now mid.store.now last.store.now p.stays q.stays;
      running = tt;
    })

pub returns-after-findings-spare-clause-changes : goal.returns-after-findings-spare-clause-changes
returns-after-findings-spare-clause-changes g c =
    let first = c.args.transaction.now.store.now in
    let mid = c.find_verdict.new.transaction.store.now in
    let p = c.in_ok-lookup.ensures.changes in
    elim c.if-findings-spare.branch [
      | then-findings-spare+in_ok-add-in-New w ↦
          let q = w.in_ok-add-in-New.ensures.changes in
          rw w.transaction-is (record {
            same_reference = q.same_reference ∙ p.same_reference;
            stays = stays_then g.S.Store first mid w.add.new.self.store.now p.stays q.stays;
            running = q.running;
          })
      | else-findings-spare w ↦ rw w.transaction-is (record {
        same_reference = p.same_reference;
        stays = p.stays;
        running = p.running;
      })
    ]

pub returns-after-findings-spare-clause-taken : goal.returns-after-findings-spare-clause-taken
returns-after-findings-spare-clause-taken g c =
    let id = c.args.destination.id.row in
    let key = c.args.identity.now in
    let r = c.args.data_record.now in
    let spare = c.args.destination.spare in
    let course = c.args.course in
    let first = c.args.transaction.now in
    let mid = c.find_verdict.new.transaction in
    let Why = HasCauseOrIsUnclean g.S.Store mid in
    let lookup = c.in_ok-lookup.lookup in
    let read = c.in_ok-lookup.ensures.changes in
    let is = c.in_ok-lookup.ensures.lookup in
    let none = none_of course.findings.clash (sym c.is_some.ensures ∙ c.if-is_some.false) in
    elim c.if-findings-spare.branch [
      | then-findings-spare+in_ok-add-in-New w ↦ rw w.transaction-is
          (added_met g.S.Store id key r spare course first c.requires.running mid Why lookup read is
          none c.in-New.is w.if-findings-spare.true w.add.new.self
          w.in_ok-add-in-New.ensures.changes.stays w.in_ok-add-in-New.ensures.added)
      | else-findings-spare w ↦ rw w.transaction-is
          (full_met g.S.Store id key r spare course first c.requires.running mid Why lookup read is
          none c.in-New.is w.if-findings-spare.false)
    ]
