use Rattle.std.proofs.Common.{Option, sym, subst, ℕ}
use Rattle.edf_header.specs.Header.{most_records}
use Rattle.edf_store.specs.Fault.{HasCause}
use Rattle.edf_store.specs.Transaction.{IsCapacityAnswer}
use Rattle.edf_intake.specs.Inside.Verdict.{IsSpareInTransaction}
use Rattle.edf_intake.proofs.Finding.{room_now}
use Rattle.edf_intake.proofs.fragment.known_spare.Goals as goal

pub has_capacity-requires-clause-recording : goal.has_capacity-requires-clause-recording
has_capacity-requires-clause-recording g c =
    (c.args.identity.now, c.requires.running.recording, c.duration.ensures.value)

pub returns-then-fits-clause-spare : goal.returns-then-fits-clause-spare
returns-then-fits-clause-spare g c =
    let old = c.args.transaction.now in
    let new = c.has_capacity.new.self in
    let id = c.args.id.row in
    let key = c.args.identity.now in
    let count = c.in-Some.count in
    subst (λ (o : Option ℕ). IsSpareInTransaction g.S.Store new key (most_records o) count)
    (sym c.in-Some.is)
    (room_now g.S.Store old new id key c.requires.running c.in_ok-fits.fits HasCause
    c.in_ok-fits.ensures.changes count (λ clean. subst
    (IsCapacityAnswer g.S.Store old.store.now id count)
    c.if-fits.true (c.in_ok-fits.ensures.spare clean)))
