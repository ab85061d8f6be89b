use Rattle.std.proofs.Common.{◌≡◌, ℕ, arith, sym, subst, ◌∙◌}
use Rattle.sqlite.specs.State.{HasCleanDisk}
use Rattle.edf_store.specs.Held.{at, KeepsHoldings}
use Rattle.edf_store.specs.Transaction.{StillSees, EachHasRecordIn}
use Rattle.edf_store.proofs.Whole.{still_whole}
use Rattle.edf_tests.proofs.adding.look.Goals as goal

pub near-requires-clause-recording : goal.near-requires-clause-recording
near-requires-clause-recording g c = (
  c.args.identity.now,
  c.in_ok-after.ensures.changes.same.ids c.args.id.row c.args.identity.now
      c.requires.recording,
  c.duration.ensures.value,
)

pub returns-clause-whole : goal.returns-clause-whole
returns-clause-whole g c =
    let a = at g.S.Store c.args.tx.now.store.now in
    let b = at g.S.Store c.count.new.self.store.now in
    let d = at g.S.Store c.near.new.self.store.now in
    let cap = c.args.tx.now.store.now.cap in
    let cap_b = c.count.ensures.changes.stays.cap in
    let cap_d = c.near.ensures.changes.stays.cap ∙ cap_b in
    let ab = subst (λ n. StillSees n a b) cap_b c.in_ok-after.ensures.changes.same in
    let bd = subst (λ n. StillSees n b d) cap_d c.in_ok-near.ensures.changes.same in
    subst (λ n. EachHasRecordIn n d) (sym cap_d)
    (still_whole cap b d (λ clean. omega (arith, c.near.ensures.changes.stays.crash.clean, clean))
    ab.running bd c.in_ok-near.ensures.changes.only
    (still_whole cap a b (λ clean. omega (arith, c.count.ensures.changes.stays.crash.clean, clean))
    c.requires.running ab c.in_ok-after.ensures.changes.only c.requires.whole))
