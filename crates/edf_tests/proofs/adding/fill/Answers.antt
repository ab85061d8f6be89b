use Rattle.std.proofs.Common.{◌≡◌, ℕ, ◌<◌, [], length, arith, rules, sym, ap, subst, ◌∙◌}
use Rattle.std.proofs.lemmas.List.{nil_from_length}
use Rattle.sqlite.specs.State.{HasCleanDisk}
use Rattle.edf_header.specs.Key.{MayStart}
use Rattle.edf_store.specs.Held.{at, KeepsHoldings}
use Rattle.edf_store.specs.Transaction.{StillSees, EachHasRecordIn, IsAddedIn, MayAddIn, AreNearIn}
use Rattle.edf_store.specs.Transaction.{IsCountIn}
use Rattle.edf_store.proofs.Whole.{whole_but, still_but, whole_added}
use Rattle.edf_tests.proofs.Rooms.{may_take}
use Rattle.edf_tests.proofs.adding.fill.Goals as goal

pub near-requires-clause-recording : goal.near-requires-clause-recording
near-requires-clause-recording g c = (
  c.args.identity.now,
  c.in_ok-before.ensures.changes.same.ids c.in_ok-id.id.row c.args.identity.now
      c.in_ok-id.ensures.row_id.has_row_id,
  c.duration.ensures.value,
)

pub add-requires-clause-spare : goal.add-requires-clause-spare
add-requires-clause-spare g c =
    let a = at g.S.Store c.recording.new.self.store.now in
    let b = at g.S.Store c.count.new.self.store.now in
    let d = at g.S.Store c.near.new.self.store.now in
    let id = c.in_ok-id.id.row in
    let k = c.args.identity.now in
    let r = c.args.data_record.now in
    let cap = c.args.tx.now.store.now.cap in
    let records = c.in_ok-near.near.items in
    let cap_a = c.recording.ensures.changes.stays.cap in
    let cap_b = c.count.ensures.changes.stays.cap ∙ cap_a in
    let cap_d = c.near.ensures.changes.stays.cap ∙ cap_b in
    let oa = subst (λ n. StillSees n (at g.S.Store c.args.tx.now.store.now) a) cap_a
    c.in_ok-id.ensures.row_id.same in
    let ab = subst (λ n. StillSees n a b) cap_b c.in_ok-before.ensures.changes.same in
    let bd = subst (λ n. StillSees n b d) cap_d c.in_ok-near.ensures.changes.same in
    let few : c.in_ok-before.before < cap = omega (arith, c.if-before-cap.false, c.requires.cap) in
    let empty : length records ≡ 0 = search rules in
    let none : records ≡ [] = nil_from_length records empty in
    let kept = c.start-start.ensures.valid in
    subst (λ n. MayAddIn n d id r) (sym cap_d)
    (may_take cap a b d (λ clean. omega (arith, c.count.ensures.changes.stays.crash.clean, clean))
    (λ clean. omega (arith, c.near.ensures.changes.stays.crash.clean, clean)) oa.running ab bd id k
    r
    c.in_ok-before.before records c.in_ok-id.ensures.row_id.has_row_id
    (λ clean. subst (λ n. IsCountIn n a id c.in_ok-before.before) cap_a
    (c.in_ok-before.ensures.count clean))
    (λ clean. subst (λ n. AreNearIn cap b id n records) c.start-start.ensures.value
    (subst (λ n. AreNearIn n b id c.start-start.result records) cap_b
    (c.in_ok-near.ensures.near clean)))
    none few
    (record {
      samples_len = ap length (sym c.samples.ensures.value) ∙ c.if-samples-ordinary_bytes.false
          ∙ c.ordinary_bytes.ensures.value;
      start = kept.start;
      limits = kept.size.annotations;
      notes = kept.notes;
    })
    (λ none_there. subst (λ n. MayStart k n) c.start-start.ensures.value
    (c.may_start.ensures.0 c.if-not-may_start.false)))

pub look-requires-clause-whole : goal.look-requires-clause-whole
look-requires-clause-whole g c =
    let o = at g.S.Store c.args.tx.now.store.now in
    let a = at g.S.Store c.recording.new.self.store.now in
    let b = at g.S.Store c.count.new.self.store.now in
    let d = at g.S.Store c.near.new.self.store.now in
    let e = at g.S.Store c.add.new.self.store.now in
    let id = c.in_ok-id.id.row in
    let k = c.args.identity.now in
    let r = c.args.data_record.now in
    let cap = c.args.tx.now.store.now.cap in
    let cap_a = c.recording.ensures.changes.stays.cap in
    let cap_b = c.count.ensures.changes.stays.cap ∙ cap_a in
    let cap_d = c.near.ensures.changes.stays.cap ∙ cap_b in
    let cap_e = c.add.ensures.changes.stays.cap ∙ cap_d in
    let oa = subst (λ n. StillSees n o a) cap_a c.in_ok-id.ensures.row_id.same in
    let ab = subst (λ n. StillSees n a b) cap_b c.in_ok-before.ensures.changes.same in
    let bd = subst (λ n. StillSees n b d) cap_d c.in_ok-near.ensures.changes.same in
    let added = subst (λ n. IsAddedIn n d e id r) cap_e c.in_ok-add.ensures.added in
    let under = bd.ids id k (ab.ids id k c.in_ok-id.ensures.row_id.has_row_id) in
    let but_a = whole_but cap o a (λ clean. omega (
      arith,
      c.recording.ensures.changes.stays.crash.clean,
      clean,
    )) c.requires.running oa k c.in_ok-id.ensures.row_id.only c.requires.whole in
    let but_b = still_but cap a b (λ clean. omega (
      arith,
      c.count.ensures.changes.stays.crash.clean,
      clean,
    ))
    oa.running ab k c.in_ok-before.ensures.changes.only but_a in
    let but_d = still_but cap b d (λ clean. omega (
      arith,
      c.near.ensures.changes.stays.crash.clean,
      clean,
    ))
    ab.running bd k c.in_ok-near.ensures.changes.only but_b in
    subst (λ n. EachHasRecordIn n e) (sym cap_e)
    (whole_added cap d e (λ clean. omega (arith, c.add.ensures.changes.stays.crash.clean, clean))
    bd.running
    k id r added under but_d)

pub look-requires-clause-recording : goal.look-requires-clause-recording
look-requires-clause-recording g c =
    let id = c.in_ok-id.id.row in
    let k = c.args.identity.now in
    c.in_ok-add.ensures.added.ids id k
    (c.in_ok-near.ensures.changes.same.ids id k
    (c.in_ok-before.ensures.changes.same.ids id k c.in_ok-id.ensures.row_id.has_row_id))
