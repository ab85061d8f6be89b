-- What calls keep of a store.
use Rattle.std.proofs.Common.{◌≡◌, ℕ, ℤ, false, IsTrue, sym, subst, subst₂, ◌∙◌, arith}
use Rattle.sqlite.specs.Tree.{Trees}
use Rattle.sqlite.specs.Effect.{Database}
use Rattle.sqlite.specs.State.{State, HasCleanDisk, Survives, KeepsCommit, IsUnchanged, Shows}
use Rattle.edf_header.specs.Key.{Key}
use Rattle.edf_holdings.specs.Holdings.{Holdings}
use Rattle.edf_rows.specs.Rows.{RepresentCommitted, Represent, HasRecordingRow}
use Rattle.edf_tables.specs.Schema.{HasBoth}
use Rattle.sqlite.specs.Schema.{Schema}
use Rattle.sqlite.proofs.StateLemmas.{survives_weaker, survives_then}
use Rattle.sqlite_rules.specs.Edit.{IsNoIndex}
use Rattle.edf_tables.specs.Others.{KeepsTrees, KeepsOthers}
use Rattle.edf_tables.proofs.Commits.{survives_same}
use Rattle.edf_tables.proofs.Others.{others_same, others_then}
use Rattle.edf_store.specs.Held.{AreHeld, IsSoundStore, KeepsOtherTables}
use Rattle.edf_store.specs.Transaction.{SeesSome, IsTransactionOf, HasRowId, StillSees}

-- what keeps the commit keeps what is true of a store
pub still_sound : (cap : ℕ) (old new : State) (P : Trees → Type 0) → Survives old new P →
    (HasCleanDisk new → KeepsCommit old new) → IsSoundStore cap old → IsSoundStore cap new
still_sound cap old new P s keeps sound = record {
  cap_from = sound.cap_from;
  cap_to = sound.cap_to;
  schema = λ clean is_open. let it = keeps clean in
      subst (λ (d : Database). HasBoth d.schema) (sym (it.committed is_open))
      (sound.schema (omega (arith, s.clean)) (it.was_open is_open));
  holdings = λ clean is_open.
      let it = keeps clean in
      let had = sound.holdings (omega (arith, s.clean)) (it.was_open is_open) in (
        had.0,
        subst (λ (d : Database). RepresentCommitted cap d.trees had.0) (sym (it.committed is_open))
            had.1,
      );
}

-- and what it holds
pub still_held : (cap : ℕ) (old new : State) (P : Trees → Type 0) → Survives old new P →
    (HasCleanDisk new → KeepsCommit old new) → (h : Holdings) → AreHeld cap old h →
    AreHeld cap new h
still_held cap old new P s keeps h held clean is_open =
    let it = keeps clean in
    subst (λ (d : Database). RepresentCommitted cap d.trees h) (sym (it.committed is_open))
    (held (omega (arith, s.clean)) (it.was_open is_open))

-- and what is beside it
pub still_others : (old new : State) → Survives old new (λ _. ⊥) →
    (HasCleanDisk new → KeepsCommit old new) → KeepsOtherTables old new
still_others old new s keeps = record {
  was_open = λ clean is_open. (keeps clean).was_open is_open;
  others = λ clean is_open. subst (KeepsOthers old.committed)
      (sym ((keeps clean).committed is_open)) (others_same old.committed);
  crash = survives_weaker old new _ _ (λ clean db none. absurd none) s;
}

-- a row more leaves the transaction with what was beside it
pub others_on : (b c : State) → KeepsOthers b.now c.now → c.committed ≡ b.committed →
    KeepsOthers b.committed b.now → KeepsOthers c.committed c.now
others_on b c step same it = subst (λ (d : Database). KeepsOthers d c.now) (sym same)
    (others_then b.committed b.now c.now it step)

-- a commit leaves it, whatever is answered
module _ (cap : ℕ) (old new : State) (s : Survives old new (λ db. db ≡ old.now.trees))
    (running : SeesSome cap old) where
  crash_others : Survives old new (λ rows. IsTrue old.is_open
      × KeepsTrees old.committed.schema old.committed.trees rows)
  crash_others = survives_weaker old new _ _ (λ clean db made.
      let it = (running (omega (arith, s.clean))).1 in (
        it.is_open,
        subst (KeepsTrees old.committed.schema old.committed.trees) (sym made) it.others.trees,
      )) s

  pub committed_others : (HasCleanDisk new → Shows old new old.now old.now false) →
      KeepsOtherTables old new
  committed_others shows = record {
    was_open = λ clean is_open. (shows clean).was_open;
    others = λ clean is_open. subst (KeepsOthers old.committed) (sym (shows clean).committed_is)
        (running (omega (arith, s.clean))).1.others;
    crash = crash_others;
  }

  pub refused_others : (HasCleanDisk new → KeepsCommit old new) → KeepsOtherTables old new
  refused_others keeps = record {
    was_open = λ clean is_open. (keeps clean).was_open is_open;
    others = λ clean is_open. subst (KeepsOthers old.committed)
        (sym ((keeps clean).committed is_open)) (others_same old.committed);
    crash = crash_others;
  }

pub others_committed_same : (s : State) → KeepsOtherTables s s
others_committed_same s = record {
  was_open = λ clean is_open. is_open;
  others =
      λ clean is_open. others_same s.committed;
  crash = survives_same s _;
}

pub others_committed_then : (a b c : State) → KeepsOtherTables a b → KeepsOtherTables b c →
    KeepsOtherTables a c
others_committed_then a b c p q = record {
  was_open = λ clean is_open. p.was_open (omega (arith, q.crash.clean)) (q.was_open clean is_open);
  others = λ clean is_open. others_then a.committed b.committed c.committed
      (p.others (omega (arith, q.crash.clean)) (q.was_open clean is_open)) (q.others clean is_open);
  crash = survives_then a b c _ _ _ (λ clean db left. left) (λ clean db left.
      let early : HasCleanDisk b = omega (arith, q.crash.clean) in
      let kept = p.others early left.0 in (
        p.was_open early left.0,
        λ tree one two none.
            left.1 tree one two (subst (λ (s : Schema). IsNoIndex s tree) (sym kept.schema) none)
            ∙ kept.trees tree one two none,
      )) p.crash q.crash;
}

-- an unchanged transaction stands for the same holdings
pub still_inside : (cap : ℕ) (old new : State) (h : Holdings) → IsUnchanged old new →
    IsTransactionOf cap old h → IsTransactionOf cap new h
still_inside cap old new h same it = record {
  is_open = same.0.is_open;
  inside = record {
    schema = subst (λ (d : Database). HasBoth d.schema) (sym same.0.now_is) it.inside.schema;
    mode = subst IsTrue (sym same.0.mode) it.inside.mode;
  };
  stand = subst (λ (d : Database). Represent d.trees h) (sym same.0.now_is) it.stand;
  sound = it.sound;
  others = subst₂ KeepsOthers (sym same.0.committed_is) (sym same.0.now_is) it.others;
}

pub still_under : (old new : State) (P : Trees → Type 0) → Survives old new P →
    (HasCleanDisk new → IsUnchanged old new) → (id : ℤ) (k : Key) → HasRowId old id k →
    HasRowId new id k
still_under old new P s same id k it = record {
  key = it.key;
  there = λ clean. subst (λ (d : Database). HasRecordingRow d.trees id k)
      (sym (same clean).0.now_is) (it.there (omega (arith, s.clean)));
}

pub sees_on : (cap : ℕ) (old new : State) (P : Trees → Type 0) → Survives old new P →
    (HasCleanDisk new → IsUnchanged old new) → SeesSome cap old → StillSees cap old new
sees_on cap old new P s same running = record {
  running = λ clean. let it = running (omega (arith, s.clean)) in
      (it.0, still_inside cap old new it.0 (same clean) it.1);
  holdings = λ h seen clean. still_inside cap old new h (same clean)
      (seen (omega (arith, s.clean)));
  ids = still_under old new P s same;
}
