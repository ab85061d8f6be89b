-- What a transaction sees as it begins, and what a call leaves that does nothing.
use Rattle.std.proofs.Common.{◌≡◌, ℕ, true, IsTrue, refl, sym, subst, subst₂, ◌∙◌, arith}
use Rattle.sqlite_trees.specs.declared.store.Store.{Ghosts}
use Rattle.sqlite.specs.Tree.{Trees}
use Rattle.sqlite.specs.Effect.{Database}
use Rattle.sqlite.specs.State.{State, HasCleanDisk, Survives, Shows}
use Rattle.edf_holdings.specs.Holdings.{Holdings}
use Rattle.edf_rows.specs.Rows.{Represent}
use Rattle.edf_tables.specs.Schema.{HasBoth}
use Rattle.edf_tables.specs.Others.{KeepsOthers}
use Rattle.edf_tables.proofs.Commits.{survives_same}
use Rattle.edf_tables.proofs.Others.{others_same}
use Rattle.edf_store.specs.Held.{StoreModel, at, AreHeld, IsSoundStore, KeepsHoldings}
use Rattle.edf_store.specs.Transaction.{AreSeen, SeesSome}
use Rattle.edf_store.proofs.Held.{others_committed_same}

module _ (cap : ℕ) (old new : State) (P : Trees →
    Type 0) (s : Survives old new P) (shows : HasCleanDisk new →
    Shows old new old.now old.committed true)
    (settled : IsTrue old.is_open → old.now ≡ old.committed) (sound : IsSoundStore cap old) where
  -- it sees what is held
  pub begun_sees : (h : Holdings) → AreHeld cap old h → AreSeen cap new h
  begun_sees h held clean =
      let begun = shows clean in
      let was : HasCleanDisk old = omega (arith, s.clean) in
      let kept = held was begun.was_open in
      let same : new.now ≡ old.committed = begun.now_is ∙ settled begun.was_open in
      record {
        is_open = begun.is_open;
        inside = record {
          schema = subst (λ (d : Database). HasBoth d.schema) (sym same)
              (sound.schema was begun.was_open);
          mode = begun.mode;
        };
        stand = subst (λ (d : Database). Represent d.trees h) (sym same) kept.stand;
        sound = kept.sound;
        others = subst₂ KeepsOthers (sym begun.committed_is) (sym same) (others_same old.committed);
      }

  pub begun_runs : SeesSome cap new
  begun_runs clean =
      let had = sound.holdings (omega (arith, s.clean)) (shows clean).was_open in
      (had.0, begun_sees had.0 (λ _ _. had.1) clean)

pub stays_same : {S : Type 0} (g : Ghosts S) (store : StoreModel S) → KeepsHoldings g store store
stays_same g store = record {
  cap = refl;
  holdings = λ h held. held;
  others =
      others_committed_same (at g store);
  crash = survives_same (at g store) _;
}
