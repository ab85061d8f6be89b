-- That each recording holds a record, from call to call of a transaction.
use Rattle.std.proofs.Common.{◌≡◌, ◌≢◌, inl, inr, ℕ, ℤ, Bool, true, false, []}
use Rattle.std.proofs.Common.{◌∷◌, refl, sym, subst, ◌∙◌, true≢false}
use Rattle.std.proofs.lemmas.Bool.{cond-true, cond-false}
use Rattle.sqlite.specs.State.{State, HasCleanDisk}
use Rattle.edf_header.specs.Key.{Key}
use Rattle.edf_fragment.specs.Fragment.{DataRecord}
use Rattle.edf_holdings.specs.Same.{same_key}
use Rattle.edf_holdings.specs.Rising.{union}
use Rattle.edf_holdings.specs.Holdings.{Holdings, with_records}
use Rattle.edf_holdings.proofs.Same.{same_key-Decides}
use Rattle.edf_rows.proofs.Rows.{one-holdings}
use Rattle.edf_store.specs.Transaction.{AreSeen, SeesSome, StillSees, HasRowId, AddsNoRecordingIn}
use Rattle.edf_store.specs.Transaction.{AddsOnlyRecordingIn, IsAddedIn, EachHasRecordIn}
use Rattle.edf_holdings.proofs.Sound.{inserted-some}

-- each recording but this one holds a record
abbrev pub IsWholeBut : Key → ℕ → State → Type 0
IsWholeBut made cap s = HasCleanDisk s → (h : Holdings) (id : ℤ) (k : Key) → AreSeen cap s h →
    HasRowId s id k → k ≢ made → h k ≢ []

module _ (cap : ℕ) (a b : State) (was : HasCleanDisk b → HasCleanDisk a) (running : SeesSome cap a)
  where
    under_before : HasCleanDisk b → AddsNoRecordingIn a b → (id : ℤ) (k : Key) → HasRowId b id k →
        HasRowId a id k
    under_before clean none id k under =
        record { key = under.key; there = λ _. none clean id k (under.there clean) }

    module _ (sees : StillSees cap a b) where
      -- what is seen was seen
      pub seen_before : HasCleanDisk b → (h : Holdings) → AreSeen cap b h → AreSeen cap a h
      seen_before clean h seen =
          let it = running (was clean) in
          let then = sees.holdings it.0 (λ _. it.1) clean in
          let now = seen clean in
          subst (AreSeen cap a) (one-holdings b.now.trees it.0 h cap cap then.stand then.sound
          now.stand now.sound) (λ _. it.1)

      pub still_whole : AddsNoRecordingIn a b → EachHasRecordIn cap a → EachHasRecordIn cap b
      still_whole none whole clean h id k seen under =
          whole (was clean) h id k (seen_before clean h seen) (under_before clean none id k under)

      pub whole_but : (made : Key) → AddsOnlyRecordingIn made a b → EachHasRecordIn cap a →
          IsWholeBut made cap b
      whole_but made only whole clean h id k seen under other =
          elim (only clean id k (under.there clean)) [
            | inl there ↦ whole (was clean) h id k (seen_before clean h seen)
                (record { key = under.key; there = λ _. there })
            | inr same ↦ absurd (other same)
          ]

      pub still_but : (made : Key) → AddsNoRecordingIn a b → IsWholeBut made cap a →
          IsWholeBut made cap b
      still_but made none whole clean h id k seen under other =
          whole (was clean) h id k (seen_before clean h seen) (under_before clean none id k under)
          other

    -- the recording that was made holds the record that is added
    pub whole_added : (made : Key) (id : ℤ) (r : DataRecord) → IsAddedIn cap a b id r →
        HasRowId a id made → IsWholeBut made cap a → EachHasRecordIn cap b
    whole_added made id r added mine whole clean h m k seen under =
        let it = running (was clean) in
        let then = added.holdings it.0 made (λ _. it.1) mine clean in
        let now = seen clean in
        let same : with_records made (r ∷ []) it.0 ≡ h =
        one-holdings b.now.trees (with_records made (r ∷ []) it.0) h cap cap then.stand then.sound
        now.stand now.sound in
        subst (λ (g : Holdings). g k ≢ []) same
        (go it.0 (whole (was clean) it.0 m k (λ _. it.1) (under_before clean added.only m k under))
        (same_key made k) refl)
      where
        go : (g : Holdings) → (k ≢ made → g k ≢ []) → (s : Bool) → same_key made k ≡ s →
            with_records made (r ∷ []) g k ≢ []
        go g held true e empty = inserted-some r (g k)
            (sym (cond-true (same_key made k) (union (g k) (r ∷ [])) (g k) e) ∙ empty)
        go g held false e empty =
            held (λ p. true≢false (sym ((same_key-Decides made k).1 (sym p)) ∙ e))
            (sym (cond-false (same_key made k) (union (g k) (r ∷ [])) (g k) e) ∙ empty)
