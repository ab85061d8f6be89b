-- What lists of submissions leave, and that a later repeat leaves it so.
use Rattle.std.proofs.Common.{◌≡◌, ℕ, true, false, List, [], ◌∷◌, ◌++◌, refl, sym, ap, subst, ◌∙◌}
use Rattle.std.proofs.Common.{inl, inr}
use Rattle.std.proofs.lemmas.Bool.{cond_both, cond-true, cond-false, both_ways, cases_Bool}
use Rattle.std.proofs.lemmas.Bool.{false_from_ne_true}
use Rattle.edf_fragment.specs.Fragment.{DataRecord}
use Rattle.edf_fragment.specs.Parsed.{Parsed, Fragment, Fault}
use Rattle.edf_holdings.specs.Holdings.{Holdings, with_records}
use Rattle.edf_holdings.specs.Reply.{IsWellFormed, fits, after_one, after}
use Rattle.edf_holdings.specs.Laws.{AreWellFormed}
use Rattle.edf_holdings.proofs.Members.{In, Within, joined_has}
use Rattle.edf_holdings.proofs.Joining.{IsGood, Grows, MayJoin-from_fits, fits_from_MayJoin}
use Rattle.edf_holdings.proofs.Joining.{MayJoin-smaller, IsGood-put, put_grows, put_held, put_here}
use Rattle.edf_holdings.proofs.Joining.{apart-sound}

-- one submission

pub IsGood-one : (cap : ℕ) (h : Holdings) (t : Parsed) → IsWellFormed t → IsGood cap h →
    IsGood cap (after_one cap h t)
unfolding after_one
IsGood-one cap h (Fault fault) w g = g
IsGood-one cap h (Fragment key records) w g =
    cond_both (fits cap key records h) (with_records key records h) h (IsGood cap)
    (λ e. IsGood-put cap key records h w.0 (apart-sound key 0 records w.1) g
    (MayJoin-from_fits cap key records h e))
    (λ _. g)

pub one_grows : (cap : ℕ) (h : Holdings) (t : Parsed) → Grows h (after_one cap h t)
unfolding after_one
one_grows cap h (Fault fault) = λ k y m. m
one_grows cap h (Fragment key records) =
    cond_both (fits cap key records h) (with_records key records h) h (Grows h)
    (λ _. put_grows key records h) (λ _ k y m. m)

-- what was met once changes larger holdings no more
pub one_settled : (cap : ℕ) (h h' : Holdings) (t : Parsed) → IsWellFormed t → IsGood cap h →
    IsGood cap h' → Grows (after_one cap h t) h' → after_one cap h' t ≡ h'
unfolding after_one
one_settled cap h h' (Fault fault) w g g' up = refl
one_settled cap h h' (Fragment key records) w g g' up =
    elim (cases_Bool (fits cap key records h)) [
      | inl e ↦ cond_both (fits cap key records h') (with_records key records h') h'
          (λ (z : Holdings). z ≡ h') (λ _. put_held cap key records h' w.0 g' (held e)) (λ _. refl)
      | inr e ↦ cond-false _ _ _ (false_from_ne_true _
          (λ t. both_ways _ e (fits_from_MayJoin cap key records h
          (MayJoin-smaller cap key records h h' w.0 (apart-sound key 0 records w.1) g g' (kept e)
          (MayJoin-from_fits cap key records h' t)))))
    ]
  where
    held : fits cap key records h ≡ true → Within records (h' key)
    held e y m = up key y (subst (λ (z : Holdings). In y (z key))
        (sym (cond-true (fits cap key records h) (with_records key records h) h e))
        (subst (λ (l : List DataRecord). In y l) (sym (put_here key records h))
        (joined_has (h key) records y m)))

    kept : fits cap key records h ≡ false → Grows h h'
    kept e = subst (λ (z : Holdings). Grows z h')
        (cond-false (fits cap key records h) (with_records key records h) h e) up

-- lists of submissions

pub IsGood-after : (cap : ℕ) (h : Holdings) (ts : List Parsed) → AreWellFormed ts → IsGood cap h →
    IsGood cap (after cap h ts)
IsGood-after cap h [] w g = g
IsGood-after cap h (t ∷ ts) w g =
    IsGood-after cap (after_one cap h t) ts w.1 (IsGood-one cap h t w.0 g)

pub after_grows : (cap : ℕ) (h : Holdings) (ts : List Parsed) → Grows h (after cap h ts)
after_grows cap h [] k y m = m
after_grows cap h (t ∷ ts) k y m =
    after_grows cap (after_one cap h t) ts k y (one_grows cap h t k y m)

pub after-append : (cap : ℕ) (h : Holdings) (ts us : List Parsed) →
    after cap h (ts ++ us) ≡ after cap (after cap h ts) us
after-append cap h [] us = refl
after-append cap h (t ∷ ts) us = after-append cap (after_one cap h t) ts us

pub sound_front : (ts us : List Parsed) → AreWellFormed (ts ++ us) → AreWellFormed ts
sound_front [] us w = tt
sound_front (t ∷ ts) us w = (w.0, sound_front ts us w.1)

pub sound_back : (ts us : List Parsed) → AreWellFormed (ts ++ us) → AreWellFormed us
sound_back [] us w = w
sound_back (t ∷ ts) us w = sound_back ts us w.1

-- a member that comes again later changes nothing
pub repeat_settled : (cap : ℕ) (h : Holdings) (ts : List Parsed) (t : Parsed) (us : List Parsed) →
    AreWellFormed (ts ++ (t ∷ us)) → IsGood cap h
    → after_one cap (after cap h (ts ++ (t ∷ us))) t ≡ after cap h (ts ++ (t ∷ us))
repeat_settled cap h ts t us w g =
    let front = sound_front ts (t ∷ us) w in let back = sound_back ts (t ∷ us) w in
    subst (λ (z : Holdings). after_one cap z t ≡ z) (sym (after-append cap h ts (t ∷ us)))
    (one_settled cap (after cap h ts) (after cap (after_one cap (after cap h ts) t) us) t back.0
    (IsGood-after cap h ts front g) (IsGood-after cap (after_one cap (after cap h ts) t) us back.1
    (IsGood-one cap (after cap h ts) t back.0 (IsGood-after cap h ts front g)))
    (after_grows cap (after_one cap (after cap h ts) t) us))

-- larger holdings than those after a list are changed by none of its members
pub list_settled : (cap : ℕ) (h h' : Holdings) (ts : List Parsed) → AreWellFormed ts →
    IsGood cap h → IsGood cap h' → Grows (after cap h ts) h' → after cap h' ts ≡ h'
list_settled cap h h' [] w g g' up = refl
list_settled cap h h' (t ∷ ts) w g g' up =
    ap (λ (z : Holdings). after cap z ts)
    (one_settled cap h h' t w.0 g g' (λ k y m.
    up k y (after_grows cap (after_one cap h t) ts k y m)))
    ∙ list_settled cap (after_one cap h t) h' ts w.1 (IsGood-one cap h t w.0 g) g' up

-- a list sent again from its front ends alike
pub again_from_front : (cap : ℕ) (h : Holdings) (ps qs : List Parsed) → AreWellFormed ps →
    IsGood cap h → after cap (after cap h ps) (ps ++ qs) ≡ after cap h (ps ++ qs)
again_from_front cap h ps qs w g =
    after-append cap (after cap h ps) ps qs
    ∙ (ap (λ (z : Holdings). after cap z qs)
    (list_settled cap h (after cap h ps) ps w g (IsGood-after cap h ps w g) (λ k y m. m))
    ∙ sym (after-append cap h ps qs))
