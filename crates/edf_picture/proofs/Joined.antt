-- The range of values that follow one another is that of their ranges.
use Rattle.std.proofs.Common.{◌≤◌, ◌<◌, ◌⊎◌, inl, inr, ℕ, List, [], ◌∷◌, ◌++◌, All, Some}
use Rattle.std.proofs.Common.{arith, max, min, refl, subst}
use Rattle.std.specs.List.{Contains}
use Rattle.std.proofs.lemmas.Bool.{cases_lt}
use Rattle.std.proofs.lemmas.List.Elements.{All-append, All-cons, All-nil, All-weaker}
use Rattle.std.proofs.lemmas.List.Elements.{Contains-append_left, Contains-append_right}
use Rattle.edf_picture.specs.Bands.{IsRange}
use Rattle.edf_picture.specs.declared.bands.Range.{Range}

abbrev Within : ℕ → ℕ → ℕ → Type 0
Within a b value = (a ≤ value) × (value ≤ b)

least-of : (one other : List ℕ) (a b : ℕ) → Contains one a → Contains other b →
    (a < b) ⊎ (b ≤ a) → Contains (one ++ other) (min a b)
least-of one other a b p q (inl le) = subst (Contains (one ++ other)) (omega arith)
    (Contains-append_left one other a p)
least-of one other a b p q (inr le) = subst (Contains (one ++ other)) (omega arith)
    (Contains-append_right one other b q)

greatest-of : (one other : List ℕ) (a b : ℕ) → Contains one a → Contains other b →
    (a < b) ⊎ (b ≤ a) → Contains (one ++ other) (max a b)
greatest-of one other a b p q (inl le) = subst (Contains (one ++ other)) (omega arith)
    (Contains-append_right one other b q)
greatest-of one other a b p q (inr le) = subst (Contains (one ++ other)) (omega arith)
    (Contains-append_left one other a p)

wider : (a b a' b' : ℕ) (values : List ℕ) → a' ≤ a → b ≤ b' → All (Within a b) values →
    All (Within a' b') values
wider a b a' b' values low high all = All-weaker (Within a b) (Within a' b')
    (λ value within. (omega (arith, within.0), omega (arith, within.1))) values all

pub joined-ranges : (one other : List ℕ) (r s : Range) → IsRange one (Some r) →
    IsRange other (Some s) → IsRange (one ++ other) (Some (record {
      least = min r.least s.least;
      greatest = max r.greatest s.greatest;
    }))
joined-ranges one other r s p q = (
  least-of one other r.least s.least p.0 q.0 (cases_lt r.least s.least),
  greatest-of one other r.greatest s.greatest p.1 q.1 (cases_lt r.greatest s.greatest),
  All-append (Within (min r.least s.least) (max r.greatest s.greatest)) one other
      (wider r.least r.greatest _ _ one (omega arith) (omega arith) p.2)
      (wider s.least s.greatest _ _ other (omega arith) (omega arith) q.2),
)

pub one-range : (v : ℕ) → IsRange (v ∷ []) (Some (record { least = v; greatest = v }))
one-range v = (
  (0, omega arith, refl),
  (0, omega arith, refl),
  All-cons (Within v v) v [] (omega arith, omega arith) (All-nil (Within v v)),
)
