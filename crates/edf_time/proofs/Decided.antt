-- Facts that hold or do not; other crates' proofs may cite this file too.
use Rattle.std.proofs.Common.{◌≡◌, ℕ, zero, suc, ◌≤◌, ◌<◌, ◌⊎◌, inl, inr, Bool, List, [], ◌∷◌}
use Rattle.std.proofs.Common.{arith, subst, ℤ}
use Rattle.std.specs.Prelude.{All, ◌<ℤ◌, ◌≤ℤ◌}
use Rattle.std.specs.Bool.{Decides}
use Rattle.std.proofs.lemmas.Bool.{cases_lt, cases_eq, cases_Bool}
use Rattle.std.proofs.lemmas.Bool.Decides.{not_from_Decides}
use Rattle.std.proofs.lemmas.Int.{by_lt_z}
use Rattle.std.proofs.lemmas.List.Elements.{All-nil, All-cons, All-head, All-tail}
use Rattle.std.proofs.lemmas.Slice.Eq.{bytes_eq-Decides}
use Rattle.jiff_core.proofs.SignedLemmas.{signed_arith}

-- it holds or it does not
abbrev pub Decided : Type 0 → Type 0
Decided P = P ⊎ (¬ P)

pub of-test : {P : Type 0} (r : Bool) → Decides r P → Decided P
of-test r d = elim (cases_Bool r) [
  | inl is ↦ inl (d.0 is)
  | inr never ↦
      inr (not_from_Decides r d never)
]

pub like : {P Q : Type 0} → Decided P → (P → Q) → (Q → P) → Decided Q
like d to from = elim d [ inl p ↦ inl (to p) | inr never ↦ inr (λ q. never (from q)) ]

pub both : {P Q : Type 0} → Decided P → Decided Q → Decided (P × Q)
both d e =
    elim d [
      | inl p ↦ elim e [ inl q ↦ inl (p, q) | inr never ↦ inr (λ pq. never pq.1) ]
      | inr never ↦ inr (λ pq. never pq.0)
    ]

none-of : {P Q : Type 0} → (¬ P) → (¬ Q) → ¬ (P ⊎ Q)
none-of never none pq = elim pq [ inl p ↦ never p | inr q ↦ none q ]

pub either : {P Q : Type 0} → Decided P → Decided Q → Decided (P ⊎ Q)
either d e =
    elim d [
      | inl p ↦ inl (inl p)
      | inr never ↦ elim e [ inl q ↦ inl (inr q) | inr none ↦ inr (none-of never none) ]
    ]

pub less : (a b : ℕ) → Decided (a < b)
less a b = elim (cases_lt a b) [ inl lt ↦ inl lt | inr le ↦ inr (λ lt. absurd (omega arith)) ]

pub at-most : (a b : ℕ) → Decided (a ≤ b)
at-most a b = elim (cases_lt b a) [ inl lt ↦ inr (λ le. absurd (omega arith)) | inr le ↦ inl le ]

pub less-int : (a b : ℤ) → Decided (a <ℤ b)
less-int a b = by_lt_z {P = Decided (a <ℤ b)} a b (λ lt. inl lt)
    (λ le. inr (λ lt. absurd (omega (arith, signed_arith))))

pub at-most-int : (a b : ℤ) → Decided (a ≤ℤ b)
at-most-int a b = by_lt_z {P = Decided (a ≤ℤ b)} b a
    (λ lt. inr (λ le. absurd (omega (arith, signed_arith)))) (λ le. inl le)

pub same-bytes : (a b : List ℕ) → Decided (a ≡ b)
same-bytes a b = of-test _ (bytes_eq-Decides a b)

pub all-are : (c : ℕ) (xs : List ℕ) → Decided (All (λ x. x ≡ c) xs)
all-are c [] = inl (All-nil (λ x. x ≡ c))
all-are c (x ∷ xs) =
    like (both (cases_eq x c) (all-are c xs)) (λ p. All-cons (λ x. x ≡ c) x xs p.0 p.1)
    (λ all. (All-head (λ x. x ≡ c) x xs all, All-tail (λ x. x ≡ c) x xs all))

-- whether a number below a bound has it
pub some-below : (P : ℕ → Type 0) → ((k : ℕ) → Decided (P k)) → (n : ℕ) →
    Decided ((k : ℕ) × (k < n) × P k)
some-below P each zero = inr (λ s. absurd (omega (arith, s.1)))
some-below P each (suc n) =
    elim (some-below P each n) [
      | inl s ↦ inl (s.0, omega (arith, s.1), s.2)
      | inr none ↦ elim (each n) [
        | inl p ↦ inl (n, omega arith, p)
        | inr never ↦ inr (λ s. elim (cases_lt s.0 n) [
          | inl lt ↦ none (s.0, lt, s.2)
          | inr le ↦ let e : s.0 ≡ n = omega (arith, s.1) in never (subst P e s.2)
        ])
      ]
    ]
