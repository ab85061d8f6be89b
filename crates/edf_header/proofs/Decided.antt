-- Facts that hold or do not.
use Rattle.std.proofs.Common.{◌≡◌, ℕ, zero, suc, List, [], ◌∷◌, arith, inl, inr, ℤ}
use Rattle.std.specs.Prelude.{All, ◌⊎◌}
use Rattle.std.specs.List.{AllWithin}
use Rattle.std.proofs.lemmas.Bool.{cases_eq}
use Rattle.std.proofs.lemmas.Bool.Decides.{Decides-int_eq}
use Rattle.std.proofs.lemmas.List.Elements.{All-nil, All-cons}
pub use Rattle.edf_time.proofs.Decided.{Decided, of-test, like, both, either, less, at-most}
pub use Rattle.edf_time.proofs.Decided.{at-most-int, less-int, same-bytes, some-below}
use Rattle.edf_header.specs.Signal.{IsFirstBad}

pub negated : {P : Type 0} → Decided P → Decided (¬ P)
negated d =
    elim d [
      | inl p ↦ inr (λ never. never p)
      | inr never ↦ inl never
    ]

pub implied : {P Q : Type 0} → Decided P → Decided Q → Decided (P → Q)
implied d e =
    elim d [
      | inl p ↦ elim e [
        | inl q ↦ inl (λ _. q)
        | inr never ↦ inr (λ f. never (f p))
      ]
      | inr never ↦ inl (λ p. absurd (never p))
    ]

-- what is not refuted holds
pub held : {P : Type 0} → Decided P → (¬ ¬ P) → P
held d not-not =
    elim d [
      | inl p ↦ p
      | inr never ↦ absurd (not-not never)
    ]

pub same : (a b : ℕ) → Decided (a ≡ b)
same a b =
    elim (cases_eq a b) [
      | inl e ↦ inl e
      | inr never ↦ inr never
    ]

pub same-int : (a b : ℤ) → Decided (a ≡ b)
same-int a b = of-test _ (Decides-int_eq a b)

-- every element has it, or one is the first that lacks it
good-more : {X : Type 0} (P : X → Type 0) (x : X) (xs : List X) (at : ℕ) → P x →
    AllWithin P xs 0 at → AllWithin P (x ∷ xs) 0 (suc at)
good-more P x xs at p all zero d low lt = p
good-more P x xs at p all (suc k) d low lt = all k d (omega arith) (omega arith)

good-one : {X : Type 0} (P : X → Type 0) (x : X) (xs : List X) (at : ℕ) → P x → IsFirstBad P xs at →
    IsFirstBad P (x ∷ xs) (suc at)
good-one P x xs at p b = record {
  within = omega (arith, b.within);
  bad = b.bad;
  good =
      good-more P x xs at p b.good;
}

pub first-bad : {X : Type 0} (P : X → Type 0) → ((x : X) → Decided (P x)) → (xs : List X) → All P xs
    ⊎ ((at : ℕ) × IsFirstBad P xs at)
first-bad P each [] = inl (All-nil P)
first-bad P each (x ∷ xs) =
    elim (each x) [
      | inl p ↦ elim (first-bad P each xs) [
        | inl all ↦ inl (All-cons P x xs p all)
        | inr b ↦ inr (suc b.0, good-one P x xs b.0 p b.1)
      ]
      | inr never ↦ inr (
        0,
        record {
          within = omega arith;
          bad = λ d. never;
          good =
              λ k d low lt. absurd (omega arith);
        },
      )
    ]

not-all : {X : Type 0} (P : X → Type 0) (d : X) (xs : List X) (at : ℕ) → IsFirstBad P xs at →
    ¬ All P xs
not-all P d xs at b all = b.bad d (all at d b.within)

pub every : {X : Type 0} (P : X → Type 0) (d : X) → ((x : X) → Decided (P x)) → (xs : List X) →
    Decided (All P xs)
every P d each xs =
    elim (first-bad P each xs) [
      | inl all ↦ inl all
      | inr b ↦ inr (not-all P d xs b.0 b.1)
    ]
