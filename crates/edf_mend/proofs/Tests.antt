-- Answers of tests.
use Rattle.std.proofs.Common.{◌≡◌, Bool, true, false, not, sym, ◌∙◌, IsTrue, refl, Option, Some}
use Rattle.std.proofs.Common.{None}
use Rattle.std.specs.Prelude.{is_some}
use Rattle.std.proofs.lemmas.Bool.{false≢true}

-- a test says no, rightly
pub says-no : (b : Bool) (P : Type 0) → b ≡ false → (P → ⊥) → (IsTrue b → P) × (P → IsTrue b)
says-no b P is never = (λ t. absurd (false≢true (sym is ∙ t)), λ p. absurd (never p))

-- it said no, and so it is not
pub is-not : (b : Bool) (P : Type 0) → b ≡ false → (IsTrue b → P) × (P → IsTrue b) → P → ⊥
is-not b P is both p = false≢true (sym is ∙ both.1 p)

pub not-both : (b : Bool) → IsTrue (not b) → IsTrue b → ⊥
not-both true t e = false≢true t
not-both false t e = false≢true e

-- nothing is there
pub none-of : {A : Type 0} (o : Option A) → is_some o ≡ false → o ≡ None
none-of None e = refl
none-of (Some x) e = absurd (false≢true (sym e))
