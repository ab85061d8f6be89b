-- Whether a field's text is what it must be.
use Rattle.std.proofs.Common.{◌≡◌, ℕ, ◌≤◌, List, length, take, arith, refl, inl, inr, Option, Some}
use Rattle.std.proofs.Common.{None}
use Rattle.std.specs.Prelude.{codes, ◌⊎◌}
use Rattle.edf_field.specs.Number.{field, AreSpaces, IsWhole, IsSigned, IsPhysical, DifferAsNumbers}
use Rattle.edf_field.specs.Number.{whole_value, after_digits, after_fraction, digits_len, unsigned}
use Rattle.edf_field.specs.Number.{IsNumber}
use Rattle.edf_field.specs.Text.{IsPrintable, FollowsStartdate, subfields}
use Rattle.edf_header.specs.Fixed.{IsCount, IsPlus}
use Rattle.edf_header.specs.Condition.{HasCount, HasSignals}
use Rattle.edf_header.specs.declared.limits.TheConstants.{MOST_SIGNALS}
use Rattle.edf_header.proofs.Decided.{Decided, like, both, either, negated, less, at-most, same}
use Rattle.edf_header.proofs.Decided.{same-bytes, same-int, every}

pub printable : (b : ℕ) → Decided (IsPrintable b)
printable b = like (both (at-most 32 b) (at-most b 126)) (λ p. record { from = p.0; to = p.1 })
    (λ p. (p.from, p.to))

pub spaces : (text : List ℕ) → Decided (AreSpaces text)
spaces text = every (λ b. b ≡ 32) 0 (λ b. same b 32) text

pub whole : (text : List ℕ) → Decided (IsWhole text)
whole text = both (less 0 (digits_len text)) (spaces (after_digits text))

pub signed : (text : List ℕ) → Decided (IsSigned text)
signed text = whole (unsigned text)

pub physical : (text : List ℕ) → Decided (IsPhysical text)
physical text = both (less 0 (digits_len (unsigned text)))
    (spaces (after_fraction (after_digits (unsigned text))))

pub differ : (a b : List ℕ) → Decided (DifferAsNumbers a b)
differ a b = negated (same-int _ _)

pub number : (text : List ℕ) (n : ℕ) → Decided (IsNumber text n)
number text n = like (both (whole text) (same n (whole_value text)))
    (λ p. record { whole = p.0; value = p.1 }) (λ p. (p.whole, p.value))

pub plus : (text : List ℕ) → Decided (IsPlus text)
plus text = either (same-bytes (take 5 text) (codes "EDF+C"))
    (same-bytes (take 5 text) (codes "EDF+D"))

pub follows-startdate : (after : List ℕ) → Decided (FollowsStartdate after)
follows-startdate after =
    like (both (same-bytes (take 1 after) (codes " ")) (at-most 3 (length (subfields after))))
    (λ p. record { space = p.0; codes_in = p.1 }) (λ p. (p.space, p.codes_in))

-- the numbers of data records and of signals
abbrev IsCounted : List ℕ → Type 0
IsCounted text = (text ≡ codes "-1      ") ⊎ (IsWhole text × (1 ≤ whole_value text))

from-counted : (text : List ℕ) → IsCounted text → (count : Option ℕ) × IsCount text count
from-counted text is =
    elim is [
      | inl unknown ↦ (None, unknown)
      | inr known ↦ (Some (whole_value text), (record { whole = known.0; value = refl }, known.1))
    ]

to-counted : (text : List ℕ) (count : Option ℕ) → IsCount text count → IsCounted text
to-counted text None is = inl is
to-counted text (Some n) is = inr (is.0.whole, omega (arith, is.0.value, is.1))

pub count : (b : List ℕ) → Decided (HasCount b)
count b =
    let text : List ℕ = field b 236 8 in
    like (either (same-bytes text (codes "-1      "))
    (both (whole text) (at-most 1 (whole_value text)))) (from-counted text)
    (λ c. to-counted text c.0 c.1)

pub signals : (b : List ℕ) → Decided ((n : ℕ) × HasSignals b n)
signals b =
    like (both (whole (field b 252 4))
    (both (at-most 2 (whole_value (field b 252 4)))
    (at-most (whole_value (field b 252 4)) MOST_SIGNALS)))
    (λ p. (whole_value (field b 252 4), (record { whole = p.0; value = refl }, p.1.0, p.1.1)))
    (λ p. (p.1.0.whole, (omega (arith, p.1.0.value, p.1.1), omega (arith, p.1.0.value, p.1.2))))
