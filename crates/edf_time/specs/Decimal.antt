-- Decimals of seconds have values that are counted in nanoseconds.
use Rattle.std.specs.Prelude.{◌≡◌, ℕ, zero, suc, ◌+◌, ◌-◌, ◌*◌, ◌/◌, ◌%◌, ◌^◌, ◌≤◌, List, [], ◌∷◌}
use Rattle.std.specs.Prelude.{◌++◌, length, drop, All}
use Rattle.std.specs.Fmt.{decimal}
use Rattle.std.specs.Str.Parse.{IsNumeral, digits_value}
use Rattle.edf_time.specs.declared.decimal.DecimalFault.{DecimalFault}
use Rattle.edf_time.specs.declared.decimal.DecimalFault.TheVariants.{Syntax, TooFine, TooLarge}

-- The text is one or more digits, or such digits, a dot and one or more digits.
abbrev pub IsDecimal : List ℕ → List ℕ → List ℕ → Type 0
IsDecimal text whole [] = IsNumeral 10 whole × (text ≡ whole)
IsDecimal text whole (d ∷ ds) = IsNumeral 10 whole × IsNumeral 10 (d ∷ ds)
    × (text ≡ whole ++ 46 ∷ d ∷ ds)

-- Digits are worth this, where the first counts `unit`, and each other a tenth of the one before.
abbrev pub fraction_value : ℕ → List ℕ → ℕ
fraction_value unit [] = 0
fraction_value unit (d ∷ ds) = (d - 48) * unit + fraction_value (unit / 10) ds

-- The digits past the ninth are zeros: none counts less than a nanosecond.
abbrev pub IsFine : List ℕ → Type 0
IsFine fraction = All (λ d. d ≡ 48) (drop 9 fraction)

-- The text is a decimal of this many nanoseconds.
pub record IsSeconds (text : List ℕ) (nanos : ℕ) : Type 0 where
  pub whole : List ℕ
  pub fraction : List ℕ
  pub parts : IsDecimal text whole fraction
  pub fine : IsFine fraction
  pub value : nanos ≡ digits_value 10 whole * 10 ^ 9 + fraction_value (10 ^ 8) fraction

-- The text is not read: it is no decimal, else one too fine, else one too large for 63 bits.
abbrev pub IsDecimalFault : List ℕ → DecimalFault → Type 0
IsDecimalFault text Syntax = (whole fraction : List ℕ) → ¬ IsDecimal text whole fraction
IsDecimalFault text TooFine = (whole fraction : List ℕ) × IsDecimal text whole fraction
    × ¬ IsFine fraction
IsDecimalFault text TooLarge = (nanos : ℕ) × IsSeconds text nanos × (2 ^ 63 ≤ nanos)

-- The text has that value, and no text of that value is shorter.
pub record IsShortest (text : List ℕ) (nanos : ℕ) : Type 0 where
  pub spells : IsSeconds text nanos
  pub least : (other : List ℕ) → IsSeconds other nanos → length text ≤ length other

-- A part below 10 ^ j has these digits, from the jth place on to the last that is not 0.
abbrev pub fraction_digits : ℕ → ℕ → List ℕ
fraction_digits zero part = []
fraction_digits (suc j) zero = []
fraction_digits (suc j) (suc p) = (48 + suc p / 10 ^ j) ∷ fraction_digits j (suc p % 10 ^ j)

-- A part of a second in nanoseconds is written as a dot and its digits, where it is not 0.
abbrev pub fraction_text : ℕ → List ℕ
fraction_text zero = []
fraction_text (suc p) = 46 ∷ fraction_digits 9 (suc p)

-- This is the shortest decimal; a law says so of each number below 10 ^ 73, and that it is the
-- only one.
unfoldable pub short : ℕ → List ℕ
short nanos = decimal (nanos / 10 ^ 9) ++ fraction_text (nanos % 10 ^ 9)

-- The byte is a digit or a dot.
abbrev pub IsDecimalByte : ℕ → Type 0
IsDecimalByte b = (46 ≤ b) × (b ≤ 57) × ¬ (b ≡ 47)
