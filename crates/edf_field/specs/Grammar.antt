-- Number texts have a grammar: a sign or none, digits, maybe a dot and digits, and spaces.
use Rattle.std.specs.Prelude.{◌≡◌, ◌≢◌, ℕ, ◌+◌, ◌-◌, ◌*◌, ◌^◌, ◌<◌, ◌≤◌, Bool, false, List, [], ◌∷◌}
use Rattle.std.specs.Prelude.{◌++◌, length, replicate, Option, Some, None, IsTrue, if◌then◌else◌, ℤ}
use Rattle.std.specs.Option.{unwrap_or}
use Rattle.std.specs.List.{AllByRecursion}
use Rattle.std.specs.Char.{is_ascii_digit}
use Rattle.std.specs.Str.Parse.{digits_value}
use Rattle.edf_field.specs.Number.{IsPhysical, fraction_len, unscaled, signed, IsDurationInRange}

abbrev pub sign_text : Option Bool → List ℕ
sign_text None = []
sign_text (Some negative) = (if negative then 45 else 43) ∷ []

abbrev pub point_text : Option (List ℕ) → List ℕ
point_text None = []
point_text (Some ds) = 46 ∷ ds

abbrev pub AreDigits : List ℕ → Type 0
AreDigits ds = AllByRecursion (λ d. IsTrue (is_ascii_digit d)) ds

abbrev pub spelled : Option Bool → List ℕ → Option (List ℕ) → ℕ → List ℕ
spelled sign whole point n = sign_text sign ++ (whole ++ (point_text point ++ replicate n 32))

-- The field is a physical value with these digits before and after its dot.
pub record IsSpelledAs (field whole part : List ℕ) : Type 0 where
  pub is_physical : IsPhysical field
  pub places_are : fraction_len field ≡ length part
  pub size_is : unscaled field ≡ digits_value 10 whole * 10 ^ length part + digits_value 10 part

-- The text is a sign or none, one digit or more, maybe a dot and zero or more digits, and then only
-- spaces.
pub record IsNumberText (text : List ℕ) (sign : Option Bool) (whole : List ℕ)
    (point : Option (List ℕ)) : Type 0 where
  pub some : 0 < length whole
  pub whole_digits : AreDigits whole
  pub part_digits : AreDigits (unwrap_or point [])
  pub spaces : ℕ
  pub spelling : text ≡ spelled sign whole point spaces

-- The text is the whole number n, without a sign and a dot.
abbrev pub IsWholeText : List ℕ → ℕ → Type 0
IsWholeText text n = (whole : List ℕ) × IsNumberText text None whole None
    × (n ≡ digits_value 10 whole)

-- Only a minus makes it negative.
abbrev pub with_sign : Option Bool → ℕ → ℤ
with_sign sign n = signed (unwrap_or sign false) n

-- The text is the whole number z, with a sign or none and without a dot.
abbrev pub IsSignedText : List ℕ → ℤ → Type 0
IsSignedText text z = (sign : Option Bool) × (whole : List ℕ) × IsNumberText text sign whole None
    × (z ≡ with_sign sign (digits_value 10 whole))

-- A decimal has these digits where it is written to `at` places after its dot, with trailing zeros.
abbrev pub filled : List ℕ → List ℕ → ℕ → List ℕ
filled whole part at = whole ++ (part ++ replicate (at - length part) 48)

-- It has these digits where `wide` of them are before its dot as well, with leading zeros.
abbrev pub widened : List ℕ → List ℕ → ℕ → ℕ → List ℕ
widened whole part wide at = replicate (wide - length whole) 48 ++ filled whole part at

-- The text is a physical value that is z where it counts in the last of `at` places after the dot.
pub record IsPhysicalText (text : List ℕ) (at : ℕ) (z : ℤ) : Type 0 where
  pub sign : Option Bool
  pub whole : List ℕ
  pub point : Option (List ℕ)
  pub number : IsNumberText text sign whole point
  pub places_in : length (unwrap_or point []) ≤ at
  pub value : z ≡ with_sign sign (digits_value 10 (filled whole (unwrap_or point []) at))

-- The text is a duration: a decimal without a sign, and with a digit after its dot. Its seconds are
-- the number of all its digits divided by 10 for each place after the dot. They are `nanos`
-- nanoseconds, which are in the range of a duration.
pub record IsDurationText (text : List ℕ) (nanos : ℕ) : Type 0 where
  pub whole : List ℕ
  pub point : Option (List ℕ)
  pub number : IsNumberText text None whole point
  pub after_dot : point ≢ Some []
  pub value : nanos * 10 ^ length (unwrap_or point []) ≡ digits_value 10 (whole
      ++ unwrap_or point []) * 10 ^ 9
  pub in_range : IsDurationInRange nanos

-- A decimal has these digits, at most `wide` before its dot, and at most `at` after it.
pub record AreDecimalDigits (whole part : List ℕ) (wide at : ℕ) : Type 0 where
  pub whole_digits : AreDigits whole
  pub part_digits : AreDigits part
  pub whole_in : length whole ≤ wide
  pub part_in : length part ≤ at
