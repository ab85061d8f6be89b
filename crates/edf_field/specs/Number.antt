-- Header fields have number texts: each is at the start of its field, and only spaces follow it.
use Rattle.std.specs.Prelude.{◌≡◌, ◌≢◌, ℕ, ◌+◌, ◌*◌, ◌^◌, ◌<◌, ◌==◌, ◌||◌, Bool, not, List, []}
use Rattle.std.specs.Prelude.{length, take, drop, slice_index, All, ℤ, pos, neg_ℤ, if◌then◌else◌}
use Rattle.std.specs.List.{prefix_len}
use Rattle.std.specs.Char.{is_ascii_digit}
use Rattle.std.specs.Str.Parse.{digits_value}
use Rattle.edf_time.specs.Decimal.{IsSeconds, fraction_value as decimal_places}

-- The field has `len` bytes from the offset `at` on.
abbrev pub field : List ℕ → ℕ → ℕ → List ℕ
field bytes at len = take len (drop at bytes)

abbrev pub AreSpaces : List ℕ → Type 0
AreSpaces text = All (λ b. b ≡ 32) text

-- The text has this many leading digits.
abbrev pub digits_len : List ℕ → ℕ
digits_len text = prefix_len is_ascii_digit text

-- These are its leading digits.
abbrev pub digits : List ℕ → List ℕ
digits text = take (digits_len text) text

-- This follows them.
abbrev pub after_digits : List ℕ → List ℕ
after_digits text = drop (digits_len text) text

-- The text is a whole number: one digit or more, leading zeros allowed, and then only spaces.
abbrev pub IsWhole : List ℕ → Type 0
IsWhole text = (0 < digits_len text) × AreSpaces (after_digits text)

abbrev pub whole_value : List ℕ → ℕ
whole_value text = digits_value 10 (digits text)

-- The text is the whole number n.
pub record IsNumber (text : List ℕ) (n : ℕ) : Type 0 where
  pub whole : IsWhole text
  pub value : n ≡ whole_value text

-- This is the text without its leading sign, where it has one.
abbrev pub unsigned : List ℕ → List ℕ
unsigned text = if (slice_index text 0 == 43) || (slice_index text 0 == 45) then drop 1 text
    else text

abbrev pub signed : Bool → ℕ → ℤ
signed negative n = if negative then neg_ℤ (pos n) else pos n

-- The text is a whole number after a sign or none.
abbrev pub IsSigned : List ℕ → Type 0
IsSigned text = IsWhole (unsigned text)

abbrev pub signed_value : List ℕ → ℤ
signed_value text = signed (slice_index text 0 == 45) (whole_value (unsigned text))

-- These digits come after a leading dot, and `after_fraction` follows them.
abbrev pub fraction : List ℕ → List ℕ
fraction text = if slice_index text 0 == 46 then digits (drop 1 text) else []

abbrev pub after_fraction : List ℕ → List ℕ
after_fraction text = if slice_index text 0 == 46 then after_digits (drop 1 text) else text

-- The text is a physical value: a sign or none, one digit or more, then maybe a dot and zero or
-- more digits, and then only spaces.
abbrev pub IsPhysical : List ℕ → Type 0
IsPhysical text = (0 < digits_len (unsigned text))
    × AreSpaces (after_fraction (after_digits (unsigned text)))

-- This many digits are after its dot, and `unscaled` is the number that all its digits write.
abbrev pub fraction_len : List ℕ → ℕ
fraction_len text = length (fraction (after_digits (unsigned text)))

abbrev pub unscaled : List ℕ → ℕ
unscaled text = digits_value 10 (digits (unsigned text)) * 10 ^ fraction_len text + digits_value 10
    (fraction (after_digits (unsigned text)))

-- A physical value is this number where it counts in a place `more` further after the dot.
abbrev pub scaled : List ℕ → ℕ → ℤ
scaled text more = signed (slice_index text 0 == 45) (unscaled text * 10 ^ more)

-- Two physical values differ as numbers: each is scaled by the places of the other.
abbrev pub DifferAsNumbers : List ℕ → List ℕ → Type 0
DifferAsNumbers a b = scaled a (fraction_len b) ≢ scaled b (fraction_len a)

-- This many bytes come before the first space.
abbrev pub unpadded_len : List ℕ → ℕ
unpadded_len text = prefix_len (λ b. not (b == 32)) text

-- The duration of a data record, in nanoseconds, is in its range.
abbrev pub IsDurationInRange : ℕ → Type 0
IsDurationInRange nanos = 0 < nanos

-- The text is the duration of a data record: a decimal of this many nanoseconds, in that range.
pub record IsDuration (text : List ℕ) (nanos : ℕ) : Type 0 where
  pub seconds : IsSeconds (take (unpadded_len text) text) nanos
  pub spaces : AreSpaces (drop (unpadded_len text) text)
  pub in_range : IsDurationInRange nanos

-- The digits of a duration write this many nanoseconds; a law says that it has no other value.
abbrev pub duration_of : List ℕ → ℕ
duration_of text = digits_value 10 (digits text) * 10 ^ 9 + decimal_places (10 ^ 8)
    (fraction (after_digits text))
