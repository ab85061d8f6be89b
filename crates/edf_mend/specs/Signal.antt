-- A signal: what its samples mean.
use Rattle.std.specs.Prelude.{◌≡◌, ◌≢◌, ◌⊎◌, ℕ, ◌+◌, ◌*◌, ◌^◌, ◌≤◌, ◌==◌, ◌||◌, List, [], ◌∷◌, ◌++◌}
use Rattle.std.specs.Prelude.{length, drop, slice_index, Bool, true, false, if◌then◌else◌, filter}
use Rattle.std.specs.Prelude.{codes, All, IsTrue, nat_eq}
use Rattle.edf_field.specs.Number.{unsigned, digits, after_digits, IsNumber, IsPhysical, field}
use Rattle.edf_mend.specs.Texts.{numeral, numeral_text, unfilled, spaced, fitted, text_rows}
use Rattle.edf_mend.specs.Texts.{dimension_rows, micro_as_utf8, spelled_by}
use Rattle.std.specs.List.{starts_with}
use Rattle.std.specs.Char.{is_ascii_lowercase}
use Rattle.std.specs.Str.{str_to_ascii_lowercase}
use Rattle.edf_field.specs.Text.{spaces, IsPrintable}
use Rattle.edf_header.specs.Fields.{label_field, physical_minimum_field, physical_maximum_field}
use Rattle.edf_header.specs.Fields.{digital_minimum_field, digital_maximum_field, samples_field}
use Rattle.edf_header.specs.Signal.{IsLabelled}

-- These digits come behind a leading dot or comma, and `after_part` follows them.
abbrev pub part : List ℕ → List ℕ
part text = if (slice_index text 0 == 46) || (slice_index text 0 == 44) then digits (drop 1 text)
    else []

abbrev pub after_part : List ℕ → List ℕ
after_part text =
    if (slice_index text 0 == 46) || (slice_index text 0 == 44) then after_digits (drop 1 text)
    else text

-- The text is nothing; or e or E and a whole number, maybe after a sign.
abbrev pub IsExponent : List ℕ → Bool → ℕ → Type 0
IsExponent text minus size = ((text ≡ []) × (size ≡ 0))
    ⊎ ((rest : List ℕ) × ((text ≡ 101 ∷ rest) ⊎ (text ≡ 69 ∷ rest))
    × (minus ≡ (slice_index rest 0 == 45)) × IsNumber (unsigned rest) size)

-- A point moves so many places to the left: 99 more than it does.
abbrev pub IsMoved : Bool → ℕ → ℕ → ℕ → Type 0
IsMoved true size places len = places ≡ len + 99 + size
IsMoved false size places len = places + size ≡ len + 99

-- A comma parts no thousands, which it might with one to three digits before it, other than 0
-- alone, and three behind it.
abbrev pub IsClear : List ℕ → Type 0
IsClear field = let text = unsigned (numeral_text field) in
    (slice_index (after_digits text) 0 ≢ 44) ⊎ ((length (part (after_digits text)) ≢ 3)
    ⊎ ((length (digits text) ≡ 0) ⊎ ((4 ≤ length (digits text)) ⊎ (digits text ≡ codes "0"))))

-- The text spells a number: that of its digits times ten 99 times, divided by ten so many times.
pub record IsDecimal (text : List ℕ) (negative : Bool) (n places : ℕ) : Type 0 where
  pub sign : negative ≡ (slice_index text 0 == 45)
  pub minus : Bool
  pub size : ℕ
  pub is_exponent : IsExponent (after_part (after_digits (unsigned text))) minus size
  pub number : IsNumber (digits (unsigned text) ++ part (after_digits (unsigned text))) n
  pub moved : IsMoved minus size places (length (part (after_digits (unsigned text))))

-- m is n times ten, `to - from` times.
abbrev pub IsMultiple : ℕ → ℕ → ℕ → ℕ → Type 0
IsMultiple n from m to = (more : ℕ) × (to ≡ from + more) × (n * 10 ^ more ≡ m)

pub record IsOneNumber (a b : List ℕ) : Type 0 where
  pub minus : Bool
  pub other : Bool
  pub n : ℕ
  pub m : ℕ
  pub from : ℕ
  pub to : ℕ
  pub one : IsDecimal (numeral_text a) minus n from
  pub two : IsDecimal (numeral_text b) other m to
  pub signs : (minus ≡ other) ⊎ (n ≡ 0)
  pub values : IsMultiple n from m to ⊎ IsMultiple m to n from

-- A physical value stays where it is one; otherwise the new one spells the same number.
abbrev pub KeepsNumber : List ℕ → List ℕ → Type 0
KeepsNumber old new = (IsPhysical (numeral old) × (new ≡ numeral old))
    ⊎ ((¬ IsPhysical (numeral old)) × IsClear old × IsOneNumber old new)

-- The text stays, but for zeros that fill it, where it is printable; otherwise ASCII spells it by
-- this table, and nothing of it is cut.
abbrev pub KeepsLetters : List (ℕ × ℕ × List ℕ) → List ℕ → List ℕ → Type 0
KeepsLetters rows old new = (All IsPrintable (spaced old) × (new ≡ spaced old))
    ⊎ ((¬ All IsPrintable (spaced old)) × (length (spelled_by rows (unfilled old)) ≤ length old)
    × (new ≡ fitted (length old) (spelled_by rows (unfilled old))))

-- So does the field of a row that begins at this byte.
abbrev pub KeepsText : ℕ → ℕ → List ℕ → List ℕ → Type 0
KeepsText at width old new = KeepsLetters text_rows (field old at width) (field new at width)

-- Nothing is measured: the physical limits are the digital ones, without a dimension.
pub record IsUnmeasured (row : List ℕ) : Type 0 where
  pub low : physical_minimum_field row ≡ digital_minimum_field row
  pub high : physical_maximum_field row ≡ digital_maximum_field row
  pub dimension : field row 96 8 ≡ spaces 8

-- Two limits stay the same numbers; or, where they clearly were one number, nothing is measured.
abbrev pub KeepsLimits : List ℕ → List ℕ → List ℕ → List ℕ → Type 0
KeepsLimits low high old new =
    (KeepsNumber low (physical_minimum_field new) × KeepsNumber high (physical_maximum_field new)
    × KeepsLetters dimension_rows (micro_as_utf8 (field old 96 8)) (field new 96 8))
    ⊎ (IsClear low × IsClear high × IsOneNumber low high × IsUnmeasured new)

-- The line from digital to physical values stays: both ends of it, maybe in the other order.
abbrev pub KeepsLine : List ℕ → List ℕ → Type 0
KeepsLine old new =
    ((digital_minimum_field new ≡ numeral (digital_minimum_field old))
    × (digital_maximum_field new ≡ numeral (digital_maximum_field old))
    × KeepsLimits (physical_minimum_field old) (physical_maximum_field old) old new)
    ⊎ ((digital_minimum_field new ≡ numeral (digital_maximum_field old))
    × (digital_maximum_field new ≡ numeral (digital_minimum_field old))
    × KeepsLimits (physical_maximum_field old) (physical_minimum_field old) old new)

pub record KeepsOrdinary (old new : List ℕ) : Type 0 where
  pub label : KeepsText 0 16 old new
  pub transducer : KeepsText 16 80 old new
  pub prefiltering : KeepsText 136 80 old new
  pub rest : KeepsText 224 32 old new
  pub line : KeepsLine old new

-- A signal of a file has this good form. Of an annotations signal the samples alone count.
pub record KeepsSignal (old new : List ℕ) : Type 0 where
  pub samples : samples_field new ≡ numeral (samples_field old)
  pub kind : (IsLabelled new × (spaced (label_field old) ≡ codes "EDF Annotations "))
      ⊎ ((¬ IsLabelled new) × KeepsOrdinary old new)

-- A label speaks of annotations: its letters, in small ones, have the word in them.
abbrev pub has_word : List ℕ → Bool
has_word [] = false
has_word (b ∷ more) = starts_with nat_eq (b ∷ more) (codes "annotation") || has_word more

abbrev pub SpeaksOfAnnotations : List ℕ → Type 0
SpeaksOfAnnotations label =
    IsTrue (has_word (filter is_ascii_lowercase (str_to_ascii_lowercase label)))
