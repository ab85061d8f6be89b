-- The header of a signal is a row of 256 bytes, its ten fields one after the other; a file has them
-- in columns.
use Rattle.std.specs.Prelude.{◌≡◌, ℕ, ◌+◌, ◌*◌, ◌/◌, ◌≤◌, ◌<◌, zero, suc, Bool, not, List, [], ◌∷◌}
use Rattle.std.specs.Prelude.{length, take, drop, map, filter, sum_by, codes, pos, neg_ℤ, ◌<ℤ◌}
use Rattle.std.specs.Prelude.{◌≤ℤ◌}
use Rattle.std.specs.List.{flat_map, range_with_len, HoldsAt, AllWithin}
use Rattle.std.specs.Str.{bytes_eq}
use Rattle.edf_field.specs.Number.{field, IsWhole, whole_value, IsSigned, signed_value, IsPhysical}
use Rattle.edf_field.specs.Number.{DifferAsNumbers}
use Rattle.edf_header.specs.Fields.{fields, label_field, physical_minimum_field}
use Rattle.edf_header.specs.Fields.{physical_maximum_field, digital_minimum_field}
use Rattle.edf_header.specs.Fields.{digital_maximum_field, samples_field}
use Rattle.edf_header.specs.declared.signal_checks.Check.{Check}
use Rattle.edf_header.specs.declared.signal_checks.Check.TheVariants.{Label, Annotations, Physical}
use Rattle.edf_header.specs.declared.signal_checks.Check.TheVariants.{Digital, Samples}

-- A column is a field of all signals in turn.
abbrev pub column_of : ℕ × ℕ → List (List ℕ) → List ℕ
column_of f rows = flat_map (λ row. field row f.0 f.1) rows

abbrev pub columns_by : List (ℕ × ℕ) → List (List ℕ) → List ℕ
columns_by fs rows = flat_map (λ f. column_of f rows) fs

-- The signal part of a header goes field by field, each for all signals in turn.
abbrev pub columns : List (List ℕ) → List ℕ
columns rows = columns_by fields rows

-- The ith of n signals has its fields taken from their columns.
abbrev pub row_by : List (ℕ × ℕ) → List ℕ → ℕ → ℕ → List ℕ
row_by fs bytes n i = flat_map (λ f. field bytes (n * f.0 + i * f.1) f.1) fs

abbrev pub row_at : List ℕ → ℕ → ℕ → List ℕ
row_at bytes n i = row_by fields bytes n i

abbrev pub signals_of : List ℕ → ℕ → List (List ℕ)
signals_of bytes n = map (row_at bytes n) (range_with_len 0 n)

-- The bytes are n rows of 256 bytes, one after the other.
abbrev pub rows : ℕ → List ℕ → List (List ℕ)
rows zero bytes = []
rows (suc n) bytes = take 256 bytes ∷ rows n (drop 256 bytes)

abbrev pub rows_of : List ℕ → List (List ℕ)
rows_of bytes = rows (length bytes / 256) bytes

-- The signal has the label of the annotations signals.
abbrev pub IsLabelled : List ℕ → Type 0
IsLabelled row = label_field row ≡ codes "EDF Annotations "

abbrev pub has_label : List ℕ → Bool
has_label row = bytes_eq (label_field row) (codes "EDF Annotations ")

-- These are the annotations signals; all others are `ordinary`.
abbrev pub labelled : List (List ℕ) → List (List ℕ)
labelled ss = filter has_label ss

abbrev pub ordinary : List (List ℕ) → List (List ℕ)
ordinary ss = filter (λ s. not (has_label s)) ss

-- Physical minimum and maximum are numbers that differ.
pub record HasPhysical (row : List ℕ) : Type 0 where
  pub minimum : IsPhysical (physical_minimum_field row)
  pub maximum : IsPhysical (physical_maximum_field row)
  pub differ : DifferAsNumbers (physical_minimum_field row) (physical_maximum_field row)

-- Digital minimum and maximum are numbers of 16 bits, and the maximum is the greater.
pub record HasDigital (row : List ℕ) : Type 0 where
  pub minimum : IsSigned (digital_minimum_field row)
  pub maximum : IsSigned (digital_maximum_field row)
  pub from : neg_ℤ (pos 32_768) ≤ℤ signed_value (digital_minimum_field row)
  pub rises : signed_value (digital_minimum_field row) <ℤ signed_value (digital_maximum_field row)
  pub to : signed_value (digital_maximum_field row) ≤ℤ pos 32_767

-- A signal has this many samples per data record.
abbrev pub samples : List ℕ → ℕ
samples row = whole_value (samples_field row)

pub record HasSamples (row : List ℕ) : Type 0 where
  pub whole : IsWhole (samples_field row)
  pub some : 1 ≤ samples row

-- Signals have this many samples in a data record, two bytes each.
abbrev pub samples_in_all : List (List ℕ) → ℕ
samples_in_all ss = sum_by samples ss

-- The row is an annotations signal: digital minimum and maximum are those of 16 bits, the physical
-- ones differ.
pub record IsAnnotationsSignal (row : List ℕ) : Type 0 where
  pub label : IsLabelled row
  pub physical : HasPhysical row
  pub minimum : IsSigned (digital_minimum_field row)
  pub minimum_is : signed_value (digital_minimum_field row) ≡ neg_ℤ (pos 32_768)
  pub maximum : IsSigned (digital_maximum_field row)
  pub maximum_is : signed_value (digital_maximum_field row) ≡ pos 32_767

-- The row is an ordinary signal.
pub record IsOrdinary (row : List ℕ) : Type 0 where
  pub label : ¬ IsLabelled row
  pub physical : HasPhysical row
  pub digital : HasDigital row

-- The signal passes the check: that it is ordinary; that it is an annotations signal where it has
-- the label; its physical or its digital values where it has not; or its samples.
abbrev pub Passes : Check → List ℕ → Type 0
Passes Label row = ¬ IsLabelled row
Passes Annotations row = IsLabelled row → IsAnnotationsSignal row
Passes Physical row = (¬ IsLabelled row) → HasPhysical row
Passes Digital row = (¬ IsLabelled row) → HasDigital row
Passes Samples row = HasSamples row

-- The index, from 0, is that of the first element that fails P.
pub record IsFirstBad {X : Type 0} (P : X → Type 0) (xs : List X) (at : ℕ) : Type 0 where
  pub within : at < length xs
  pub bad : HoldsAt (λ x. ¬ P x) xs at
  pub good : AllWithin P xs 0 at
