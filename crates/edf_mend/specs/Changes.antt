-- The fields of a header that differ from those of its good form, with their old and new bytes.
use Rattle.std.specs.Prelude.{ℕ, zero, suc, ◌+◌, ◌*◌, List, [], ◌∷◌, ◌++◌, if◌then◌else◌, decimal}
use Rattle.std.specs.List.{flat_map}
use Rattle.std.specs.Str.{bytes_eq}
use Rattle.edf_field.specs.Number.{field}
use Rattle.edf_header.specs.Fields.{fields, count_field}
use Rattle.edf_header.specs.Signal.{row_at}
use Rattle.edf_mend.specs.Texts.{fitted}

-- A field, by its offset in the fixed part or in a signal, of which the first is 1, and 0 is the
-- fixed part; where it begins in the file; its bytes, and those of the good form.
pub record FieldChange : Type 0 where
  pub place : ℕ
  pub signal : ℕ
  pub at : ℕ
  pub old : List ℕ
  pub new : List ℕ

abbrev pub changed : ℕ → ℕ → ℕ → List ℕ → List ℕ → List FieldChange
changed place signal at old new = if bytes_eq old new then []
    else record { place = place; signal = signal; at = at; old = old; new = new } ∷ []

-- All but the count: version, patient, recording, startdate, starttime, header bytes, reserved,
-- duration and signals.
abbrev pub fixed_fields : List (ℕ × ℕ)
fixed_fields = (0, 8) ∷ (8, 80) ∷ (88, 80) ∷ (168, 8) ∷ (176, 8) ∷ (184, 8) ∷ (192, 44) ∷ (244, 8)
    ∷ (252, 4) ∷ []

abbrev pub changes_of_fixed : List ℕ → List ℕ → List FieldChange
changes_of_fixed old new =
    flat_map (λ f. changed f.0 0 f.0 (field old f.0 f.1) (field new f.0 f.1)) fixed_fields

-- One of n signals, in the order of the fields of a row.
abbrev pub changes_of_row : ℕ → ℕ → List ℕ → List ℕ → List FieldChange
changes_of_row n i old new = flat_map (λ f. changed f.0 (i + 1) (256 + n * f.0 + i * f.1)
    (field old f.0 f.1) (field new f.0 f.1)) fields

-- The last number is how many signals are compared, from the first on.
abbrev pub changes_of_signals : ℕ → List ℕ → ℕ → List ℕ → ℕ → List FieldChange
changes_of_signals n old count new zero = []
changes_of_signals n old count new (suc i) = changes_of_signals n old count new i
    ++ changes_of_row n i (row_at old n i) (row_at new count i)

-- The number of data records, as the canonical file has it.
abbrev pub changes_of_count : List ℕ → ℕ → List FieldChange
changes_of_count first records =
    changed 236 0 236 (count_field first) (fitted 8 (decimal records))
