-- Flat samples stand where there was no recording: of each ordinary signal the digital value that
-- stands for the physical value nearest to 0.
use Rattle.std.specs.Prelude.{◌≡◌, ℕ, List, [], ◌∷◌, ◌++◌, replicate, ℤ, pos, ◌+ℤ◌, ◌-ℤ◌}
use Rattle.std.specs.Prelude.{unsigned_abs}
use Rattle.std.specs.List.{flat_map}
use Rattle.std.specs.Int.{w16, cast_unsigned, to_le_bytes}
use Rattle.edf_field.specs.Number.{signed_value}
use Rattle.edf_field.specs.Nearest.{IsNearest}
use Rattle.edf_header.specs.Fields.{physical_minimum_field, physical_maximum_field}
use Rattle.edf_header.specs.Fields.{digital_minimum_field, digital_maximum_field}
use Rattle.edf_header.specs.Signal.{samples}

-- The digital maximum is this far above the digital minimum.
abbrev pub steps_of : List ℕ → ℕ
steps_of row = unsigned_abs
    (signed_value (digital_maximum_field row) -ℤ signed_value (digital_minimum_field row))

-- A sample is 16 bits, two's complement, the lower byte first.
abbrev pub sample_bytes : ℤ → List ℕ
sample_bytes value = to_le_bytes w16 (cast_unsigned w16 value)

-- All samples of a signal in a data record are that value.
pub record IsFlat (row bytes : List ℕ) : Type 0 where
  pub above : ℕ
  pub nearest : IsNearest (physical_minimum_field row) (physical_maximum_field row) (steps_of row)
      above
  pub each : bytes ≡ flat_map (λ sample. sample) (replicate (samples row)
      (sample_bytes (signed_value (digital_minimum_field row) +ℤ pos above)))

-- They are so signal after signal.
abbrev pub AreFlat : List (List ℕ) → List ℕ → Type 0
AreFlat [] bytes = bytes ≡ []
AreFlat (row ∷ rows) bytes = (front : List ℕ) × (back : List ℕ) × (bytes ≡ front ++ back)
    × IsFlat row front × AreFlat rows back
