-- The signals' rows of a filled file name how many samples a part has.
use Rattle.std.specs.Prelude.{ℕ, ◌/◌, ◌++◌, ◌==◌, List, map, take, drop, if◌then◌else◌}
use Rattle.std.specs.List.{flat_map}
use Rattle.std.specs.Fmt.{decimal}
use Rattle.edf_time.specs.Decimal.{short}
use Rattle.edf_field.specs.Text.{padded_to}
use Rattle.edf_header.specs.Key.{Key}
use Rattle.edf_header.specs.Signal.{samples}

abbrev pub divided_row : ℕ → List ℕ → List ℕ
divided_row g row = if g == 1 then row
    else take 216 row ++ padded_to 8 (decimal (samples row / g)) ++ drop 224 row

abbrev pub divided_rows : ℕ → List (List ℕ) → List ℕ
divided_rows g rows = flat_map (λ row. row) (map (divided_row g) rows)

-- The key of a filled file, which has this behind the Startdate subfield.
abbrev pub filled_key : Key → List ℕ → ℕ → ℕ → Key
filled_key k after g u = record {
  patient = k.patient;
  dated = k.dated;
  after = after;
  duration = if g == 1 then k.duration else padded_to 8 (short u);
  signals = map (divided_row g) k.signals;
}
