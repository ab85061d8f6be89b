-- The one block of a data record in a canonical file, with the shortest decimals.
use Rattle.std.specs.Prelude.{ℕ, List, [], ◌∷◌, ◌++◌, pos, ◌-ℤ◌, unsigned_abs, nat_le, Option, Some}
use Rattle.std.specs.Prelude.{None, if◌then◌else◌}
use Rattle.std.specs.List.{flat_map}
use Rattle.edf_time.specs.Decimal.{short}
use Rattle.edf_tal.specs.Tal.{Annotation}

-- an onset counts from a base, with `+` where it does not lie before it
abbrev pub onset_text : ℕ → ℕ → List ℕ
onset_text base onset = (if nat_le base onset then 43 else 45) ∷ short
    (unsigned_abs (pos onset -ℤ pos base))

-- byte 21 and the duration, where there is one
abbrev pub duration_text : Option ℕ → List ℕ
duration_text None = []
duration_text (Some n) = 21 ∷ short n

-- the TAL of one annotation
abbrev pub tal_text : ℕ → Annotation → List ℕ
tal_text base a = onset_text base a.onset
    ++ (duration_text a.duration ++ (20 ∷ (a.text ++ (20 ∷ 0 ∷ []))))

-- the time-keeping annotation of a data record: its start, no duration, the empty text
abbrev pub time_keeping_annotation : ℕ → Annotation
time_keeping_annotation start = record { onset = start; duration = None; text = [] }

-- a block without its fill: the time-keeping annotation alone in its TAL, then a TAL for each
-- annotation in order
abbrev pub tals_text : ℕ → ℕ → List Annotation → List ℕ
tals_text base start list = flat_map (tal_text base) (time_keeping_annotation start ∷ list)
