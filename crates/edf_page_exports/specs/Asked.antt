-- What a script may ask of a program, by a number or by values, where the programs have words.
use Rattle.std.specs.Prelude.{ℕ, ◌==◌, ◌≤◌, if◌then◌else◌, List, [], ◌∷◌, Bool, true, false, Option}
use Rattle.std.specs.Prelude.{Some, None, is_none, not}
use Rattle.edf_runs.specs.declared.filled.FillLimits.{FillLimits}
use Rattle.edfmend_command.specs.Words.{Values}
use Rattle.edfruns_command.specs.Run.{Asked}
use Rattle.edfruns_command.specs.Run.Asked.{list, canonical, split, picture, fill, cut}

-- ---- of `edfruns`

-- the numbers that ask for something
abbrev pub Asks : ℕ → Type 0
Asks which = which ≤ 5

-- as without options: gaps of up to 24 hours, and moves of up to half a second, in nanoseconds
abbrev pub usual_limits : FillLimits
usual_limits = record { longest_gap = 86400000000000; moved = 500000000 }

-- 0 is `list IN`, 1 `canonical --by-onset IN`, 2 `picture --without-code IN`, 3 `split IN PREFIX`,
-- 4
-- `fill IN` and 5 `cut IN` with both of its instants, in nanoseconds from 1985
abbrev pub asked_by : ℕ → List ℕ → List ℕ → (from to : ℕ) → Asked
asked_by which name prefix from to =
    if which == 0 then list (name ∷ [])
    else (if which == 1 then canonical name true
    else (if which == 2 then picture name false
    else (if which == 3 then split name prefix
    else (if which == 4 then fill name usual_limits
    else cut name from to))))

-- ---- of `edfmend`

-- an empty text is no value
abbrev pub value_of : List ℕ → Option (List ℕ)
value_of [] = None
value_of (b ∷ text) = Some (b ∷ text)

-- seven texts: OUT, and what --patient, --set-patient, --deidentify, --startdate and --starttime
-- have, and any text for --all; without OUT it is --dry-run
abbrev pub values_of : List ℕ → List (List ℕ) → Option Values
values_of name (out ∷ patient ∷ set ∷ hidden ∷ date ∷ time ∷ all ∷ []) = Some (record {
  input = name;
  output = value_of out;
  dry = is_none (value_of out);
  patient = value_of patient;
  set_patient = value_of set;
  deidentify = value_of hidden;
  startdate = value_of date;
  starttime = value_of time;
  all = not (is_none (value_of all));
})
values_of name texts = None
