-- The names of the files of runs.
use Rattle.std.specs.Prelude.{ℕ, ◌-◌, List, ◌++◌, length, map, replicate, codes, decimal}
use Rattle.std.specs.List.{range_with_len}

-- a number with zeros before it, so that it has `width` digits at least
abbrev pub padded : ℕ → ℕ → List ℕ
padded width number = replicate (width - length (decimal number)) 48 ++ decimal number

-- `PREFIX-07.edf`
abbrev pub run_name : List ℕ → ℕ → ℕ → List ℕ
run_name prefix width number = prefix ++ (codes "-" ++ (padded width number ++ codes ".edf"))

-- those of so many runs, numbered from 1: each number has as many digits as the last
abbrev pub run_names : List ℕ → ℕ → List (List ℕ)
run_names prefix count = map (run_name prefix (length (decimal count))) (range_with_len 1 count)

-- the first run with 1 digit, 2 digits and so on up to 8, as many as the greatest count of data
-- records has: by its first file an earlier split with this prefix is found, and where that file
-- is gone, by none of its others
abbrev pub first_names : List ℕ → List (List ℕ)
first_names prefix = map (λ width. run_name prefix width 1) (range_with_len 1 8)

-- what is asked for before files are made: no file may have one of these names
abbrev pub asked_names : List ℕ → ℕ → List (List ℕ)
asked_names prefix count = run_names prefix count ++ first_names prefix
