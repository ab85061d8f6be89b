-- What a command does: what it writes, the status that it answers, and which files it opens.
use Rattle.std.specs.Prelude.{ℕ, Bool, List, [], ◌∷◌, Option, length, map, string_bytes}
use Rattle.edf_cli.specs.Output.{OutputChange}
use Rattle.edf_cli.specs.declared.status.Status.{Status}
use Rattle.edf_cli.specs.Making.{Making, MakesNothing}
use Rattle.edf_runs.specs.declared.filled.FillLimits.{FillLimits}
use Rattle.edfruns_command.specs.Comparing.{IsComparedOut}
use Rattle.edfruns_command.specs.Filling.{IsFillOut, IsCutOut}
use Rattle.edfruns_command.specs.Listed.{IsListOut, OpensEach}
use Rattle.edfruns_command.specs.Listing.{OpensAgain}
use Rattle.edfruns_command.specs.Picturing.{IsPictured}
use Rattle.edfruns_command.specs.Canonical.{IsCanonicalOut}
use Rattle.edfruns_command.specs.Splitting.{IsSplit}
use Rattle.edfruns_command.specs.declared.runs_command.RunsCommand.{RunsCommand}
use Rattle.edfruns_command.specs.declared.runs_command.RunsCommand.TheVariants as parsed

-- what can be asked for, with the values: the files' texts, the prefix's text, whether annotations
-- are to be where their onsets are, and whether the patient code is shown
pub data Asked : Type 0 where
  list : List (List ℕ) → Asked
  canonical : List ℕ → Bool → Asked
  fill : List ℕ → FillLimits → Asked
  cut : List ℕ → ℕ → ℕ → Asked
  compare : List ℕ → List ℕ → Asked
  split : List ℕ → List ℕ → Asked
  picture : List ℕ → Bool → Asked

-- what a command asks for
abbrev pub meaning : RunsCommand → Asked
meaning (parsed.List files) = list (map string_bytes files.items)
meaning (parsed.Canonical file by_onset) = canonical (string_bytes file) by_onset
meaning (parsed.Fill file limits) = fill (string_bytes file) limits
meaning (parsed.Cut file from to) = cut (string_bytes file) from to
meaning (parsed.Compare file other) = compare (string_bytes file) (string_bytes other)
meaning (parsed.Split file prefix) = split (string_bytes file) (string_bytes prefix)
meaning (parsed.Picture file has_code) = picture (string_bytes file) has_code

-- by the bytes that names stand for, what makes files and the two writers
abbrev pub IsDone : (List ℕ → Option (List ℕ)) → Making → OutputChange → OutputChange → Asked →
    Status → Type 0
IsDone bytes made out err (list files) status = IsListOut bytes out err files status
IsDone bytes made out err (canonical file by_onset) status =
    IsCanonicalOut out err (bytes file) file by_onset status
IsDone bytes made out err (fill file limits) status = IsFillOut out (bytes file) limits status
IsDone bytes made out err (cut file from to) status = IsCutOut out (bytes file) from to status
IsDone bytes made out err (compare file other) status =
    IsComparedOut out (bytes file) (bytes other) status
IsDone bytes made out err (split file prefix) status =
    IsSplit made err (bytes file) prefix status
IsDone bytes made out err (picture file has_code) status =
    IsPictured out err (bytes file) file has_code status

-- `split` alone makes files
abbrev pub HasMade : Making → Asked → Type 0
HasMade made (split file prefix) = Unit {0}
HasMade made asked = MakesNothing made

-- how often a file is read, where all is done
abbrev pub readings_of : Asked → ℕ
readings_of (list files) = length files
readings_of (canonical file by_onset) = 2
readings_of (fill file limits) = 2
readings_of (cut file from to) = 2
readings_of (compare file other) = 2
readings_of (split file prefix) = 2
readings_of (picture file has_code) = 2

-- `list` and `compare` read each of their files once, and all others a file twice, where they are
-- done
abbrev pub HasOpened : List (List ℕ) → List (List ℕ) → Asked → Status → Type 0
HasOpened before after (list files) status = OpensEach before after files status
HasOpened before after (canonical file by_onset) status = OpensAgain before after file 2 status
HasOpened before after (fill file limits) status = OpensAgain before after file 2 status
HasOpened before after (cut file from to) status = OpensAgain before after file 2 status
HasOpened before after (compare file other) status =
    OpensEach before after (file ∷ other ∷ []) status
HasOpened before after (split file prefix) status = OpensAgain before after file 2 status
HasOpened before after (picture file has_code) status = OpensAgain before after file 2 status
