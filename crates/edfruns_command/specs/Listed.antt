-- What `list` does: what it writes, the status that it answers, and which files it opens.
use Rattle.std.specs.Prelude.{◌≡◌, ◌⊎◌, ℕ, List, [], ◌∷◌, ◌++◌, Bool, true, false, Option}
use Rattle.std.specs.Prelude.{nat_lt, length, codes}
use Rattle.edf_cli.specs.Output.{OutputChange, Gets, GetsPrefix, IsWritten}
use Rattle.edf_cli.specs.Status.{worse}
use Rattle.edf_cli.specs.declared.status.Status.{Status}
use Rattle.edf_cli.specs.declared.status.Status.TheVariants.{Done, Trouble}
use Rattle.edf_runs.specs.declared.run_list.Listing.{Listing}
use Rattle.edfruns_command.specs.Lines.{IsInstantFormat, run_lines, standard_output, unwritten_line}
use Rattle.edfruns_command.specs.Listing.{HasRuns, RefusesFile, LacksMemory}

-- ---- one file

-- lines have their file's name where there are several files
abbrev pub are_several : List (List ℕ) → Bool
are_several names = nat_lt 1 (length names)

abbrev pub file_label : Bool → List ℕ → List ℕ
file_label false name = []
file_label true name = name ++ codes " "

-- the file was read to its end, and this was done with the lines of its runs
pub record TellsRuns (bytes : Option (List ℕ)) (label : List ℕ) (Tells : List ℕ → Type 0) : Type 0
  where
    pub listing : Listing
    pub has : HasRuns bytes listing
    pub told : (spell : ℕ → List ℕ) → IsInstantFormat spell →
        Tells (run_lines spell listing.identity label 1 listing.runs.items)

module _ (out err : OutputChange) (bytes : Option (List ℕ)) (label : List ℕ) where
  -- its lines went out whole
  abbrev pub ListsRuns : Status → Type 0
  ListsRuns status = TellsRuns bytes label (Gets out) × Gets err [] × (status ≡ Done)

  -- a front of them did, then a write failed, and a line says so
  abbrev pub CutsLines : Status → Type 0
  CutsLines status = TellsRuns bytes label (GetsPrefix out)
      × IsWritten err (unwritten_line standard_output) Trouble status

  -- they went out whole, or the file was refused, or there was no memory for them
  abbrev pub IsFileListed : List ℕ → Status → Type 0
  IsFileListed name status = ListsRuns status
      ⊎ (RefusesFile out err bytes name status ⊎ LacksMemory out err bytes name status)

-- ---- one file after another

-- what a writer holds, where that is known, and how many of its writes failed or took nothing
pub record Held : Type 0 where
  pub contents : Option (List ℕ)
  pub failures : ℕ

abbrev pub held_before : OutputChange → Held
held_before w = record { contents = w.before; failures = w.failed_before }

abbrev pub held_after : OutputChange → Held
held_after w = record { contents = w.after; failures = w.failed_after }

abbrev pub between : Held → Held → OutputChange
between old new = record {
  before = old.contents;
  failed_before = old.failures;
  after = new.contents;
  failed_after = new.failures;
}

module _ (bytes : List ℕ → Option (List ℕ)) (several : Bool) where
  -- of what the two writers held before and after: each file was listed or refused, in the order of
  -- the words, and the status is the worst
  abbrev pub AreListed : Held → Held → Held → Held → List (List ℕ) → Status → Type 0
  AreListed out out' err err' [] status = (out' ≡ out) × (err' ≡ err) × (status ≡ Done)
  AreListed out out' err err' (name ∷ names) status = (mid : Held) × (mid_err : Held)
      × (one : Status) × (others : Status)
      × IsFileListed (between out mid) (between err mid_err) (bytes name)
      (file_label several name) name one
      × AreListed mid out' mid_err err' names others × (status ≡ worse one others)

  -- the lines of one file could not be written whole, and nothing was done with those after it
  pub record StopsListing (out out' err err' : Held) (names : List (List ℕ)) (status : Status)
      : Type 0 where
    pub front : List (List ℕ)
    pub name : List ℕ
    pub later : List (List ℕ)
    pub parts : names ≡ front ++ (name ∷ later)
    pub mid : Held
    pub mid_err : Held
    pub earlier : Status
    pub listed : AreListed out mid err mid_err front earlier
    pub cut : CutsLines (between mid out') (between mid_err err') (bytes name)
        (file_label several name) status

abbrev pub IsListOut : (List ℕ → Option (List ℕ)) → OutputChange → OutputChange → List (List ℕ) →
    Status →
    Type 0
IsListOut bytes out err names status =
    AreListed bytes (are_several names) (held_before out) (held_after out) (held_before err)
    (held_after err) names status
    ⊎ StopsListing bytes (are_several names) (held_before out) (held_after out) (held_before err)
    (held_after err) names status

-- ---- which files are opened

-- some of these names were opened, each once, in their order
abbrev pub OpensSome : List (List ℕ) → List (List ℕ) → List (List ℕ) → Type 0
OpensSome before after [] = after ≡ before
OpensSome before after (name ∷ names) = OpensSome before after names
    ⊎ OpensSome (before ++ (name ∷ [])) after names

-- and all of them where all was done
pub record OpensEach (before after names : List (List ℕ)) (status : Status) : Type 0 where
  pub some : OpensSome before after names
  pub all : status ≡ Done → after ≡ before ++ names
