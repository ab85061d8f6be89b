-- What `split` does: the files that it makes, and the status that it answers.
use Rattle.std.specs.Prelude.{◌≡◌, ◌≢◌, ◌⊎◌, ℕ, ◌≤◌, List, [], ◌++◌, Bool, true, false, All}
use Rattle.std.specs.Prelude.{Contains, Option, Some, length, take}
use Rattle.std.specs.List.{flat_map, AllZip}
use Rattle.edf_field.specs.Number.{duration_of}
use Rattle.edf_header.specs.Header.{Layout}
use Rattle.edf_header.specs.Key.{Key, MayStart}
use Rattle.edf_fragment.specs.Fragment.{DataRecord}
use Rattle.edf_fragment.specs.Reading.{ReadsHeader, initial_progress}
use Rattle.edf_fragment.specs.Whole.{ReadsFragment}
use Rattle.edf_fragment.specs.declared.advance.Progress.{Progress}
use Rattle.edf_fragment.specs.declared.fault.FragmentFault.{FragmentFault}
use Rattle.edf_cli.specs.Made.{MadeFile, names_of}
use Rattle.edf_cli.specs.Making.{Making, MakesNothing}
use Rattle.edf_cli.specs.Output.{OutputChange, Gets, GetsPrefix}
use Rattle.edf_cli.specs.There.{IsVacant, MayBeThere}
use Rattle.edf_cli.specs.declared.new_files.FileStage.TheVariants.{Finished}
use Rattle.edf_cli.specs.declared.status.Status.{Status}
use Rattle.edf_cli.specs.declared.status.Status.TheVariants.{Done, Refused, Trouble}
use Rattle.edf_runs.specs.File.{IsRunFile}
use Rattle.edf_runs.specs.Read.{ReadsOn}
use Rattle.edf_runs.specs.Runs.{IsRuns, IsListed}
use Rattle.edf_runs.specs.declared.run.Run.{Run}
use Rattle.edf_runs.specs.declared.run_list.Listing.{Listing}
use Rattle.edfruns_command.specs.Lines.{file_refused_status}
use Rattle.edfruns_command.specs.Listing.{HasRuns, HasFault}
use Rattle.edfruns_command.specs.Naming.{run_names, asked_names}

-- a file of the run is there under its name, with just these bytes where what is made is known
pub record HoldsRun (known : Bool) (k : Key) (run : List DataRecord) (made : MadeFile) : Type 0
  where
    pub finished : made.stage ≡ Finished
    pub is_whole : made.whole ≡ true
    pub file : List ℕ
    pub is_file : IsRunFile file k run
    pub held : known ≡ true → made.bytes ≡ Some file

-- after the header data records were read that are the first of the listed runs. These have files
-- of the first names; one more was begun at most, which is not whole; and no other was made
pub record HasFirst (m : Making) (names : List (List ℕ)) (l : Layout) (input : Option (List ℕ))
    (listed : List Run) : Type 0 where
  pub runs : List (List DataRecord)
  pub are_listed : AllZip (IsListed (duration_of l.key.duration)) runs (take (length runs) listed)
  pub to : Progress
  pub rest : Option (List ℕ)
  pub read : ReadsOn l initial_progress to input rest (flat_map (λ run. run) runs)
  pub whole : List MadeFile
  pub held : AllZip (HoldsRun m.known l.key) runs whole
  pub half : List MadeFile
  pub at_most : length half ≤ 1
  pub are_half : All (λ (file : MadeFile). file.whole ≡ false) half
  pub made : m.after ≡ m.before ++ (whole ++ half)
  pub named : names_of (whole ++ half) ≡ take (length (whole ++ half)) names

-- so the file was read again, whose runs had been listed
abbrev pub RereadsFirst : Making → Option (List ℕ) → Listing → List (List ℕ) → Type 0
RereadsFirst m bytes listing names = (l : Layout) × (input : Option (List ℕ))
    × ReadsHeader bytes input l × (l.key ≡ listing.identity)
    × HasFirst m names l input listing.runs.items

module _ (m : Making) (bytes : Option (List ℕ)) (prefix : List ℕ) where
  -- each run of the file, in turn, has its file, and no other was made
  pub record SplitsFile : Type 0 where
    pub layout : Layout
    pub records : List DataRecord
    pub rest : Option (List ℕ)
    pub read : ReadsFragment bytes rest layout records
    pub runs : List (List DataRecord)
    pub are_runs : IsRuns (duration_of layout.key.duration) records runs
    pub files : List MadeFile
    pub held : AllZip (HoldsRun m.known layout.key) runs files
    pub made : m.after ≡ m.before ++ files
    pub named : names_of files ≡ run_names prefix (length files)
    pub unfailed : m.failed_after ≡ m.failed_before

  -- a header can name when each run starts, and nothing has one of the names that are asked for
  pub record IsReady (listing : Listing) : Type 0 where
    pub has : HasRuns bytes listing
    pub dated : All (λ (run : Run). MayStart listing.identity run.first) listing.runs.items
    pub free : All (IsVacant m.there) (asked_names prefix (length listing.runs.items))

  -- the file has a fault of form, or a run that no header can date, or there is such a name
  abbrev pub IsRefused : Type 0
  IsRefused = ((fault : FragmentFault) × HasFault bytes fault × (file_refused_status fault ≡
      Refused))
      ⊎ ((listing : Listing) × HasRuns bytes listing
      × ((¬ All (λ (run : Run). MayStart listing.identity run.first) listing.runs.items)
      ⊎ ((name : List ℕ) × Contains (asked_names prefix (length listing.runs.items)) name
      × MayBeThere m.there name)))

  -- files were made of all runs, or of the first of them, or none was made
  abbrev pub MakesFiles : Status → Type 0
  MakesFiles Done = (listing : Listing) × IsReady listing × SplitsFile
  MakesFiles Refused = MakesNothing m × IsRefused
  MakesFiles Trouble = MakesNothing m ⊎ ((listing : Listing) × IsReady listing
      × RereadsFirst m bytes listing (run_names prefix (length listing.runs.items)))
  MakesFiles other = ⊥

-- something is written of it, unless a write fails
abbrev pub Says : OutputChange → Type 0
Says err = ((line : List ℕ) × (line ≢ []) × Gets err line) ⊎ ((line : List ℕ) × GetsPrefix err line)

abbrev pub IsSplit : Making → OutputChange → Option (List ℕ) → List ℕ → Status → Type 0
IsSplit m err bytes prefix status = MakesFiles m bytes prefix status × ((status ≡ Done) ⊎ Says err)
