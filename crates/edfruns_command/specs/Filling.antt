-- What `fill` and `cut` write, and the status that they answer. Their lines are not told of here.
use Rattle.std.specs.Prelude.{◌≡◌, ◌⊎◌, ℕ, List, [], Option, Some}
use Rattle.std.specs.Io.KnownBytes.{Appends, Keeps}
use Rattle.edf_field.specs.Number.{duration_of}
use Rattle.edf_header.specs.Header.{Layout}
use Rattle.edf_header.specs.Key.{Key}
use Rattle.edf_fragment.specs.Fragment.{DataRecord, IsFragmentFile}
use Rattle.edf_fragment.specs.Sound.{FirstMayStart}
use Rattle.edf_fragment.specs.Whole.{ReadsFragment}
use Rattle.edf_fragment.specs.declared.fault.FragmentFault.{FragmentFault}
use Rattle.edf_canonical.specs.Output.{WritesPrefix}
use Rattle.edf_cli.specs.Output.{OutputChange}
use Rattle.edf_cli.specs.declared.status.Status.{Status}
use Rattle.edf_cli.specs.declared.status.Status.TheVariants.{Done, Refused, Trouble}
use Rattle.edf_runs.specs.Cut.{between, IsCutFile}
use Rattle.edf_runs.specs.Twice.{IsReadTwice, IsFilledOut}
use Rattle.edf_runs.specs.declared.filled.FillLimits.{FillLimits}
use Rattle.edfruns_command.specs.Lines.{file_refused_status}
use Rattle.edfruns_command.specs.Listing.{HasFault}

-- `fill` writes the filled file of a recording, within the limits that were asked for; nothing,
-- where it has none; and where it stops, some bytes behind what was there.
abbrev pub IsFillOut : OutputChange → Option (List ℕ) → FillLimits → Status → Type 0
IsFillOut out bytes limits Done = IsFilledOut limits bytes bytes out.before out.after
IsFillOut out bytes limits Refused = Keeps out.before out.after
IsFillOut out bytes limits Trouble = (text : List ℕ) × Appends out.before out.after text
IsFillOut out bytes limits other = ⊥

-- There is none of these data records whose start a header can name.
abbrev pub HasNoFirst : Key → List DataRecord → Type 0
HasNoFirst k records = FirstMayStart k records → records ≡ []

module _ (out : OutputChange) (bytes : Option (List ℕ)) (from to : ℕ) where
  -- The data records of a time went out.
  pub record WritesCut : Type 0 where
    pub key : Key
    pub records : List DataRecord
    pub read : IsReadTwice bytes bytes key records
    pub file : List ℕ
    pub is_file : IsCutFile file key records from to
    pub wrote : Appends out.before out.after file

  -- The file has none of the time, or no header can name when the first of them starts.
  pub record LacksCut : Type 0 where
    pub layout : Layout
    pub records : List DataRecord
    pub rest : Option (List ℕ)
    pub read : ReadsFragment bytes rest layout records
    pub none : HasNoFirst layout.key (between (duration_of layout.key.duration) from to records)

  -- Of a file that can be known nothing went out, or a prefix of their file.
  abbrev pub StopsInCut : Type 0
  StopsInCut = (all : List ℕ) (k : Key) (records : List DataRecord) → bytes ≡ Some all →
      IsFragmentFile all k records → Keeps out.before out.after
      ⊎ ((file : List ℕ) × IsCutFile file k records from to
      × WritesPrefix out.before out.after file)

  -- `cut` writes them; nothing, where the file is refused or lacks them.
  abbrev pub IsCutOut : Status → Type 0
  IsCutOut Done = WritesCut
  IsCutOut Refused = Keeps out.before out.after
      × (((fault : FragmentFault) × HasFault bytes fault × (file_refused_status fault ≡ Refused))
      ⊎ LacksCut)
  IsCutOut Trouble = StopsInCut
  IsCutOut other = ⊥
