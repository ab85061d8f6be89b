-- The input of a submission: how much of it was read, and what it parses to.
use Rattle.std.specs.Prelude.{◌≡◌, ◌⊎◌, ℕ, List, Option, IfSome}
use Rattle.std.specs.Io.KnownBytes.{Consumes, IsAtEnd}
use Rattle.edf_header.specs.Key.{Key}
use Rattle.edf_header.specs.Header.{Layout}
use Rattle.edf_fragment.specs.Fragment.{DataRecord, IsFragmentFile}
use Rattle.edf_fragment.specs.Parsed.{Parsed, Fragment, Fault}
use Rattle.edf_fragment.specs.Call.{InputState}
use Rattle.edf_fragment.specs.Reading.{ReadsHeader, CountsReadFault}
use Rattle.edf_fragment.specs.Whole.{HasReadRecords, ReadsFragmentFault}
use Rattle.edf_fragment.specs.declared.advance.Progress.{Progress}
use Rattle.edf_fragment.specs.declared.fault.FragmentFault.{FragmentFault}
use Rattle.edf_fragment.specs.declared.fault.FragmentFault.TheVariants.{Read, Memory, Failed}

-- the fault is one of the bytes: no failed read, want of memory or fault of an earlier call
abbrev pub IsFormFault : FragmentFault → Type 0
IsFormFault Read = ⊥
IsFormFault Memory = ⊥
IsFormFault Failed = ⊥
IsFormFault fault = Unit {0}

abbrev pub IsNoFragmentFile : List ℕ → Type 0
IsNoFragmentFile bytes = (key : Key) (records : List DataRecord) →
    ¬ IsFragmentFile bytes key records

module _ (from to : InputState) where
  abbrev pub NoReadFailed : Type 0
  NoReadFailed = to.failed ≡ from.failed

  -- the whole input, up to its end, is the file of this fragment, and no read failed
  pub record ReadsWhole (key : Key) (records : List DataRecord) : Type 0 where
    pub bytes : List ℕ
    pub read : Consumes from.remaining to.remaining bytes
    pub end : IsAtEnd to.remaining
    pub is_file : IsFragmentFile bytes key records
    pub counted : NoReadFailed

  -- the input has this fault and is no fragment; no more was read than shows it, and no read failed
  pub record ReadsFault (fault : FragmentFault) : Type 0 where
    pub of_form : IsFormFault fault
    pub is_fault : ReadsFragmentFault from.remaining to.remaining fault
    pub none : IfSome from.remaining IsNoFragmentFile
    pub counted : NoReadFailed

  -- the input was read, and parses to this
  abbrev pub ReadsAs : Parsed → Type 0
  ReadsAs (Fragment key records) = ReadsWhole key records
  ReadsAs (Fault fault) = ReadsFault fault

  -- a read failed, and was counted
  pub record FailsToRead : Type 0 where
    pub is_fault : ReadsFragmentFault from.remaining to.remaining Read
    pub counted : CountsReadFault from.failed to.failed Read

  -- a header and some data records were read, and nothing more
  pub record ReadsHeaderAndRecords : Type 0 where
    pub layout : Layout
    pub mid : Option (List ℕ)
    pub records : List DataRecord
    pub progress : Progress
    pub header : ReadsHeader from.remaining mid layout
    pub read : HasReadRecords layout mid to.remaining records progress
    pub counted : NoReadFailed

  -- memory ran out while the input was read
  pub record RunsOutOfMemory : Type 0 where
    pub is_fault : ReadsFragmentFault from.remaining to.remaining Memory
    pub counted : NoReadFailed

  -- Where memory ran out or the store refused, the input was read so far: not at all; a header and
  -- some data records; until memory ran out; until a read failed; or as far as the reply needed
  -- that the store's refusal replaces.
  abbrev pub ReadsUntilInterrupted : Type 0
  ReadsUntilInterrupted = (to ≡ from) ⊎ (ReadsHeaderAndRecords ⊎ (RunsOutOfMemory
      ⊎ (FailsToRead ⊎ ((submission : Parsed) × ReadsAs submission))))
