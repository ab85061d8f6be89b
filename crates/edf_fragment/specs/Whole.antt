-- A whole fragment was read, or some of its data records, or reading stopped at a fault.
use Rattle.std.specs.Prelude.{◌≡◌, ℕ, ◌≤◌, ◌⊎◌, List, [], length, Option, IfSome}
use Rattle.std.specs.Io.KnownBytes.{Consumes, IsAtEnd}
use Rattle.edf_header.specs.Header.{Layout, layout_of, most_records}
use Rattle.edf_tal.specs.declared.place.Place.TheVariants.{First}
use Rattle.edf_fragment.specs.Fragment.{DataRecord, BeginWithDataRecords, IsFragmentFile}
use Rattle.edf_fragment.specs.Fault.{IsFirstFault}
use Rattle.edf_fragment.specs.Reading.{ReadsHeader, IsOpenFault, IsNextFault}
use Rattle.edf_fragment.specs.declared.advance.Progress.{Progress}
use Rattle.edf_fragment.specs.declared.fault.FragmentFault.{FragmentFault}
use Rattle.edf_fragment.specs.declared.fault.FragmentFault.TheVariants.{Read, Memory, Failed}

-- the whole input was read: it is the file of these records, with a header of this layout
pub record ReadsFragment (input rest : Option (List ℕ)) (layout : Layout)
    (records : List DataRecord) : Type 0 where
  pub bytes : List ℕ
  pub read : Consumes input rest bytes
  pub end : IsAtEnd rest
  pub is_file : IsFragmentFile bytes layout.key records
  pub layout_is : layout ≡ layout_of is_file.header

-- these data records were read, and this progress has their number and the next one's place
pub record HasReadRecords (l : Layout) (input rest : Option (List ℕ)) (records : List DataRecord)
    (p : Progress) : Type 0 where
  pub bytes : List ℕ
  pub read : Consumes input rest bytes
  pub are_records : BeginWithDataRecords l First bytes records p.place []
  pub given : p.given ≡ length records
  pub within : p.given ≤ most_records l.count

-- some data records were read, and then came the fault
pub record FailsAfterRecords (l : Layout) (input rest : Option (List ℕ))
    (fault : FragmentFault) : Type 0 where
  pub mid : Option (List ℕ)
  pub records : List DataRecord
  pub progress : Progress
  pub before : HasReadRecords l input mid records progress
  pub is_fault : IsNextFault l progress mid rest fault

-- a header and some data records were read, and then came the fault
pub record FailsAfterHeader (input rest : Option (List ℕ)) (fault : FragmentFault) : Type 0 where
  pub layout : Layout
  pub mid : Option (List ℕ)
  pub header : ReadsHeader input mid layout
  pub records : FailsAfterRecords layout mid rest fault

-- where the bytes are known, this is their first fault; `Read` and `Memory` say nothing of them
abbrev pub IsFirstFaultIfKnown : Option (List ℕ) → FragmentFault → Type 0
IsFirstFaultIfKnown input Read = Unit {0}
IsFirstFaultIfKnown input Memory = Unit {0}
IsFirstFaultIfKnown input Failed = ⊥
IsFirstFaultIfKnown input fault = IfSome input (λ all. IsFirstFault all fault)

-- an input is no fragment's: the fault is in the header, or after it and some data records
pub record ReadsFragmentFault (input rest : Option (List ℕ)) (fault : FragmentFault) : Type 0 where
  pub met : IsOpenFault input rest fault ⊎ FailsAfterHeader input rest fault
  pub first : IsFirstFaultIfKnown input fault
