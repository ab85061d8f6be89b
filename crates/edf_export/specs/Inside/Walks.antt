-- The two walks over a recording: the plan by the first, and the bytes that the second writes.
use Rattle.std.specs.Prelude.{◌≡◌, ℕ, ◌≤◌, List, [], length, Option, Some, None, Result}
use Rattle.std.specs.Prelude.{MatchResult}
use Rattle.std.specs.Io.KnownBytes.{Appends}
use Rattle.edf_header.specs.declared.limits.TheConstants.{MOST_RECORDS}
use Rattle.edf_header.specs.Key.{Key, IsKey}
use Rattle.edf_fragment.specs.Fragment.{DataRecord}
use Rattle.edf_fragment.specs.Sound.{AreSoundFrom, FirstMayStart}
use Rattle.edf_store.specs.Fault.{IsStoreRefusal}
use Rattle.edf_store.specs.declared.fault.StoreFault.{StoreFault}
use Rattle.edf_store.specs.declared.fault.StoreFault.TheVariants.{Foreign}
use Rattle.edf_canonical.specs.Measure.{IsMeasured}
use Rattle.edf_canonical.specs.Output.{WritesPrefix}
use Rattle.edf_canonical.specs.declared.fault.OutputFault.TheVariants.{Write as Failed}
use Rattle.edf_canonical.specs.declared.fault.OutputFault.TheVariants.{Memory as OutOfMemory}
use Rattle.edf_canonical.specs.declared.fault.SendFault.{SendFault}
use Rattle.edf_canonical.specs.declared.fault.SendFault.TheVariants.{Source, Unlike, Output}
use Rattle.edf_canonical.specs.declared.measure.Measure.{Measure}
use Rattle.edf_export.specs.declared.fault.ExportFault.{ExportFault}
use Rattle.edf_export.specs.declared.fault.ExportFault.TheVariants.{NoRecording, Store, Memory}
use Rattle.edf_export.specs.declared.fault.ExportFault.TheVariants.{Write}

-- the records are sound ones of the key with which its recording may begin, and at most `cap`
pub record IsSoundRecording (cap : ℕ) (k : Key) (records : List DataRecord) : Type 0 where
  pub key : IsKey k
  pub sound : AreSoundFrom k 0 records
  pub begins : FirstMayStart k records
  pub within_cap : length records ≤ cap

-- the plan is that of the records' file
pub record IsPlanOf (k : Key) (records : List DataRecord) (plan : Measure) : Type 0 where
  pub recording : IsSoundRecording MOST_RECORDS k records
  pub measured : IsMeasured records plan

-- there is a plan exactly where there are records
abbrev pub IsPlanned : Key → List DataRecord → Option Measure → Type 0
IsPlanned k records None = records ≡ []
IsPlanned k records (Some plan) = IsPlanOf k records plan

-- the fault of an export whose data records were not all written
abbrev pub export_fault_of : SendFault StoreFault → ExportFault
export_fault_of (Source fault) = Store fault
export_fault_of Unlike = Store Foreign
export_fault_of (Output Failed) = Write
export_fault_of (Output OutOfMemory) = Memory

-- a file that has a plan may fail so
abbrev pub IsWritingFault : ExportFault → Type 0
IsWritingFault NoRecording = ⊥
IsWritingFault (Store fault) = IsStoreRefusal fault
IsWritingFault Memory = Unit {0}
IsWritingFault Write = Unit {0}

-- just these bytes were written, or a prefix of them
abbrev pub IsSentOut : Option (List ℕ) → Option (List ℕ) → List ℕ → Result Unit ExportFault → Type 0
IsSentOut before after bytes result =
    MatchResult result (λ _. Appends before after bytes) (λ fault. WritesPrefix before after bytes
    × IsWritingFault fault)
