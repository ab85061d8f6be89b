-- A header is refused for its first fault in the order of the numbers. Each fault has a condition,
-- a number, a name, and the offset or the signal that it names.
use Rattle.std.specs.Prelude.{◌≡◌, ◌≢◌, ℕ, ◌*◌, ◌<◌, ◌⊎◌, List, length, codes, take, Option, Some}
use Rattle.std.specs.Prelude.{None}
use Rattle.edf_field.specs.Number.{field}
use Rattle.edf_field.specs.Text.{IsPrintable}
use Rattle.edf_field.specs.Fault.{IsPatientFault, IsRecordingFault}
use Rattle.edf_header.specs.Fields.{version_field, patient_field, recording_field, startdate_field}
use Rattle.edf_header.specs.Fields.{starttime_field, reserved_field, duration_field}
use Rattle.edf_header.specs.Signal.{signals_of, IsFirstBad}
use Rattle.edf_header.specs.Fixed.{IsPlus}
use Rattle.edf_header.specs.Format.{IsFormat}
use Rattle.edf_header.specs.Condition.{HasCount, HasNoSignals, HasOtherHeaderBytes, IsNoTime}
use Rattle.edf_header.specs.Condition.{IsNoDuration, IsNoStartdate, HasNoYear, DatesAreOther}
use Rattle.edf_header.specs.Condition.{HasAnnotations, IsBadSignal, IsTooLarge, HasBadByteAt}
use Rattle.edf_header.specs.declared.signal_checks.Check.TheVariants as checks
use Rattle.edf_header.specs.declared.fault.HeaderFault.{HeaderFault}
use Rattle.edf_header.specs.declared.fault.HeaderFault.TheVariants.{Cut, Unprintable, Version}
use Rattle.edf_header.specs.declared.fault.HeaderFault.TheVariants.{Patient, Recording, Startdate}
use Rattle.edf_header.specs.declared.fault.HeaderFault.TheVariants.{Starttime, DatesDiffer, NotPlus}
use Rattle.edf_header.specs.declared.fault.HeaderFault.TheVariants.{Count, Duration, Signals}
use Rattle.edf_header.specs.declared.fault.HeaderFault.TheVariants.{HeaderBytes, CutSignals}
use Rattle.edf_header.specs.declared.fault.HeaderFault.TheVariants.{UnprintableSignals, Annotations}
use Rattle.edf_header.specs.declared.fault.HeaderFault.TheVariants.{Physical, Digital, Samples}
use Rattle.edf_header.specs.declared.fault.HeaderFault.TheVariants.{Size, Memory}
-- It is cited beside the faults.
pub use Rattle.edf_header.specs.Condition.{HasSignals}

-- The fault, E1 to E13, is true of b, the fixed part's bytes.
abbrev pub FixedPartFails : List ℕ → HeaderFault → Type 0
FixedPartFails b Cut = length b < 256  -- E1
FixedPartFails b (Unprintable offset format) = IsFirstBad IsPrintable b offset  -- E2
    × IsFormat b format
FixedPartFails b (Version format) = (version_field b ≢ codes "0       ") × IsFormat b format  -- E3
FixedPartFails b (Patient fault) = IsPatientFault (patient_field b) fault  -- E4
FixedPartFails b (Recording fault) = IsRecordingFault (recording_field b) fault  -- E5
FixedPartFails b Startdate = IsNoStartdate (startdate_field b) ⊎ HasNoYear b  -- E6
FixedPartFails b Starttime = IsNoTime (starttime_field b)  -- E7
FixedPartFails b DatesDiffer = DatesAreOther b  -- E8
FixedPartFails b NotPlus = ¬ IsPlus (reserved_field b)  -- E9
FixedPartFails b Count = ¬ HasCount b  -- E10
FixedPartFails b Duration = IsNoDuration (duration_field b)  -- E11
FixedPartFails b Signals = HasNoSignals b  -- E12
FixedPartFails b HeaderBytes = HasOtherHeaderBytes b  -- E13
FixedPartFails b _ = ⊥

-- The fault, E14 to E20, is true of s, the signal part's bytes, of n signals.
abbrev pub SignalsFail : List ℕ → ℕ → HeaderFault → Type 0
SignalsFail s n CutSignals = length s < 256 * n  -- E14
SignalsFail s n (UnprintableSignals offset) = HasBadByteAt s offset  -- E15
SignalsFail s n Annotations = ¬ HasAnnotations (signals_of s n)  -- E16
SignalsFail s n (Physical signal) = IsBadSignal checks.Physical (signals_of s n) signal  -- E17
SignalsFail s n (Digital signal) = IsBadSignal checks.Digital (signals_of s n) signal  -- E18
SignalsFail s n (Samples signal) = IsBadSignal checks.Samples (signals_of s n) signal  -- E19
SignalsFail s n Size = IsTooLarge (signals_of s n)  -- E20
SignalsFail s n _ = ⊥

-- The faults are ordered by these numbers.
abbrev pub header_fault_number : HeaderFault → ℕ
header_fault_number Cut = 1
header_fault_number (Unprintable offset format) = 2
header_fault_number (Version format) = 3
header_fault_number (Patient fault) = 4
header_fault_number (Recording fault) = 5
header_fault_number Startdate = 6
header_fault_number Starttime = 7
header_fault_number DatesDiffer = 8
header_fault_number NotPlus = 9
header_fault_number Count = 10
header_fault_number Duration = 11
header_fault_number Signals = 12
header_fault_number HeaderBytes = 13
header_fault_number CutSignals = 14
header_fault_number (UnprintableSignals offset) = 15
header_fault_number Annotations = 16
header_fault_number (Physical signal) = 17
header_fault_number (Digital signal) = 18
header_fault_number (Samples signal) = 19
header_fault_number Size = 20
header_fault_number Memory = 41

-- The faults have the names of their variants.
abbrev pub header_fault_name : HeaderFault → List ℕ
header_fault_name Cut = codes "Cut"
header_fault_name (Unprintable offset format) = codes "Unprintable"
header_fault_name (Version format) = codes "Version"
header_fault_name (Patient fault) = codes "Patient"
header_fault_name (Recording fault) = codes "Recording"
header_fault_name Startdate = codes "Startdate"
header_fault_name Starttime = codes "Starttime"
header_fault_name DatesDiffer = codes "DatesDiffer"
header_fault_name NotPlus = codes "NotPlus"
header_fault_name Count = codes "Count"
header_fault_name Duration = codes "Duration"
header_fault_name Signals = codes "Signals"
header_fault_name HeaderBytes = codes "HeaderBytes"
header_fault_name CutSignals = codes "CutSignals"
header_fault_name (UnprintableSignals offset) = codes "UnprintableSignals"
header_fault_name Annotations = codes "Annotations"
header_fault_name (Physical signal) = codes "Physical"
header_fault_name (Digital signal) = codes "Digital"
header_fault_name (Samples signal) = codes "Samples"
header_fault_name Size = codes "Size"
header_fault_name Memory = codes "Memory"

-- The fault names the offset in the file of a byte that is not printable.
abbrev pub header_fault_offset : HeaderFault → Option ℕ
header_fault_offset (Unprintable offset format) = Some offset
header_fault_offset (UnprintableSignals offset) = Some offset
header_fault_offset _ = None

-- The fault names the signal that is refused.
abbrev pub header_fault_signal : HeaderFault → Option ℕ
header_fault_signal (Physical signal) = Some signal
header_fault_signal (Digital signal) = Some signal
header_fault_signal (Samples signal) = Some signal
header_fault_signal _ = None

-- No fault of a lower number than n is true.
abbrev pub IsClean : (HeaderFault → Type 0) → ℕ → Type 0
IsClean Holds n = (other : HeaderFault) → header_fault_number other < n → ¬ Holds other

-- The fault is true, and none of a lower number.
abbrev pub IsFirst : (HeaderFault → Type 0) → HeaderFault → Type 0
IsFirst Holds fault = Holds fault × IsClean Holds (header_fault_number fault)

-- Bytes begin with no header, by a fault of the fixed part, or, where it has none, of the signal
-- part after it.
abbrev pub IsHeaderFault : List ℕ → HeaderFault → Type 0
IsHeaderFault bytes fault =
    IsFirst (FixedPartFails (take 256 bytes)) fault
    ⊎ ((n : ℕ) × IsClean (FixedPartFails (take 256 bytes)) 14 × HasSignals bytes n
    × IsFirst (SignalsFail (field bytes 256 (256 * n)) n) fault)

-- The signal part is not read, by its first fault, or where it has none since memory ran out.
abbrev pub IsSignalsRefusal : List ℕ → ℕ → HeaderFault → Type 0
IsSignalsRefusal s n fault = ((fault ≡ Memory) × IsClean (SignalsFail s n) 21)
    ⊎ IsFirst (SignalsFail s n) fault
