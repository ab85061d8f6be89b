-- The proofs of the public laws, and no others: what other crates' proofs cite.
use Rattle.std.proofs.Common.{◌≡◌, ℕ, ◌≤◌, ◌<◌, ◌⊎◌, List, length, ℤ, Option}
use Rattle.edf_field.specs.Number.{IsDuration, IsDurationInRange, duration_of}
use Rattle.edf_field.specs.Text.{IsPatient, IsRecording}
use Rattle.edf_field.specs.Fault.{IsPatientFault, IsRecordingFault}
use Rattle.edf_field.specs.declared.fault.PatientFault.{PatientFault}
use Rattle.edf_field.specs.declared.fault.RecordingFault.{RecordingFault}
use Rattle.edf_field.specs.declared.number.TheConstants.{MOST_DURATION}
use Rattle.edf_field.proofs.Durations as durations
use Rattle.edf_field.proofs.Faults as faults

pub lasts-some : (nanos : ℕ) → IsDurationInRange nanos → 0 < nanos
lasts-some = durations.lasts-some

pub lasts-or-not : (nanos : ℕ) → IsDurationInRange nanos ⊎ (¬ IsDurationInRange nanos)
lasts-or-not = durations.lasts-or-not

pub duration-value : (field : List ℕ) (nanos : ℕ) → IsDuration field nanos →
    nanos ≡ duration_of field
duration-value = durations.duration-value

pub duration-bound : (field : List ℕ) (nanos : ℕ) → length field ≤ 8 → IsDuration field nanos →
    nanos ≤ MOST_DURATION
duration-bound = durations.duration-bound

-- why a text is no identification
pub patient-no-fault : (text : List ℕ) (fault : PatientFault) → IsPatient text →
    ¬ IsPatientFault text fault
patient-no-fault = faults.patient-no-fault

pub one-patient-fault : (text : List ℕ) (fault other : PatientFault) → IsPatientFault text fault →
    IsPatientFault text other → fault ≡ other
one-patient-fault = faults.one-patient-fault

pub recording-no-fault : (text : List ℕ) (s : Option ℤ) (after : List ℕ) (fault : RecordingFault) →
    IsRecording text s after → ¬ IsRecordingFault text fault
recording-no-fault = faults.recording-no-fault

pub one-recording-fault : (text : List ℕ) (fault other : RecordingFault) →
    IsRecordingFault text fault → IsRecordingFault text other → fault ≡ other
one-recording-fault = faults.one-recording-fault
