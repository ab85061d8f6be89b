-- Why a text is no identification: one reason at most, and none where it is one.
use Rattle.std.proofs.Common.{◌≡◌, ℕ, List, [], ◌∷◌, arith, refl, subst, ℤ, Option}
use Rattle.edf_field.specs.Text.{subfields, IsSex, IsBirthdate, IsPatient, IsRecording}
use Rattle.edf_field.specs.Fault.{SubfieldsHaveFault, IsPatientFault, IsRecordingFault}
use Rattle.edf_field.specs.declared.fault.PatientFault.{PatientFault}
use Rattle.edf_field.specs.declared.fault.PatientFault.TheVariants.{NoSex, NoBirthdate, Few}
use Rattle.edf_field.specs.declared.fault.RecordingFault.{RecordingFault}
use Rattle.edf_field.specs.declared.fault.RecordingFault.TheVariants.{NoStartdate, NoDate}
use Rattle.edf_field.specs.declared.fault.RecordingFault.TheVariants.{Few as FewCodes}
use Rattle.edf_field.proofs.Recordings.{not-following, other-front}

-- ---- the patient identification

no-fault-of : (code sex birthdate name : List ℕ) (more : List (List ℕ)) (fault : PatientFault) →
    IsSex sex → IsBirthdate birthdate →
    ¬ SubfieldsHaveFault fault (code ∷ sex ∷ birthdate ∷ name ∷ more)
no-fault-of code sex birthdate name more NoSex is date fails = fails is
no-fault-of code sex birthdate name more NoBirthdate is date fails = fails.1 date
no-fault-of code sex birthdate name more Few is date fails = omega (arith, fails.0)

-- an identification has no fault
pub patient-no-fault : (text : List ℕ) (fault : PatientFault) → IsPatient text →
    ¬ IsPatientFault text fault
patient-no-fault text fault is fails =
    no-fault-of is.code is.sex is.birthdate is.name is.more fault is.is_sex is.is_birthdate
    (subst (SubfieldsHaveFault fault) is.parts fails)

one-of : (fault other : PatientFault) (parts : List (List ℕ)) → SubfieldsHaveFault fault parts →
    SubfieldsHaveFault other parts → fault ≡ other
one-of NoSex NoSex parts p q = refl
one-of NoBirthdate NoBirthdate parts p q = refl
one-of Few Few parts p q = refl
one-of NoSex NoBirthdate (code ∷ sex ∷ birthdate ∷ more) p q = absurd (p q.0)
one-of NoSex NoBirthdate parts p q = absurd q
one-of NoBirthdate NoSex (code ∷ sex ∷ birthdate ∷ more) p q = absurd (q p.0)
one-of NoBirthdate NoSex parts p q = absurd p
one-of NoSex Few (code ∷ sex ∷ birthdate ∷ more) p q = absurd (p q.1.0)
one-of NoSex Few (code ∷ sex ∷ []) p q = absurd (p q.1)
one-of NoSex Few parts p q = absurd p
one-of Few NoSex (code ∷ sex ∷ birthdate ∷ more) p q = absurd (q p.1.0)
one-of Few NoSex (code ∷ sex ∷ []) p q = absurd (q p.1)
one-of Few NoSex parts p q = absurd q
one-of NoBirthdate Few (code ∷ sex ∷ birthdate ∷ more) p q = absurd (p.1 q.1.1)
one-of NoBirthdate Few parts p q = absurd p
one-of Few NoBirthdate (code ∷ sex ∷ birthdate ∷ more) p q = absurd (q.1 p.1.1)
one-of Few NoBirthdate parts p q = absurd q

-- a text has one fault at most
pub one-patient-fault : (text : List ℕ) (fault other : PatientFault) → IsPatientFault text fault →
    IsPatientFault text other → fault ≡ other
one-patient-fault text fault other p q = one-of fault other (subfields text) p q

-- ---- the recording identification

-- an identification has no fault
pub recording-no-fault : (text : List ℕ) (s : Option ℤ) (after : List ℕ) (fault : RecordingFault) →
    IsRecording text s after → ¬ IsRecordingFault text fault
recording-no-fault text s after NoStartdate is fails =
    other-front text fails s after is.is_startdate
recording-no-fault text s after NoDate is fails = fails.1 s after is.is_startdate
recording-no-fault text s after FewCodes is fails =
    not-following text fails.0 fails.1 fails.2 fails.3 s after is

-- a text has one fault at most
pub one-recording-fault : (text : List ℕ) (fault other : RecordingFault) →
    IsRecordingFault text fault → IsRecordingFault text other → fault ≡ other
one-recording-fault text NoStartdate NoStartdate p q = refl
one-recording-fault text NoDate NoDate p q = refl
one-recording-fault text FewCodes FewCodes p q = refl
one-recording-fault text NoStartdate NoDate p q = absurd (p q.0)
one-recording-fault text NoDate NoStartdate p q = absurd (q p.0)
one-recording-fault text NoStartdate FewCodes p q = absurd (other-front text p q.0 q.1 q.2)
one-recording-fault text FewCodes NoStartdate p q = absurd (other-front text q p.0 p.1 p.2)
one-recording-fault text NoDate FewCodes p q = absurd (p.1 q.0 q.1 q.2)
one-recording-fault text FewCodes NoDate p q = absurd (q.1 p.0 p.1 p.2)
