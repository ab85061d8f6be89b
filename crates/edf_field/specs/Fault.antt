-- A text is no identification: each fault has its condition, and at most one of them is true.
use Rattle.std.specs.Prelude.{◌≡◌, ◌≢◌, ℕ, ◌<◌, List, [], ◌∷◌, length, take, codes, ℤ, Option}
use Rattle.edf_field.specs.Text.{subfields, IsSex, IsBirthdate, IsStartdate, FollowsStartdate}
use Rattle.edf_field.specs.declared.fault.PatientFault.{PatientFault}
use Rattle.edf_field.specs.declared.fault.PatientFault.TheVariants.{NoSex, NoBirthdate, Few}
use Rattle.edf_field.specs.declared.fault.RecordingFault.{RecordingFault}
use Rattle.edf_field.specs.declared.fault.RecordingFault.TheVariants.{NoStartdate, NoDate}
use Rattle.edf_field.specs.declared.fault.RecordingFault.TheVariants.{Few as FewCodes}

-- Sex and birthdate are right, where they are there.
abbrev pub AreValidSubfields : List (List ℕ) → Type 0
AreValidSubfields (code ∷ sex ∷ []) = IsSex sex
AreValidSubfields (code ∷ sex ∷ birthdate ∷ more) = IsSex sex × IsBirthdate birthdate
AreValidSubfields parts = Unit {0}

-- The fault is true of these subfields.
abbrev pub SubfieldsHaveFault : PatientFault → List (List ℕ) → Type 0
SubfieldsHaveFault NoSex (code ∷ sex ∷ more) = ¬ IsSex sex
SubfieldsHaveFault NoSex parts = ⊥
SubfieldsHaveFault NoBirthdate (code ∷ sex ∷ birthdate ∷ more) = IsSex sex × ¬ IsBirthdate birthdate
SubfieldsHaveFault NoBirthdate parts = ⊥
SubfieldsHaveFault Few parts = (length parts < 4) × AreValidSubfields parts

-- The text is no patient identification, by this fault.
abbrev pub IsPatientFault : List ℕ → PatientFault → Type 0
IsPatientFault text fault = SubfieldsHaveFault fault (subfields text)

-- The text has no Startdate subfield, by this fault.
abbrev pub IsStartdateFault : List ℕ → RecordingFault → Type 0
IsStartdateFault text NoStartdate = take 10 text ≢ codes "Startdate "
IsStartdateFault text NoDate = (take 10 text ≡ codes "Startdate ")
    × ((startdate : Option ℤ) (after : List ℕ) → ¬ IsStartdate text startdate after)
IsStartdateFault text fault = ⊥

-- The text is no recording identification, by this fault.
abbrev pub IsRecordingFault : List ℕ → RecordingFault → Type 0
IsRecordingFault text FewCodes = (startdate : Option ℤ) × (after : List ℕ)
    × IsStartdate text startdate after × ¬ FollowsStartdate after
IsRecordingFault text fault = IsStartdateFault text fault
