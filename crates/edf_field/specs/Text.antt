-- Texts of header fields identify a patient and a recording.
use Rattle.std.specs.Prelude.{◌≡◌, ℕ, ◌-◌, ◌≤◌, ◌⊎◌, ◌==◌, List, ◌∷◌, ◌++◌, length, take, drop}
use Rattle.std.specs.Prelude.{filter, replicate, codes, nat_lt, ℤ, Option, Some, None}
use Rattle.std.specs.List.{slice_split}
use Rattle.edf_time.specs.Civil.{IsIdDate}
use Rattle.edf_field.specs.Number.{field}

-- The byte is printable, as every byte of a header is.
pub record IsPrintable (b : ℕ) : Type 0 where
  pub from : 32 ≤ b
  pub to : b ≤ 126

abbrev pub spaces : ℕ → List ℕ
spaces n = replicate n 32

-- The text is filled with spaces to the width of its field.
abbrev pub padded_to : ℕ → List ℕ → List ℕ
padded_to width text = text ++ spaces (width - length text)

-- Subfields are the parts between runs of spaces that are not empty.
abbrev pub subfields : List ℕ → List (List ℕ)
subfields text = filter (λ part. nat_lt 0 (length part)) (slice_split (λ b. b == 32) text)

abbrev pub IsSex : List ℕ → Type 0
IsSex text = (text ≡ codes "F") ⊎ ((text ≡ codes "M") ⊎ (text ≡ codes "X"))

abbrev pub IsBirthdate : List ℕ → Type 0
IsBirthdate text = (text ≡ codes "X") ⊎ ((day : ℤ) × IsIdDate text day)

-- The text is a patient identification: code, sex, birthdate and name, and maybe more.
pub record IsPatient (text : List ℕ) : Type 0 where
  pub code : List ℕ
  pub sex : List ℕ
  pub birthdate : List ℕ
  pub name : List ℕ
  pub more : List (List ℕ)
  pub parts : subfields text ≡ code ∷ sex ∷ birthdate ∷ name ∷ more
  pub is_sex : IsSex sex
  pub is_birthdate : IsBirthdate birthdate

-- After the Startdate subfield come a space and at least investigation, technician and equipment.
pub record FollowsStartdate (after : List ℕ) : Type 0 where
  pub space : take 1 after ≡ codes " "
  pub codes_in : 3 ≤ length (subfields after)

-- The text is `Startdate`, a space and the Startdate subfield, which is a day or X; then `after`.
abbrev pub IsStartdate : List ℕ → Option ℤ → List ℕ → Type 0
IsStartdate text None after = (take 11 text ≡ codes "Startdate X") × (after ≡ drop 11 text)
IsStartdate text (Some day) after =
    (take 10 text ≡ codes "Startdate ") × IsIdDate (field text 10 11) day × (after ≡ drop 21 text)

-- This follows the Startdate subfield in a recording field.
abbrev pub after_startdate_of : Option ℤ → List ℕ → List ℕ
after_startdate_of None recording = drop 11 recording
after_startdate_of (Some day) recording = drop 21 recording

-- The text is a recording identification, with this Startdate subfield and what follows it.
pub record IsRecording (text : List ℕ) (startdate : Option ℤ) (after : List ℕ) : Type 0 where
  pub is_startdate : IsStartdate text startdate after
  pub rest : FollowsStartdate after
