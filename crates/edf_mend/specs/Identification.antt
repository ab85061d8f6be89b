-- The patient that a file names, and the recording that it is of.
use Rattle.std.specs.Prelude.{◌≡◌, ◌⊎◌, ◌==◌, ℕ, ◌≤◌, List, ◌∷◌, ◌++◌, length, drop, All, codes, []}
use Rattle.std.specs.Prelude.{if◌then◌else◌, ◌-◌, take, slice_index_or, Option, ℤ, pos, replicate}
use Rattle.edf_time.specs.Civil.{IsVisible, IsIdDate, IsDateText}
use Rattle.edf_field.specs.Text.{subfields, IsPrintable, IsPatient, IsBirthdate, IsRecording}
use Rattle.edf_mend.specs.Texts.{spaced, fitted, first_subfield, joined_by, IsNoCode, unfilled}
use Rattle.edf_mend.specs.Texts.{spelling}
use Rattle.std.specs.Str.{str_to_ascii_uppercase as capitals}
use Rattle.edf_mend.specs.declared.wanted.Who.{Who}
use Rattle.edf_mend.specs.declared.wanted.Who.TheVariants.{AsNamed, Given, Replaced, Hidden}
use Rattle.std.specs.List.{flat_map}

-- The field is a patient identification as it stands, but for zeros that fill it.
abbrev pub IsPlain : List ℕ → Type 0
IsPlain field = All IsPrintable (spaced field) × IsPatient (spaced field)

abbrev pub code_of : List ℕ → List ℕ
code_of field = first_subfield (spaced field)

-- The field names somebody: the bytes of its code are visible ASCII, and in capitals it has a sex,
-- a birthdate and a name.
abbrev pub IsNamed : List ℕ → Type 0
IsNamed field = All IsVisible (code_of field) × IsPatient (capitals (spaced field))

-- The names of such a field are in ASCII, or X where these are blanks alone.
abbrev pub names_text : List (List ℕ) → List ℕ
names_text names = if length (subfields (spelling (joined_by 32 names))) == 0 then codes " X"
    else spelling (joined_by 32 names)

-- Of such a field come this code, sex and birthdate in capitals, and the names.
abbrev pub named_text : List ℕ → List (List ℕ) → List ℕ
named_text code (own ∷ sex ∷ birthdate ∷ names) = code ++ (32 ∷ (capitals sex
    ++ (32 ∷ (capitals birthdate ++ names_text names))))
named_text code parts = code

-- Nothing of it is cut.
abbrev pub IsRespelled : List ℕ → List ℕ → List ℕ → Type 0
IsRespelled code old new = (length (named_text code (subfields (spaced old))) ≤ 80)
    × (new ≡ fitted 80 (named_text code (subfields (spaced old))))

-- The field stays as it stands; or its code stays, which is one.
pub record StaysNamed (old new : List ℕ) : Type 0 where
  pub other : ¬ IsPlain old
  pub named : IsNamed old
  pub one : ¬ IsNoCode (code_of old)
  pub code : first_subfield new ≡ code_of old
  pub respelled : IsRespelled (code_of old) old new

abbrev pub KeepsName : List ℕ → List ℕ → Type 0
KeepsName old new = (IsPlain old × (new ≡ spaced old)) ⊎ StaysNamed old new

-- All that a field says is one subfield, or X where it says nothing.
abbrev pub one_subfield : List ℕ → List ℕ
one_subfield old = if length (subfields (spelling (spaced old))) == 0 then codes "X"
    else drop 1 (joined_by 95 (subfields (spelling (spaced old))))

-- A code that was given comes first: before the sex, birthdate and name of a field that names
-- somebody, or before all that the field says, cut where it lacks room.
abbrev pub StandsBehindCode : List ℕ → List ℕ → List ℕ → Type 0
StandsBehindCode code old new = (IsNamed old × IsRespelled code old new)
    ⊎ ((¬ IsNamed old) × (new ≡ fitted 80 (code ++ (codes " X X " ++ one_subfield old))))

abbrev pub GetsCode : List ℕ → List ℕ → List ℕ → Type 0
GetsCode code old new = (first_subfield new ≡ code) × StandsBehindCode code old new

-- A field that names somebody by this code is read as if none had been given.
abbrev pub KeepsCode : List ℕ → List ℕ → List ℕ → Type 0
KeepsCode code old new = (code_of old ≡ code) × KeepsName old new

-- A code stands in place of all that the field says.
abbrev pub IsCodeAlone : List ℕ → List ℕ → Type 0
IsCodeAlone code new = (first_subfield new ≡ code) × (new ≡ fitted 80 (code ++ codes " X X X"))

-- The good form of a file has this patient field in place of its own.
abbrev pub KeepsPatient : Who → List ℕ → List ℕ → Type 0
KeepsPatient AsNamed old new = KeepsName old new
KeepsPatient (Given code) old new = KeepsCode code old new
    ⊎ (GetsCode code old new × (IsNamed old → IsNoCode (code_of old)))
KeepsPatient (Replaced code) old new = KeepsCode code old new
    ⊎ (GetsCode code old new × ¬ (IsNamed old × (code_of old ≡ code)))
KeepsPatient (Hidden code) old new = IsCodeAlone code new

-- The field is a recording identification as it stands, but for zeros that fill it.
abbrev pub IsPlainRecording : List ℕ → Type 0
IsPlainRecording field = All IsPrintable (spaced field)
    × ((day : Option ℤ) × (after : List ℕ) × IsRecording (spaced field) day after)

-- Subfields are the word, a date or X, as a birthdate is written, and codes, in any letters.
abbrev pub AreDated : List (List ℕ) → Type 0
AreDated (word ∷ date ∷ after) =
    (capitals word ≡ codes "STARTDATE") × IsBirthdate (capitals date)
AreDated parts = ⊥

abbrev pub HasDate : List ℕ → Type 0
HasDate field = AreDated (subfields (spaced field))

-- This is the date, in capitals, and these are the codes.
abbrev pub date_of : List ℕ → List ℕ
date_of field = capitals (slice_index_or (subfields (spaced field)) 1 [])

abbrev pub codes_of : List ℕ → List (List ℕ)
codes_of field = drop 2 (subfields (spaced field))

-- X stands for each code that lacks.
abbrev pub lacking_codes : List (List ℕ) → List ℕ
lacking_codes after = flat_map (λ x. x) (replicate (3 - length after) (codes " X"))

-- Of such a field come its date, its codes in ASCII, and X for each that it lacks then.
abbrev pub IsRedated : List ℕ → List ℕ → Type 0
IsRedated old text = let spelled = spelling (joined_by 32 (codes_of old)) in HasDate old
    × (text ≡ codes "Startdate " ++ (date_of old ++ (spelled ++ lacking_codes (subfields spelled))))

-- The startdate says its year, and this is its day.
abbrev pub IsDateOf : List ℕ → List ℕ → Type 0
IsDateOf startdate date = (days : ℕ) × IsDateText startdate days × IsIdDate date (pos days)

-- Any other text comes whole behind that date and three codes X, as far as there is room before the
-- mark.
abbrev pub StandsBehind : List ℕ → List ℕ → List ℕ → Type 0
StandsBehind startdate old text = (¬ HasDate old) × (date : List ℕ) × IsDateOf startdate date
    × (text ≡ take 73 (codes "Startdate " ++ (date ++ (codes " X X X"
    ++ joined_by 32 (subfields (spelling (spaced old)))))))

-- Nothing of the field stays but its date, which is that of the startdate where it has none.
pub record IsDateAlone (startdate old text : List ℕ) : Type 0 where
  pub date : List ℕ
  pub is_date : (HasDate old × (date ≡ date_of old))
      ⊎ ((¬ HasDate old) × IsDateOf startdate date)
  pub text_is : text ≡ codes "Startdate " ++ (date ++ codes " X X X")

-- The good form of a file has this startdate, and this text, without the mark, in its recording
-- field.
abbrev pub KeepsRecording : Who → List ℕ → List ℕ → List ℕ → Type 0
KeepsRecording (Hidden code) startdate old text = IsDateAlone startdate old text
KeepsRecording who startdate old text = (IsPlainRecording old × (text ≡ unfilled old))
    ⊎ ((¬ IsPlainRecording old) × (IsRedated old text ⊎ StandsBehind startdate old text))

abbrev pub mark : List ℕ
mark = codes "mended"

-- The field has a date of its own, and behind it these codes, but for the mark.
abbrev pub HasCodes : List ℕ → List (List ℕ) → Type 0
HasCodes field these = HasDate field
    × ((these ≡ codes_of field) ⊎ (these ≡ codes_of field ++ mark ∷ []))

-- Where nobody is named, these codes stay.
pub record StaysBehindDate (old new : List ℕ) : Type 0 where
  pub day : Option ℤ
  pub after : List ℕ
  pub recording : IsRecording new day after
  pub same : HasCodes old (subfields after)
