-- The header of a file, and its good form, which a strict reading reads.
use Rattle.std.specs.Prelude.{◌≡◌, ◌⊎◌, ℕ, List, ◌∷◌, ◌++◌, take, drop, slice_index, Option, Some}
use Rattle.std.specs.Prelude.{None, ℤ, false, ◌≤◌, ◌<◌, length, ◌≢◌, ◌+◌, ◌*◌, codes, Bool, IsTrue}
use Rattle.std.specs.Prelude.{nat_eq, if◌then◌else◌}
use Rattle.std.specs.Char.{is_ascii_digit}
use Rattle.edf_time.specs.Civil.{IsTimeText, IsIdDate, IsDateText, AreStartdates}
use Rattle.edf_mend.specs.Texts.{unfilled, spaced, fitted, numeral, first_subfield, IsNoCode}
use Rattle.edf_mend.specs.Identification.{HasDate, date_of, mark, KeepsPatient, KeepsRecording}
use Rattle.edf_mend.specs.Identification.{StaysBehindDate}
use Rattle.std.specs.List.{AllByRecursion, ends_with}
use Rattle.edf_field.specs.Number.{field, IsNumber}
use Rattle.edf_header.specs.Fields.{fields, patient_field, recording_field, duration_field}
use Rattle.edf_header.specs.Fields.{version_field, startdate_field, starttime_field, reserved_field}
use Rattle.edf_header.specs.Fields.{signals_field, label_field}
use Rattle.edf_header.specs.Signal.{row_at, IsLabelled}
use Rattle.edf_mend.specs.declared.wanted.Wanted.{Wanted}
use Rattle.edf_header.specs.Header.{HeaderRecord, AreSignals, IsFixedHeader}
use Rattle.edf_mend.specs.Signal.{KeepsSignal, SpeaksOfAnnotations}
use Rattle.edf_mend.specs.declared.wanted.Who.TheVariants.{AsNamed}

-- Two parts of two bytes and a third lie apart: between them are no digits.
abbrev pub AreParted : List ℕ → Type 0
AreParted field = (is_ascii_digit (slice_index field 2) ≡ false)
    × (is_ascii_digit (slice_index field 5) ≡ false)

-- They have dots between them, whatever stood there.
abbrev pub dotted : List ℕ → List ℕ
dotted field = take 2 field ++ (46 ∷ (take 2 (drop 3 field) ++ (46 ∷ drop 6 field)))

abbrev pub HasNoTime : List ℕ → Type 0
HasNoTime field = (seconds : ℕ) → AreParted field → ¬ IsTimeText (dotted field) seconds

abbrev pub KeepsTime : Option (List ℕ) → List ℕ → List ℕ → Type 0
KeepsTime None old new = AreParted old × (new ≡ dotted old)
KeepsTime (Some time) old new = (new ≡ time) × HasNoTime old

-- The recording field has this day, in any letters.
abbrev pub HasDay : List ℕ → ℤ → Type 0
HasDay recording day = HasDate recording × IsIdDate (date_of recording) day

abbrev pub AgreesWithDay : List ℕ → List ℕ → Type 0
AgreesWithDay recording date = (day : ℤ) × HasDay recording day
    × ((days : ℕ) × AreStartdates date (Some day) days)

-- A file has no startdate: neither one that says its year, nor one that is the day of the recording
-- field.
abbrev pub HasNoStartdate : List ℕ → List ℕ → Type 0
HasNoStartdate recording date = ((days : ℕ) → ¬ IsDateText date days)
    × (¬ AgreesWithDay recording (dotted date))

-- Another form than dd.mm.yy is read only where the recording field has that day.
abbrev pub KeepsDate : Option (List ℕ) → List ℕ → List ℕ → List ℕ → Type 0
KeepsDate None recording old new = (new ≡ old)
    ⊎ (AreParted old × (new ≡ dotted old) × AgreesWithDay recording new)
KeepsDate (Some date) recording old new = (new ≡ date) × HasNoStartdate recording old

-- A field stays byte for byte, but for zeros that fill it.
abbrev pub StaysField : List ℕ → List ℕ → ℕ × ℕ → Type 0
StaysField old new f = field new f.0 f.1 ≡ spaced (field old f.0 f.1)

abbrev pub StaysRow : List ℕ → List ℕ → Type 0
StaysRow old new = IsLabelled new ⊎ AllByRecursion (StaysField old new) fields

-- What names a recording is what the file says, and its start is, too.
pub record StaysAll (w : Wanted) (n : ℕ) (first second text : List ℕ) (count : ℕ)
    (strict signals : List ℕ) : Type 0 where
  pub patient : patient_field strict ≡ spaced (patient_field first)
  pub recording : text ≡ unfilled (recording_field first)
  pub duration : duration_field strict ≡ spaced (duration_field first)
  pub startdate : w.startdate ≡ None
  pub starttime : w.starttime ≡ None
  pub each : (i : ℕ) → i < n → StaysRow (row_at second n i) (row_at signals count i)

-- The text ends with the mark.
abbrev pub SaysMended : List ℕ → Type 0
SaysMended text = IsTrue (ends_with nat_eq text (32 ∷ mark))

-- The field has a text and the mark, whole.
abbrev pub IsMarked : List ℕ → List ℕ → Type 0
IsMarked text new = (SaysMended text × (length text ≤ 80) × (new ≡ fitted 80 text))
    ⊎ ((¬ SaysMended text) × (length text ≤ 73) × (new ≡ fitted 80 (text ++ (32 ∷ mark))))

-- It has the mark just where something differs.
abbrev pub IsMarkedRight : Type 0 → List ℕ → List ℕ → Type 0
IsMarkedRight stays text new = (stays × (new ≡ fitted 80 text)) ⊎ ((¬ stays) × IsMarked text new)

-- The fixed part has these fields, and this text for its recording field.
pub record KeepsFields (w : Wanted) (old who text day clock size : List ℕ) : Type 0 where
  pub version : spaced (version_field old) ≡ codes "0       "
  pub patient : KeepsPatient w.who (patient_field old) who
  pub recording : KeepsRecording w.who day (recording_field old) text
  pub date : KeepsDate w.startdate (recording_field old) (startdate_field old) day
  pub time : KeepsTime w.starttime (starttime_field old) clock
  pub duration : size ≡ numeral (duration_field old)

-- Codes of a recording stay where its patient has none.
pub record KeepsFixed (w : Wanted) (old new text : List ℕ) : Type 0 where
  pub kept : KeepsFields w old (patient_field new) text (startdate_field new) (starttime_field new)
      (duration_field new)
  pub nobody : w.who ≡ AsNamed → (¬ IsNoCode (first_subfield (patient_field new)))
      ⊎ StaysBehindDate (recording_field old) (recording_field new)

-- A signal, of a file that has annotations signals or of one that has none. In the latter none is
-- an annotations signal, and no label speaks of annotations, before or after.
pub record KeepsRow (timed : Bool) (old new : List ℕ) : Type 0 where
  pub kept : KeepsSignal old new
  pub plain : timed ≡ false → ¬ IsLabelled new
  pub silent : timed ≡ false → ¬ SpeaksOfAnnotations (label_field old)
  pub stays_silent : timed ≡ false → ¬ SpeaksOfAnnotations (label_field new)

-- There are as many as there were; or an annotations signal more, where there was none.
pub record KeepsSignals (timed : Bool) (n : ℕ) (old : List ℕ) (count : ℕ) (new : List ℕ) :
    Type 0 where
  pub len : length old ≡ 256 * n
  pub many : count ≡ (if timed then n else n + 1)
  pub each : (i : ℕ) → i < n → KeepsRow timed (row_at old n i) (row_at new count i)

-- The two headers go together, field for field. A file that says that it has gaps has annotations
-- signals.
pub record KeepsHeader (w : Wanted) (first second : List ℕ) (timed : Bool) (h : HeaderRecord) :
    Type 0 where
  pub n : ℕ
  pub strict : List ℕ
  pub strict_signals : List ℕ
  pub text : List ℕ
  pub len : length first ≡ 256
  pub number : IsNumber (numeral (signals_field first)) n
  pub gaps : timed ≡ false → take 5 (reserved_field first) ≢ codes "EDF+D"
  pub fixed : KeepsFixed w first strict text
  pub signals : KeepsSignals timed n second h.fixed.signal_count strict_signals
  pub marked : IsMarkedRight (StaysAll w n first second text h.fixed.signal_count strict
      strict_signals) text (recording_field strict)
  pub is_fixed : IsFixedHeader strict h.fixed
  pub are_signals : AreSignals strict_signals h
