-- What a person who sends a file may rely on.
use Rattle.std.specs.Prelude.{◌≡◌, ◌≢◌, ◌⊎◌, ℕ, ◌+◌, ◌*◌, ◌^◌, ◌<◌, List, ◌∷◌, [], ◌++◌, codes}
use Rattle.std.specs.Prelude.{Contains, length, decimal, Bool, false, pos, Option, IsSomeAnd}
use Rattle.std.specs.List.{AllZip, flat_map}
use Rattle.edf_time.specs.Civil.{IsDateText, IsTimeText}
use Rattle.edf_field.specs.Number.{field, duration_of}
use Rattle.edf_field.specs.Text.{subfields}
use Rattle.edf_header.specs.Signal.{row_at, IsLabelled}
use Rattle.edf_header.specs.Fields.{label_field, patient_field, recording_field, startdate_field}
use Rattle.edf_header.specs.Fields.{starttime_field, count_field, fields}
use Rattle.edf_header.specs.Key.{Key, patient_code}
use Rattle.edf_header.specs.Header.{Layout, layout_of}
use Rattle.edf_tal.specs.declared.place.Place.{Place}
use Rattle.edf_fragment.specs.Fragment.{DataRecord}
use Rattle.edf_mend.specs.Texts.{spaced, fitted, IsNoCode}
use Rattle.edf_mend.specs.Identification.{code_of, IsCodeAlone, HasCodes, IsDateAlone}
use Rattle.edf_mend.specs.Signal.{SpeaksOfAnnotations}
use Rattle.edf_mend.specs.Header.{IsMarked, AreParted, dotted, HasDay}
use Rattle.edf_mend.specs.Changes.{FieldChange, fixed_fields, changes_of_count}
use Rattle.edf_mend.specs.Body.{record_size, RecordReadsAs}
use Rattle.edf_mend.specs.Mends.{Mends, ListsHeader}
use Rattle.edf_mend.specs.declared.wanted.Wanted.{Wanted}
use Rattle.edf_mend.specs.declared.wanted.Who.TheVariants.{AsNamed, Given, Replaced, Hidden}

-- A fixed part has the patient's code of a recording; where that is none, it has the patient field
-- as it stands, and the codes.
pub record NamesRecording (first : List ℕ) (key : Key) : Type 0 where
  pub code : patient_code key ≡ code_of (patient_field first)
  pub nobody : IsNoCode (patient_code key) → (key.patient ≡ spaced (patient_field first))
      × HasCodes (recording_field first) (subfields key.after)

-- **Nobody becomes another**: a file that is read as a recording, with no code given, named it
-- before. So two files of one recording name one patient, or nobody in one way; and a good file has
-- the fields of its recording as they stand.
abbrev pub NobodyIsMerged : Type 0
NobodyIsMerged = (w : Wanted) (a : List ℕ) (key : Key) (rs : List DataRecord) (n : ℕ) →
    w.who ≡ AsNamed → (x : Mends w a key rs n) → NamesRecording x.first key

-- **A code that is given is the one that is read**.
abbrev pub GivenCodeIsRead : Type 0
GivenCodeIsRead = (w : Wanted) (code a : List ℕ) (key : Key) (rs : List DataRecord) (n : ℕ) →
    (w.who ≡ Given code) ⊎ ((w.who ≡ Replaced code) ⊎ (w.who ≡ Hidden code)) →
    Mends w a key rs n → patient_code key ≡ code

-- **Nobody is named for others**: where a code stands in place of all that a file says of its
-- patient, its own field has that code alone, and the recording field a date alone: its own, or
-- that of the startdate.
abbrev pub NobodyIsNamed : Type 0
NobodyIsNamed = (w : Wanted) (code a : List ℕ) (key : Key) (rs : List DataRecord) (n : ℕ) →
    w.who ≡ Hidden code → (x : Mends w a key rs n) → IsCodeAlone code key.patient
    × (text : List ℕ)
    × IsDateAlone (startdate_field x.header.strict) (recording_field x.first) text
    × ((recording_field x.header.strict ≡ fitted 80 text)
    ⊎ IsMarked text (recording_field x.header.strict))

-- **No annotations signal is read as samples**: one that has the label, but for zeros that fill it,
-- is one in the good form; and a label that speaks of annotations stands only beside such a signal.
abbrev pub AnnotationsAreNoSamples : Type 0
AnnotationsAreNoSamples = (w : Wanted) (a : List ℕ) (key : Key) (rs : List DataRecord) (n i : ℕ) →
    (x : Mends w a key rs n) → i < x.header.n →
    (spaced (label_field (row_at x.second x.header.n i)) ≡ codes "EDF Annotations " →
    IsLabelled (row_at x.header.strict_signals x.h.fixed.signal_count i))
    × (SpeaksOfAnnotations (label_field (row_at x.second x.header.n i)) → (j : ℕ)
    × (j < x.header.n)
    × (spaced (label_field (row_at x.second x.header.n j)) ≡ codes "EDF Annotations "))

-- A data record is read of its own bytes alone: its samples are those outside of its annotations
-- blocks, and its annotations those of the blocks, to the nanosecond and in UTF-8.
abbrev pub IsReadOf : Bool → Layout → List ℕ → DataRecord → Type 0
IsReadOf timed l piece r = (length piece ≡ record_size timed l) × (place : Place) × (nth : ℕ)
    × (changes : List FieldChange) × RecordReadsAs timed l place nth piece r changes

-- The first starts at this instant, and each other one as the one before ends.
abbrev pub StartInTurn : ℕ → ℕ → List DataRecord → Type 0
StartInTurn start duration [] = Unit {0}
StartInTurn start duration (r ∷ rs) =
    (r.start ≡ start) × StartInTurn (start + duration) duration rs

-- **Samples and annotations stay**: the bytes behind the header are whole data records, each of
-- which is read, and less than one more, which is left out. Where none says when it starts, there
-- is no gap between them.
abbrev pub DataRecordsStay : Type 0
DataRecordsStay = (w : Wanted) (a : List ℕ) (key : Key) (rs : List DataRecord) (n : ℕ) →
    (x : Mends w a key rs n) → let l = layout_of x.h in (pieces : List (List ℕ))
    × (tail : List ℕ) × (x.body ≡ flat_map (λ piece. piece) pieces ++ tail)
    × (n ≡ length tail) × (n < record_size x.timed l) × AllZip (IsReadOf x.timed l) pieces rs
    × (x.timed ≡ false → StartInTurn l.start (duration_of l.key.duration) rs)

-- A file has this startdate, also in another form where its recording field has that day; or a
-- person gave it.
abbrev pub HasStartdate : Option (List ℕ) → List ℕ → List ℕ → ℕ → Type 0
HasStartdate given recording date days = IsDateText date days
    ⊎ ((HasDay recording (pos days) × IsDateText (dotted date) days)
    ⊎ IsSomeAnd given (λ day. IsDateText day days))

-- A starttime may have other signs than dots.
abbrev pub HasStarttime : Option (List ℕ) → List ℕ → ℕ → Type 0
HasStarttime given time seconds = (AreParted time × IsTimeText (dotted time) seconds)
    ⊎ IsSomeAnd given (λ clock. IsTimeText clock seconds)

-- **A start stays**: a file starts when it says, or when a person says of one that does not.
abbrev pub StartStays : Type 0
StartStays = (w : Wanted) (a : List ℕ) (key : Key) (rs : List DataRecord) (n days seconds : ℕ) →
    (x : Mends w a key rs n) →
    HasStartdate w.startdate (recording_field x.first) (startdate_field x.first) days →
    HasStarttime w.starttime (starttime_field x.first) seconds →
    x.h.fixed.start ≡ (days * 86_400 + seconds) * 10 ^ 9

-- **What differs is told**: of two headers that go together, a list has each field that differs, of
-- the fixed part and of each signal, and the count where it is another.
abbrev pub IsListed : List FieldChange → ℕ → ℕ → ℕ → List ℕ → List ℕ → Type 0
IsListed changes place signal at old new = old ≢ new →
    Contains changes (record { place = place; signal = signal; at = at; old = old; new = new })

pub record ListsAll {w : Wanted} {a : List ℕ} {key : Key} {rs : List DataRecord} {n : ℕ}
    (x : Mends w a key rs n) (changes : List FieldChange) : Type 0 where
  pub fixed : (f : ℕ × ℕ) → Contains fixed_fields f →
      IsListed changes f.0 0 f.0 (field x.first f.0 f.1) (field x.header.strict f.0 f.1)
  pub signals : (i : ℕ) (f : ℕ × ℕ) → i < x.header.n → Contains fields f →
      IsListed changes f.0 (i + 1) (256 + x.header.n * f.0 + i * f.1)
      (field (row_at x.second x.header.n i) f.0 f.1)
      (field (row_at x.header.strict_signals x.h.fixed.signal_count i) f.0 f.1)
  pub count : IsListed changes 236 0 236 (count_field x.first) (fitted 8 (decimal (length rs)))

abbrev pub DifferencesAreListed : Type 0
DifferencesAreListed = (w : Wanted) (a : List ℕ) (key : Key) (rs : List DataRecord) (n : ℕ)
    (x : Mends w a key rs n) (changes : List FieldChange) → ListsHeader x.header changes →
    ListsAll x (changes ++ (x.records_are.changes ++ changes_of_count x.first (length rs)))
