-- A fault of a header is true by these conditions, where that takes more than a word of its fields.
use Rattle.std.specs.Prelude.{◌≡◌, ℕ, ◌+◌, ◌*◌, ◌≤◌, ◌<◌, ◌⊎◌, List, length, All, ℤ, Option, Some}
use Rattle.std.specs.Prelude.{None}
use Rattle.edf_time.specs.Civil.{IsDateText, IsYearlessText, AreStartdates, HasDateForm, IsTimeText}
use Rattle.edf_field.specs.Number.{IsDuration, IsNumber}
use Rattle.edf_field.specs.Text.{IsPrintable, IsRecording}
use Rattle.edf_header.specs.Fields.{recording_field, startdate_field, header_bytes_field}
use Rattle.edf_header.specs.Fields.{count_field, signals_field}
use Rattle.edf_header.specs.Signal.{labelled, ordinary, samples_in_all, IsAnnotationsSignal, Passes}
use Rattle.edf_header.specs.Signal.{IsFirstBad}
use Rattle.edf_header.specs.Fixed.{IsCount}
use Rattle.edf_header.specs.declared.limits.TheConstants.{MOST_BLOCK_BYTES, MOST_SIGNALS}
use Rattle.edf_header.specs.declared.signal_checks.Check.{Check}

abbrev pub HasCount : List ℕ → Type 0
HasCount b = (count : Option ℕ) × IsCount (count_field b) count

abbrev pub HasSignals : List ℕ → ℕ → Type 0
HasSignals b n = IsNumber (signals_field b) n × (2 ≤ n) × (n ≤ MOST_SIGNALS)

abbrev pub HasNoSignals : List ℕ → Type 0
HasNoSignals b = (n : ℕ) → ¬ HasSignals b n

-- There are n signals, and the number of header bytes is not 256 and 256 for each.
abbrev pub HasOtherHeaderBytes : List ℕ → Type 0
HasOtherHeaderBytes b = (n : ℕ) × HasSignals b n × ¬ IsNumber (header_bytes_field b) (256 + 256 * n)

-- The text is no time.
abbrev pub IsNoTime : List ℕ → Type 0
IsNoTime text = (seconds : ℕ) → ¬ IsTimeText text seconds

abbrev pub IsNoDuration : List ℕ → Type 0
IsNoDuration text = (nanos : ℕ) → ¬ IsDuration text nanos

-- The startdate is neither dd.mm.yy with two digits for the year nor one with the letters yy there.
abbrev pub IsNoStartdate : List ℕ → Type 0
IsNoStartdate date = ((days : ℕ) → ¬ IsDateText date days) × ¬ IsYearlessText date

-- The startdate has the letters yy, and the Startdate subfield is X.
abbrev pub HasNoYear : List ℕ → Type 0
HasNoYear b = IsYearlessText (startdate_field b)
    × ((after : List ℕ) × IsRecording (recording_field b) None after)

-- The Startdate subfield is a date, and not the startdate's: another day; or, with the letters yy,
-- another day or month, or a year outside 2085 to 2184.
pub record DatesAreOther (b : List ℕ) : Type 0 where
  pub day : ℤ
  pub after : List ℕ
  pub recording : IsRecording (recording_field b) (Some day) after
  pub form : HasDateForm (startdate_field b) (Some day)
  pub other : (days : ℕ) → ¬ AreStartdates (startdate_field b) (Some day) days

-- At least one signal has the label of annotations signals, each of these has what an annotations
-- signal must have, and at least one signal has not the label.
pub record HasAnnotations (signals : List (List ℕ)) : Type 0 where
  pub annotations_some : 1 ≤ length (labelled signals)
  pub annotations : All IsAnnotationsSignal (labelled signals)
  pub ordinary_some : 1 ≤ length (ordinary signals)

-- The signal, counted from 1, is the first that does not pass.
abbrev pub IsBadSignal : Check → List (List ℕ) → ℕ → Type 0
IsBadSignal check signals signal = (at : ℕ) × IsFirstBad (Passes check) signals at
    × (signal ≡ at + 1)

-- The ordinary signals, or the annotations signals, have too many bytes in a data record.
abbrev pub IsTooLarge : List (List ℕ) → Type 0
IsTooLarge signals =
    (MOST_BLOCK_BYTES < 2 * samples_in_all (ordinary signals))
    ⊎ (MOST_BLOCK_BYTES < 2 * samples_in_all (labelled signals))

-- The offset, counted from the file's first byte, is that of the first byte of the signal part that
-- is not printable.
abbrev pub HasBadByteAt : List ℕ → ℕ → Type 0
HasBadByteAt s offset = (at : ℕ) × IsFirstBad IsPrintable s at × (offset ≡ 256 + at)
