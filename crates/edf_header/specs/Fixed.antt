-- The fixed part of a header is 256 bytes, which say this.
use Rattle.std.specs.Prelude.{◌≡◌, ℕ, ◌+◌, ◌*◌, ◌%◌, ◌^◌, ◌≤◌, ◌<◌, ◌⊎◌, Bool, true, false, List}
use Rattle.std.specs.Prelude.{length, take, All, codes, ℤ, Option, Some, None, if◌then◌else◌}
use Rattle.edf_time.specs.Civil.{IsCivil, window}
use Rattle.edf_field.specs.Number.{IsNumber, IsDuration}
use Rattle.edf_field.specs.Text.{IsPrintable, IsPatient, FollowsStartdate, IsRecording}
use Rattle.edf_field.specs.Text.{after_startdate_of}
use Rattle.edf_header.specs.Fields.{version_field, patient_field, recording_field, startdate_field}
use Rattle.edf_header.specs.Fields.{starttime_field, header_bytes_field, reserved_field}
use Rattle.edf_header.specs.Fields.{count_field, duration_field, signals_field}
use Rattle.edf_header.specs.Key.{MayStartBy}
use Rattle.edf_header.specs.declared.limits.TheConstants.{MOST_RECORDS, MOST_SIGNALS}

-- The fixed part has the patient field; the Startdate subfield's day, or none for X, and what
-- follows it; the start in nanoseconds; the number of data records, or none where the count is -1;
-- the duration field; the number of signals.
pub record FixedPart : Type 0 where
  pub patient : List ℕ
  pub startdate : Option ℤ
  pub after : List ℕ
  pub start : ℕ
  pub count : Option ℕ
  pub duration : List ℕ
  pub signal_count : ℕ

abbrev pub is_dated : Option ℤ → Bool
is_dated None = false
is_dated (Some day) = true

-- The fixed part has this patient field, recording field and the rest.
abbrev pub fixed_from : List ℕ → List ℕ → Option ℤ → ℕ → Option ℕ → List ℕ → ℕ → FixedPart
fixed_from patient recording startdate start count duration signals = record {
  patient = patient;
  startdate = startdate;
  after = after_startdate_of startdate recording;
  start = start;
  count = count;
  duration = duration;
  signal_count = signals;
}

-- The fixed part has the fields in these 256 bytes.
abbrev pub fixed_at : List ℕ → Option ℤ → ℕ → Option ℕ → ℕ → FixedPart
fixed_at bytes startdate start count signals =
    fixed_from (patient_field bytes) (recording_field bytes) startdate start count
    (duration_field bytes) signals

-- The field of the count is a whole number from 1 on; or it is -1 and six spaces, and then the file
-- has as many data records as follow.
abbrev pub IsCount : List ℕ → Option ℕ → Type 0
IsCount field None = field ≡ codes "-1      "
IsCount field (Some n) = IsNumber field n × (1 ≤ n)

-- A file of that count has at least so many data records, and at most `most_records`.
abbrev pub least_records : Option ℕ → ℕ
least_records None = 1
least_records (Some n) = n

abbrev pub most_records : Option ℕ → ℕ
most_records None = MOST_RECORDS
most_records (Some n) = n

-- The count is 1 to 99,999,999, or none.
abbrev pub IsCountInRange : Option ℕ → Type 0
IsCountInRange count = (1 ≤ least_records count) × (most_records count ≤ MOST_RECORDS)

-- The fixed part is one that a header can have.
pub record IsFixed (f : FixedPart) : Type 0 where
  pub patient_len : length f.patient ≡ 80
  pub patient_printable : All IsPrintable f.patient
  pub is_patient : IsPatient f.patient
  pub after_len : length f.after ≡ (if is_dated f.startdate then 59 else 69)
  pub after_printable : All IsPrintable f.after
  pub is_after : FollowsStartdate f.after
  pub in_window : f.start < window
  pub may_start : MayStartBy (is_dated f.startdate) f.start
  pub whole_second : f.start % 10 ^ 9 ≡ 0
  pub count : IsCountInRange f.count
  pub duration_len : length f.duration ≡ 8
  pub duration_printable : All IsPrintable f.duration
  pub is_duration : (nanos : ℕ) × IsDuration f.duration nanos
  pub signals_from : 2 ≤ f.signal_count
  pub signals_to : f.signal_count ≤ MOST_SIGNALS

abbrev pub IsPlus : List ℕ → Type 0
IsPlus reserved = (take 5 reserved ≡ codes "EDF+C") ⊎ (take 5 reserved ≡ codes "EDF+D")

-- The 256 bytes are the fixed part, each field at its offset.
pub record IsFixedHeader (bytes : List ℕ) (h : FixedPart) : Type 0 where
  pub len : length bytes ≡ 256
  pub printable : All IsPrintable bytes
  pub version : version_field bytes ≡ codes "0       "
  pub patient : h.patient ≡ patient_field bytes
  pub is_patient : IsPatient h.patient
  pub recording : IsRecording (recording_field bytes) h.startdate h.after
  pub start : IsCivil (startdate_field bytes) (starttime_field bytes) h.startdate h.start
  pub header_bytes : IsNumber (header_bytes_field bytes) (256 + 256 * h.signal_count)
  pub reserved : IsPlus (reserved_field bytes)
  pub count : IsCount (count_field bytes) h.count
  pub duration : h.duration ≡ duration_field bytes
  pub is_duration : (nanos : ℕ) × IsDuration h.duration nanos
  pub signals : IsNumber (signals_field bytes) h.signal_count
  pub signals_from : 2 ≤ h.signal_count
  pub signals_to : h.signal_count ≤ MOST_SIGNALS
