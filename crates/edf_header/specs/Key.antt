-- A fragment belongs to a recording by its key: fields of its header, which have bytes.
use Rattle.std.specs.Prelude.{◌≡◌, ℕ, ◌*◌, ◌≤◌, ◌<◌, ◌==◌, Bool, false, List, ◌∷◌, ◌++◌, length}
use Rattle.std.specs.Prelude.{All, if◌then◌else◌, [], slice_index_or}
use Rattle.std.specs.List.{flat_map}
use Rattle.edf_time.specs.Civil.{two_digit_window}
use Rattle.edf_field.specs.Number.{IsDuration}
use Rattle.edf_field.specs.Text.{IsPrintable, IsPatient, FollowsStartdate, spaces, subfields}
use Rattle.edf_header.specs.Fields.{key_patient_field, key_mark, key_after_field}
use Rattle.edf_header.specs.Fields.{key_duration_field, key_signals_count, key_signals_part}
use Rattle.edf_header.specs.Signal.{rows, IsOrdinary, HasSamples, samples_in_all}
use Rattle.edf_header.specs.declared.limits.TheConstants.{MOST_BLOCK_BYTES, MOST_ORDINARY_SIGNALS}

-- A key has the patient field; that the Startdate subfield is a date, or not; what follows it, 59
-- bytes after a date and 69 after X; the duration field; the ordinary signals' headers.
pub record Key : Type 0 where
  pub patient : List ℕ
  pub dated : Bool
  pub after : List ℕ
  pub duration : List ℕ
  pub signals : List (List ℕ)

-- The parts have the sizes that they have in the bytes.
pub record IsSized (k : Key) : Type 0 where
  pub patient : length k.patient ≡ 80
  pub after : length k.after ≡ (if k.dated then 59 else 69)
  pub duration : length k.duration ≡ 8
  pub signals : All (λ s. length s ≡ 256) k.signals

-- The bytes are D, what follows and 10 more spaces; or X and what follows.
abbrev pub dated_bytes : Bool → List ℕ → List ℕ
dated_bytes dated after = if dated then 68 ∷ (after ++ spaces 10) else 88 ∷ after

-- The identity has these bytes: 158, and 256 for each signal.
abbrev pub key_bytes : Key → List ℕ
key_bytes k = k.patient ++ (dated_bytes k.dated k.after
    ++ (k.duration ++ flat_map (λ s. s) k.signals))

-- Such bytes have this key.
abbrev pub key_at : List ℕ → Key
key_at bytes = record {
  patient = key_patient_field bytes;
  dated = key_mark bytes == 68;
  after = key_after_field bytes (if key_mark bytes == 68 then 59 else 69);
  duration = key_duration_field bytes;
  signals = rows (key_signals_count bytes) (key_signals_part bytes);
}

-- The key is one that a header can have.
pub record IsKey (k : Key) : Type 0 where
  pub sized : IsSized k
  pub printable : All IsPrintable (key_bytes k)
  pub patient : IsPatient k.patient
  pub after : FollowsStartdate k.after
  pub duration : (nanos : ℕ) × IsDuration k.duration nanos
  pub signals_from : 1 ≤ length k.signals
  pub signals_to : length k.signals ≤ MOST_ORDINARY_SIGNALS
  pub signals : All IsOrdinary k.signals
  pub each_samples : All HasSamples k.signals
  pub size : 2 * samples_in_all k.signals ≤ MOST_BLOCK_BYTES

-- A file of the recording may start at this instant: only before 2085 where the Startdate subfield
-- is X, since two digits alone name the year then.
abbrev pub MayStartBy : Bool → ℕ → Type 0
MayStartBy dated start = dated ≡ false → start < two_digit_window

abbrev pub MayStart : Key → ℕ → Type 0
MayStart k start = MayStartBy k.dated start

-- The code of the patient, and that of the investigation, is the first subfield of its field.
abbrev pub patient_code : Key → List ℕ
patient_code k = slice_index_or (subfields k.patient) 0 []

abbrev pub investigation_code : Key → List ℕ
investigation_code k = slice_index_or (subfields k.after) 0 []
