-- A key has parts and bytes, and the fault of a check has its place in their order.
use Rattle.std.specs.Prelude.{◌≡◌, ℕ, ◌*◌, List, All}
use Rattle.edf_field.specs.Number.{IsDuration, duration_of}
use Rattle.edf_field.specs.Text.{IsPrintable, IsPatient, FollowsStartdate}
use Rattle.edf_header.specs.Fields.{key_patient_field, key_duration_field}
use Rattle.edf_header.specs.Key.{Key, IsKey, key_at, key_bytes}
use Rattle.edf_header.specs.Signal.{samples_in_all}
use Rattle.edf_header.specs.Fixed.{FixedPart, is_dated}
use Rattle.edf_header.specs.Identity.{HasLength, HasMark}
use Rattle.edf_header.specs.declared.signal_checks.Check.{Check}
use Rattle.edf_header.specs.declared.signal_checks.Check.TheVariants.{Label, Annotations, Physical}
use Rattle.edf_header.specs.declared.signal_checks.Check.TheVariants.{Digital, Samples}

-- A fixed part and ordinary signals have this key.
abbrev pub key_from : FixedPart → List (List ℕ) → Key
key_from f ss = record {
  patient = f.patient;
  dated = is_dated f.startdate;
  after = f.after;
  duration = f.duration;
  signals = ss;
}

-- An identity has its bytes, the duration of a data record in nanoseconds, and the bytes of a data
-- record's ordinary samples.
pub record IsIdentity (bytes : List ℕ) (duration ordinary_bytes : ℕ) : Type 0 where
  pub back : key_bytes (key_at bytes) ≡ bytes
  pub key : IsKey (key_at bytes)
  pub duration_is : duration ≡ duration_of (key_at bytes).duration
  pub ordinary_is : ordinary_bytes ≡ 2 * samples_in_all (key_at bytes).signals

-- The fault of a check has this place in the order of an identity's faults. An identity has no
-- annotations signals, and so no fault of that check.
abbrev pub check_order : Check → ℕ
check_order Annotations = 0
check_order Label = 6
check_order Physical = 7
check_order Digital = 8
check_order Samples = 9

-- The bytes before an identity's signals have no fault.
pub record IsKeyPrefix (b : List ℕ) : Type 0 where
  pub len : HasLength b
  pub printable : All IsPrintable b
  pub patient : IsPatient (key_patient_field b)
  pub mark : HasMark b
  pub after : FollowsStartdate (key_at b).after
  pub duration : (nanos : ℕ) × IsDuration (key_duration_field b) nanos
