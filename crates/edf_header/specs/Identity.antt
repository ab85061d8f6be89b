-- Bytes are no identity by their first fault. Each fault has a condition and a place in the order.
use Rattle.std.specs.Prelude.{◌≡◌, ℕ, ◌+◌, ◌*◌, ◌≤◌, ◌<◌, ◌⊎◌, List, length}
use Rattle.edf_field.specs.Number.{IsDuration, AreSpaces}
use Rattle.edf_field.specs.Text.{IsPrintable, IsPatient, FollowsStartdate, spaces}
use Rattle.edf_header.specs.Fields.{key_patient_field, key_mark, key_fill_field, key_duration_field}
use Rattle.edf_header.specs.Fields.{key_size_before_signals, key_signals_count, key_signals_part}
use Rattle.edf_header.specs.Signal.{rows, samples_in_all, IsFirstBad}
use Rattle.edf_header.specs.Key.{key_at}
use Rattle.edf_header.specs.Condition.{IsBadSignal}
use Rattle.edf_header.specs.declared.limits.TheConstants.{MOST_BLOCK_BYTES, MOST_ORDINARY_SIGNALS}
use Rattle.edf_header.specs.declared.signal_checks.Check.TheVariants as checks
use Rattle.edf_header.specs.declared.identity.IdentityFault.{IdentityFault}
use Rattle.edf_header.specs.declared.identity.IdentityFault.TheVariants.{Length, Unprintable}
use Rattle.edf_header.specs.declared.identity.IdentityFault.TheVariants.{Patient, Recording}
use Rattle.edf_header.specs.declared.identity.IdentityFault.TheVariants.{Duration, Label, Physical}
use Rattle.edf_header.specs.declared.identity.IdentityFault.TheVariants.{Digital, Samples, Size}
use Rattle.edf_header.specs.declared.identity.IdentityFault.TheVariants.{Memory}

-- There are 158 bytes, and 256 for each of 1 to 639 signals.
abbrev pub HasLength : List ℕ → Type 0
HasLength b = (n : ℕ) × (1 ≤ n) × (n ≤ MOST_ORDINARY_SIGNALS)
    × (length b ≡ key_size_before_signals + 256 * n)

-- The mark is D, with 10 spaces at the end of its part, or X.
abbrev pub HasMark : List ℕ → Type 0
HasMark b = ((key_mark b ≡ 68) × AreSpaces (key_fill_field b)) ⊎ (key_mark b ≡ 88)

-- Byte 80 is D, with 10 spaces at the end of its part, or X.
pub record IsShaped (bytes : List ℕ) : Type 0 where
  pub signals : ℕ
  pub len : length bytes ≡ key_size_before_signals + 256 * signals
  pub dated : ((key_mark bytes ≡ 68) × (key_fill_field bytes ≡ spaces 10)) ⊎ (key_mark bytes ≡ 88)

-- An identity's bytes have these signals.
abbrev pub signals_at : List ℕ → List (List ℕ)
signals_at b = rows (key_signals_count b) (key_signals_part b)

-- The fault is true of the bytes.
abbrev pub KeyFails : List ℕ → IdentityFault → Type 0
KeyFails b Length = ¬ HasLength b
KeyFails b (Unprintable offset) = IsFirstBad IsPrintable b offset
KeyFails b Patient = ¬ IsPatient (key_patient_field b)
KeyFails b Recording = ¬ (HasMark b × FollowsStartdate (key_at b).after)
KeyFails b Duration = (nanos : ℕ) → ¬ IsDuration (key_duration_field b) nanos
KeyFails b (Label signal) = IsBadSignal checks.Label (signals_at b) signal
KeyFails b (Physical signal) = IsBadSignal checks.Physical (signals_at b) signal
KeyFails b (Digital signal) = IsBadSignal checks.Digital (signals_at b) signal
KeyFails b (Samples signal) = IsBadSignal checks.Samples (signals_at b) signal
KeyFails b Size = MOST_BLOCK_BYTES < 2 * samples_in_all (signals_at b)
KeyFails b Memory = Unit {0}

-- The faults have this order; `Memory` comes last, so it says that no other is true.
abbrev pub identity_fault_order : IdentityFault → ℕ
identity_fault_order Length = 1
identity_fault_order (Unprintable offset) = 2
identity_fault_order Patient = 3
identity_fault_order Recording = 4
identity_fault_order Duration = 5
identity_fault_order (Label signal) = 6
identity_fault_order (Physical signal) = 7
identity_fault_order (Digital signal) = 8
identity_fault_order (Samples signal) = 9
identity_fault_order Size = 10
identity_fault_order Memory = 11

-- No fault that comes before n is true.
abbrev pub IsCleanKey : List ℕ → ℕ → Type 0
IsCleanKey b n = (other : IdentityFault) → identity_fault_order other < n → ¬ KeyFails b other

-- The fault is true, and none before it.
abbrev pub IsFirstKeyFault : List ℕ → IdentityFault → Type 0
IsFirstKeyFault b fault = KeyFails b fault × IsCleanKey b (identity_fault_order fault)
