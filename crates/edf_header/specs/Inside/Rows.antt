-- The rows of a header's signals have faults, or the bytes of either kind of signals.
use Rattle.std.specs.Prelude.{◌≡◌, ℕ, ◌*◌, ◌≤◌, List, All}
use Rattle.edf_header.specs.Signal.{Passes, labelled, ordinary, samples_in_all}
use Rattle.edf_header.specs.Header.{HeaderRecord}
use Rattle.edf_header.specs.Fixed.{FixedPart}
use Rattle.edf_header.specs.Condition.{HasAnnotations, IsBadSignal, IsTooLarge}
use Rattle.edf_header.specs.declared.limits.TheConstants.{MOST_BLOCK_BYTES}
use Rattle.edf_header.specs.declared.signal_checks.Check.TheVariants as checks
use Rattle.edf_header.specs.declared.header_signals.PartBytes.{PartBytes}
use Rattle.edf_header.specs.declared.fault.HeaderFault.{HeaderFault}
use Rattle.edf_header.specs.declared.fault.HeaderFault.TheVariants.{Annotations, Physical, Digital}
use Rattle.edf_header.specs.declared.fault.HeaderFault.TheVariants.{Samples, Size}

-- The fault, E16 to E20, is true of the rows.
abbrev pub RowsFail : List (List ℕ) → HeaderFault → Type 0
RowsFail ss Annotations = ¬ HasAnnotations ss
RowsFail ss (Physical signal) = IsBadSignal checks.Physical ss signal
RowsFail ss (Digital signal) = IsBadSignal checks.Digital ss signal
RowsFail ss (Samples signal) = IsBadSignal checks.Samples ss signal
RowsFail ss Size = IsTooLarge ss
RowsFail ss _ = ⊥

-- The rows have none of the faults.
pub record AreSoundRows (ss : List (List ℕ)) : Type 0 where
  pub annotations : HasAnnotations ss
  pub physical : All (Passes checks.Physical) ss
  pub digital : All (Passes checks.Digital) ss
  pub each_samples : All (Passes checks.Samples) ss
  pub ordinary_size : 2 * samples_in_all (ordinary ss) ≤ MOST_BLOCK_BYTES
  pub block_size : 2 * samples_in_all (labelled ss) ≤ MOST_BLOCK_BYTES

-- The parts are the bytes that the signals of either kind have in a data record.
pub record ArePartBytes (ss : List (List ℕ)) (parts : PartBytes) : Type 0 where
  pub ordinary : parts.ordinary ≡ 2 * samples_in_all (ordinary ss)
  pub annotations : parts.annotations ≡ 2 * samples_in_all (labelled ss)

-- The header has this fixed part and these rows.
abbrev pub header_of : FixedPart → List (List ℕ) → HeaderRecord
header_of fixed ss = record { fixed = fixed; signals = ss }
