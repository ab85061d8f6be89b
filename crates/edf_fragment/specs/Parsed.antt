-- Bytes parse to a fragment, or to their first fault.
use Rattle.std.specs.Prelude.{ℕ, List}
use Rattle.edf_header.specs.Key.{Key}
use Rattle.edf_fragment.specs.Fragment.{DataRecord, IsFragmentFile}
use Rattle.edf_fragment.specs.Fault.{IsFirstFault}
use Rattle.edf_fragment.specs.declared.fault.FragmentFault.{FragmentFault}

-- a key with its data records, or the first fault
pub data Parsed : Type 0 where
  Fragment : Key → List DataRecord → Parsed
  Fault : FragmentFault → Parsed

-- the bytes parse to this; by laws each list of bytes parses to exactly one value
abbrev pub ParsesTo : List ℕ → Parsed → Type 0
ParsesTo bytes (Fragment key records) = IsFragmentFile bytes key records
ParsesTo bytes (Fault fault) = IsFirstFault bytes fault
