-- The steps of a reader: the two parts of a header, all data records, the end.
use Rattle.std.specs.Prelude.{◌≡◌, ℕ, ◌*◌, ◌≤◌, ◌⊎◌, List, [], ◌∷◌, length, Option}
use Rattle.std.specs.Io.KnownBytes.{Consumes, IsAtEnd}
use Rattle.edf_header.specs.Header.{HeaderRecord, FixedPart, IsFixedHeader, AreSignals, Layout}
use Rattle.edf_header.specs.Header.{layout_of, least_records, most_records}
use Rattle.edf_header.specs.Fault.{IsClean, IsFirst, SignalsFail}
use Rattle.edf_header.specs.declared.fault.HeaderFault.{HeaderFault}
use Rattle.edf_header.specs.declared.fault.HeaderFault.TheVariants.{CutSignals}
use Rattle.edf_tal.specs.declared.place.Place.{Place}
use Rattle.edf_tal.specs.declared.place.Place.TheVariants.{First}
use Rattle.edf_fragment.specs.Fragment.{DataRecord, BeginWithDataRecords}
use Rattle.edf_fragment.specs.Stops.{ReadsFewerBytes}
use Rattle.edf_fragment.specs.declared.fault.FragmentFault.{FragmentFault}
use Rattle.edf_fragment.specs.declared.fault.FragmentFault.TheVariants.{Header as BadHeader}
use Rattle.edf_fragment.specs.declared.fault.FragmentFault.TheVariants.{Trailing, Read, Memory}

-- the bytes that were read are a fixed part
pub record ReadsFixed (input rest : Option (List ℕ)) (fixed : FixedPart) : Type 0 where
  pub bytes : List ℕ
  pub read : Consumes input rest bytes
  pub is_fixed : IsFixedHeader bytes fixed

-- the bytes that were read are the signal headers after this fixed part
pub record ReadsSignalHeaders (input rest : Option (List ℕ)) (fixed : FixedPart)
    (layout : Layout) : Type 0 where
  pub bytes : List ℕ
  pub header : HeaderRecord
  pub read : Consumes input rest bytes
  pub are_signals : AreSignals bytes header
  pub same : header.fixed ≡ fixed
  pub layout_is : layout ≡ layout_of header

-- the bytes that were read have this fault as n signals; where they are too few, no more follow
pub record ReadsSignalHeadersFault (input rest : Option (List ℕ)) (n : ℕ)
    (fault : HeaderFault) : Type 0
  where
    pub bytes : List ℕ
    pub read : Consumes input rest bytes
    pub within : length bytes ≤ 256 * n
    pub is_fault : IsFirst (SignalsFail bytes n) fault
    pub ended : fault ≡ CutSignals → IsAtEnd rest

-- memory ran out before a byte of n signals was read, or after signals without a fault (E14 to E20)
pub record RunsOutOfMemoryInSignalHeaders (input rest : Option (List ℕ)) (n : ℕ) : Type 0 where
  pub bytes : List ℕ
  pub read : Consumes input rest bytes
  pub within : length bytes ≤ 256 * n
  pub clean : (bytes ≡ []) ⊎ IsClean (SignalsFail bytes n) 21

-- there are no signal headers, for a fault of the bytes, a failed read, or want of memory
abbrev pub IsSignalHeadersFault : Option (List ℕ) → Option (List ℕ) → ℕ → FragmentFault → Type 0
IsSignalHeadersFault input rest n (BadHeader fault) = ReadsSignalHeadersFault input rest n fault
IsSignalHeadersFault input rest n Read = ReadsFewerBytes (256 * n) input rest
IsSignalHeadersFault input rest n Memory = RunsOutOfMemoryInSignalHeaders input rest n
IsSignalHeadersFault input rest n fault = ⊥

-- nothing was read, and the input is at its end
abbrev pub ReadsEnd : Option (List ℕ) → Option (List ℕ) → Type 0
ReadsEnd input rest = Consumes input rest [] × IsAtEnd rest

-- the input was not found to end: a byte was read, or a read failed
abbrev pub IsEndFault : Option (List ℕ) → Option (List ℕ) → FragmentFault → Type 0
IsEndFault input rest Trailing = (byte : ℕ) × Consumes input rest (byte ∷ [])
IsEndFault input rest Read = Consumes input rest []
IsEndFault input rest fault = ⊥

-- all data records were read, and the input is at its end
pub record ReadsRecords (l : Layout) (input rest : Option (List ℕ))
    (records : List DataRecord) : Type 0 where
  pub bytes : List ℕ
  pub next_place : Place
  pub read : Consumes input rest bytes
  pub end : IsAtEnd rest
  pub are_records : BeginWithDataRecords l First bytes records next_place []
  pub least : least_records l.count ≤ length records
  pub most : length records ≤ most_records l.count
