-- The faults at which a reader of fragments stops: of the bytes, of a read, or of memory. `input`
-- has the bytes before a call and `rest` those that remain after it.
use Rattle.std.specs.Prelude.{◌≡◌, ℕ, ◌+◌, ◌*◌, ◌≤◌, ◌<◌, ◌⊎◌, List, [], ◌∷◌, ◌++◌, length, Option}
use Rattle.std.specs.Io.KnownBytes.{Consumes, IsAtEnd}
use Rattle.edf_header.specs.Header.{FixedPart, IsFixedHeader, Layout, least_records, most_records}
use Rattle.edf_header.specs.Fault.{HasSignals, SignalsFail, IsClean, IsHeaderFault}
use Rattle.edf_header.specs.Fault.{header_fault_number}
use Rattle.edf_header.specs.declared.fault.HeaderFault.{HeaderFault}
use Rattle.edf_header.specs.declared.fault.HeaderFault.TheVariants.{Cut, CutSignals}
use Rattle.edf_tal.specs.Block.{BlocksHaveFirstFault}
use Rattle.edf_tal.specs.declared.place.TalFault.{TalFault}
use Rattle.edf_fragment.specs.Fragment.{blocks}
use Rattle.edf_fragment.specs.declared.advance.Progress.{Progress}

-- Faults of the bytes: in the header, in a record, after the last record.

-- the bytes that were read have this header fault, and no more were read than shows it: for E1 to
-- E13 the 256 bytes of the fixed part, else at most the header; where the fault is that bytes are
-- missing, the input is at its end
pub record ReadsHeaderFault (input rest : Option (List ℕ)) (fault : HeaderFault) : Type 0 where
  pub bytes : List ℕ
  pub read : Consumes input rest bytes
  pub is_fault : IsHeaderFault bytes fault
  pub ended : (fault ≡ Cut) ⊎ (fault ≡ CutSignals) → IsAtEnd rest
  pub no_signals : header_fault_number fault < 14 → length bytes ≤ 256
  pub no_records : (n : ℕ) → HasSignals bytes n → length bytes ≤ 256 + 256 * n

-- the input ends inside a record, or before one that must come
pub record EndsInRecord (l : Layout) (from : Progress) (input rest : Option (List ℕ))
    (nth : ℕ) : Type 0 where
  pub bytes : List ℕ
  pub is_nth : nth ≡ from.given + 1
  pub may_come : from.given < most_records l.count
  pub read : Consumes input rest bytes
  pub there : (from.given < least_records l.count) ⊎ (0 < length bytes)
  pub cut : length bytes < l.record_bytes
  pub end : IsAtEnd rest

-- a record's bytes were read, and its blocks are refused
pub record RefusesRecord (l : Layout) (from : Progress) (input rest : Option (List ℕ)) (nth : ℕ)
    (fault : TalFault) : Type 0 where
  pub bytes : List ℕ
  pub is_nth : nth ≡ from.given + 1
  pub may_come : from.given < most_records l.count
  pub read : Consumes input rest bytes
  pub len : length bytes ≡ l.record_bytes
  pub refused : BlocksHaveFirstFault (blocks l bytes) l.start from.place fault

-- one byte was read after the last record that may come
pub record ReadsTrailingByte (l : Layout) (from : Progress)
    (input rest : Option (List ℕ)) : Type 0 where
  pub byte : ℕ
  pub all : from.given ≡ most_records l.count
  pub read : Consumes input rest (byte ∷ [])

-- Other faults: a read fails, or memory runs out.

-- fewer than n bytes were read
pub record ReadsFewerBytes (n : ℕ) (input rest : Option (List ℕ)) : Type 0 where
  pub bytes : List ℕ
  pub read : Consumes input rest bytes
  pub fewer : length bytes < n

-- a fixed part without a fault was read, and of its signals fewer bytes than they have
pub record StopsInSignalHeaders (input rest : Option (List ℕ)) : Type 0 where
  pub fixed : FixedPart
  pub first : List ℕ
  pub second : List ℕ
  pub read : Consumes input rest (first ++ second)
  pub is_fixed : IsFixedHeader first fixed
  pub fewer : length second < 256 * fixed.signal_count

-- a read failed before the next record's last byte; or, where no more may come, before any byte
abbrev pub ReadFailsAtRecord : Layout → Progress → Option (List ℕ) → Option (List ℕ) → Type 0
ReadFailsAtRecord l from input rest =
    ((from.given < most_records l.count) × ReadsFewerBytes l.record_bytes input rest)
    ⊎ ((from.given ≡ most_records l.count) × Consumes input rest [])

-- memory ran out after a fixed part without a fault: before a byte of its signals was read, or
-- after signals without a fault (E14 to E20)
pub record RunsOutOfMemoryInHeader (input rest : Option (List ℕ)) : Type 0 where
  pub fixed : FixedPart
  pub first : List ℕ
  pub second : List ℕ
  pub read : Consumes input rest (first ++ second)
  pub is_fixed : IsFixedHeader first fixed
  pub within : length second ≤ 256 * fixed.signal_count
  pub clean : (second ≡ []) ⊎ IsClean (SignalsFail second fixed.signal_count) 21
