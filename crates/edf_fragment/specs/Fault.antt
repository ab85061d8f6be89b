-- The first fault of a file, in the order of header, data records, end.
use Rattle.std.specs.Prelude.{◌≡◌, ℕ, ◌+◌, ◌≤◌, ◌<◌, ◌⊎◌, List, length, Option, Some, None, codes}
use Rattle.edf_header.specs.Header.{HeaderRecord, IsHeader, Layout, layout_of, least_records}
use Rattle.edf_header.specs.Header.{most_records}
use Rattle.edf_header.specs.Fault.{IsHeaderFault, header_fault_number, header_fault_name}
use Rattle.edf_header.specs.Fault.{header_fault_offset, header_fault_signal}
use Rattle.edf_tal.specs.Block.{BlocksHaveFirstFault}
use Rattle.edf_tal.specs.Block.{tal_fault_number, tal_fault_name, tal_fault_offset}
use Rattle.edf_tal.specs.declared.place.Place.{Place}
use Rattle.edf_tal.specs.declared.place.Place.TheVariants.{First}
use Rattle.edf_tal.specs.declared.place.TalFault.{TalFault}
use Rattle.edf_tal.specs.declared.place.TalFault.TheVariants as tal
use Rattle.edf_fragment.specs.Fragment.{DataRecord, BeginWithDataRecords, blocks}
use Rattle.edf_fragment.specs.declared.fault.FragmentFault.{FragmentFault}
use Rattle.edf_fragment.specs.declared.fault.FragmentFault.TheVariants.{Header as BadHeader}
use Rattle.edf_fragment.specs.declared.fault.FragmentFault.TheVariants.{CutRecord, Tal, Trailing}
use Rattle.edf_fragment.specs.declared.fault.FragmentFault.TheVariants.{Read, Memory, Failed}

-- a header, the data records before the fault, and the bytes that remain
pub record ParsedPrefix (bytes : List ℕ) : Type 0 where
  pub header : HeaderRecord
  pub rest : List ℕ
  pub records : List DataRecord
  pub next_place : Place
  pub remaining : List ℕ
  pub is_header : IsHeader bytes header rest
  pub are_records : BeginWithDataRecords (layout_of header) First rest records next_place remaining

abbrev pub layout : {bytes : List ℕ} → ParsedPrefix bytes → Layout
layout u = layout_of u.header

-- the number, from 1, of the record that is next
abbrev pub next_number : {bytes : List ℕ} → ParsedPrefix bytes → ℕ
next_number u = length u.records + 1

-- where a record may come, fewer bytes remain than it has: some; or none, and one must come (each
-- that the header counts, or the first where its count is -1)
pub record IsCutRecord (bytes : List ℕ) (nth : ℕ) : Type 0 where
  pub up_to : ParsedPrefix bytes
  pub is_nth : nth ≡ next_number up_to
  pub may_come : nth ≤ most_records (layout up_to).count
  pub there : (nth ≤ least_records (layout up_to).count) ⊎ (0 < length up_to.remaining)
  pub cut : length up_to.remaining < (layout up_to).record_bytes

-- the blocks of a record are refused
pub record IsRefusedRecord (bytes : List ℕ) (nth : ℕ) (fault : TalFault) : Type 0 where
  pub up_to : ParsedPrefix bytes
  pub is_nth : nth ≡ next_number up_to
  pub may_come : nth ≤ most_records (layout up_to).count
  pub whole : (layout up_to).record_bytes ≤ length up_to.remaining
  pub refused : BlocksHaveFirstFault (blocks (layout up_to) up_to.remaining)
      (layout up_to).start up_to.next_place fault

-- bytes follow the last record that may come
pub record HasTrailingBytes (bytes : List ℕ) : Type 0 where
  pub up_to : ParsedPrefix bytes
  pub all : length up_to.records ≡ most_records (layout up_to).count
  pub more : 0 < length up_to.remaining

-- the first fault of bytes that are no fragment's file; no record before a record's fault has one
abbrev pub IsFirstFault : List ℕ → FragmentFault → Type 0
IsFirstFault bytes (BadHeader fault) = IsHeaderFault bytes fault
IsFirstFault bytes (CutRecord nth) = IsCutRecord bytes nth
IsFirstFault bytes (Tal nth fault) = IsRefusedRecord bytes nth fault
IsFirstFault bytes Trailing = HasTrailingBytes bytes
IsFirstFault bytes fault = ⊥

abbrev pub fragment_fault_number : FragmentFault → ℕ
fragment_fault_number (BadHeader fault) = header_fault_number fault
fragment_fault_number (CutRecord nth) = 21
fragment_fault_number (Tal nth fault) = tal_fault_number fault
fragment_fault_number Trailing = 29
fragment_fault_number Read = 40
fragment_fault_number Memory = 41
fragment_fault_number Failed = 0

abbrev pub fragment_fault_name : FragmentFault → List ℕ
fragment_fault_name (BadHeader fault) = header_fault_name fault
fragment_fault_name (CutRecord nth) = codes "CutRecord"
fragment_fault_name (Tal nth fault) = tal_fault_name fault
fragment_fault_name Trailing = codes "Trailing"
fragment_fault_name Read = codes "Read"
fragment_fault_name Memory = codes "Memory"
fragment_fault_name Failed = codes "Failed"

-- the data record whose blocks have the fault; want of memory is no fault of them
abbrev pub record_of_tal_fault : ℕ → TalFault → Option ℕ
record_of_tal_fault nth tal.Memory = None
record_of_tal_fault nth fault = Some nth

-- the data record that the fault names, from 1
abbrev pub fragment_fault_record : FragmentFault → Option ℕ
fragment_fault_record (CutRecord nth) = Some nth
fragment_fault_record (Tal nth fault) = record_of_tal_fault nth fault
fragment_fault_record fault = None

-- the offset that it names, from 0: in the file, or in the data record's blocks joined
abbrev pub fragment_fault_offset : FragmentFault → Option ℕ
fragment_fault_offset (BadHeader fault) = header_fault_offset fault
fragment_fault_offset (Tal nth fault) = tal_fault_offset fault
fragment_fault_offset fault = None

-- the signal that it names, from 1
abbrev pub fragment_fault_signal : FragmentFault → Option ℕ
fragment_fault_signal (BadHeader fault) = header_fault_signal fault
fragment_fault_signal fault = None
