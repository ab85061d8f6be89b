-- A file begins with a header, which says this of the data records.
use Rattle.std.specs.Prelude.{◌≡◌, ℕ, ◌+◌, ◌*◌, ◌%◌, ◌^◌, ◌≤◌, List, [], ◌∷◌, ◌++◌, length, sum_by}
use Rattle.std.specs.Prelude.{All, Option, if◌then◌else◌}
use Rattle.edf_field.specs.Text.{IsPrintable}
use Rattle.edf_header.specs.Signal.{signals_of, has_label, labelled, ordinary, IsOrdinary}
use Rattle.edf_header.specs.Signal.{HasSamples, IsAnnotationsSignal, samples, samples_in_all}
use Rattle.edf_header.specs.Key.{Key, IsKey, MayStart}
use Rattle.edf_header.specs.declared.header.Block.{Block}
use Rattle.edf_header.specs.declared.limits.TheConstants.{MOST_BLOCK_BYTES, MOST_RECORD_BYTES}
use Rattle.edf_header.specs.Fixed.{is_dated, IsCountInRange}
-- Other crates cite these of the fixed part beside those of a header.
pub use Rattle.edf_header.specs.Fixed.{FixedPart, IsFixedHeader, IsCount, least_records}
pub use Rattle.edf_header.specs.Fixed.{most_records}

-- A header has a fixed part, and signals in file order, each a row.
pub record HeaderRecord : Type 0 where
  pub fixed : FixedPart
  pub signals : List (List ℕ)

-- The bytes, 256 a signal, are the header's signals, each field in its column; both kinds of
-- signals are there.
pub record AreSignals (bytes : List ℕ) (h : HeaderRecord) : Type 0 where
  pub len : length bytes ≡ 256 * h.fixed.signal_count
  pub printable : All IsPrintable bytes
  pub each : signals_of bytes h.fixed.signal_count ≡ h.signals
  pub annotations_some : 1 ≤ length (labelled h.signals)
  pub are_annotations : All IsAnnotationsSignal (labelled h.signals)
  pub ordinary_some : 1 ≤ length (ordinary h.signals)
  pub are_ordinary : All IsOrdinary (ordinary h.signals)
  pub each_samples : All HasSamples h.signals
  pub ordinary_size : 2 * samples_in_all (ordinary h.signals) ≤ MOST_BLOCK_BYTES
  pub block_size : 2 * samples_in_all (labelled h.signals) ≤ MOST_BLOCK_BYTES

-- The bytes begin with the header, and `rest` follows it.
pub record IsHeader (bytes : List ℕ) (h : HeaderRecord) (rest : List ℕ) : Type 0 where
  pub first : List ℕ
  pub second : List ℕ
  pub parts : bytes ≡ first ++ (second ++ rest)
  pub fixed : IsFixedHeader first h.fixed
  pub signals : AreSignals second h

-- The header names the recording of this key.
abbrev pub key_of : HeaderRecord → Key
key_of h = record {
  patient = h.fixed.patient;
  dated = is_dated h.fixed.startdate;
  after = h.fixed.after;
  duration = h.fixed.duration;
  signals = ordinary h.signals;
}

-- Signals have these annotations blocks, in file order, in a data record whose next byte is at
-- this offset.
abbrev pub blocks_from : ℕ → List (List ℕ) → List Block
blocks_from at [] = []
blocks_from at (row ∷ rows) =
    if has_label row then record {
      at = at;
      bytes =
          2 * samples row;
    } ∷ blocks_from (at + 2 * samples row) rows
    else blocks_from (at + 2 * samples row) rows

-- A header says of its data records whose they are, from where their onsets count in nanoseconds,
-- how many there are, or none where the count is -1; and in bytes where the annotations blocks are
-- in each, and how long the whole record is.
pub record Layout : Type 0 where
  pub key : Key
  pub start : ℕ
  pub count : Option ℕ
  pub blocks : List Block
  pub record_bytes : ℕ

-- The annotations blocks have this many bytes together.
abbrev pub block_bytes : Layout → ℕ
block_bytes l = sum_by (λ b. b.bytes) l.blocks

abbrev pub layout_of : HeaderRecord → Layout
layout_of h = record {
  key = key_of h;
  start = h.fixed.start;
  count = h.fixed.count;
  blocks = blocks_from 0 h.signals;
  record_bytes = 2 * samples_in_all h.signals;
}

-- The blocks lie one after another between two offsets.
abbrev pub AreApart : ℕ → List Block → ℕ → Type 0
AreApart from [] to = from ≤ to
AreApart from (b ∷ bs) to = (from ≤ b.at) × AreApart (b.at + b.bytes) bs to

-- The layout is one that a header has. Its start is one that the key's recording may have; there is
-- a block, each has a sample at least and lies in the record apart from the others, and the rest of
-- the record are the ordinary samples.
pub record IsLayout (l : Layout) : Type 0 where
  pub key : IsKey l.key
  pub may_start : MayStart l.key l.start
  pub whole_second : l.start % 10 ^ 9 ≡ 0
  pub count : IsCountInRange l.count
  pub blocks_some : 1 ≤ length l.blocks
  pub blocks_bytes : All (λ b. 2 ≤ b.bytes) l.blocks
  pub apart : AreApart 0 l.blocks l.record_bytes
  pub parts : l.record_bytes ≡ 2 * samples_in_all l.key.signals + block_bytes l
  pub ordinary_size : 2 * samples_in_all l.key.signals ≤ MOST_BLOCK_BYTES
  pub block_size : block_bytes l ≤ MOST_BLOCK_BYTES
  pub record_size : l.record_bytes ≤ MOST_RECORD_BYTES
