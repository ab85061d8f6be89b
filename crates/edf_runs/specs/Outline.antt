-- An outline has all of a file but its samples.
use Rattle.std.specs.Prelude.{◌≡◌, ◌≢◌, ℕ, ◌+◌, ◌*◌, ◌≤◌, List, length, map, Option, Some}
use Rattle.edf_header.specs.Header.{Layout}
use Rattle.edf_header.specs.Key.{Key}
use Rattle.edf_header.specs.declared.limits.TheConstants.{MOST_RECORDS}
use Rattle.edf_fragment.specs.Fragment.{DataRecord}
use Rattle.edf_fragment.specs.Reading.{ReadsHeader}
use Rattle.edf_fragment.specs.Sound.{AreSoundFrom, FirstMayStart}
use Rattle.edf_fragment.specs.Whole.{ReadsFragment}
use Rattle.edf_runs.specs.ByOnset.{annotations_of}
use Rattle.edf_runs.specs.declared.outline.Outline.{Outline}
use Rattle.edf_runs.specs.declared.outline.Spans.{Spans}

-- The data records have these starts, so many annotations each, and these annotations.
pub record AreSpans (records : List DataRecord) (spans : Spans) : Type 0 where
  pub starts : spans.starts.items ≡ map (λ r. r.start) records
  pub counts : spans.counts.items ≡ map (λ r. length r.annotations) records
  pub notes : spans.notes.items ≡ annotations_of records

-- The outline is of these data records of a recording, which a file can have.
pub record IsOutline (k : Key) (records : List DataRecord) (outline : Outline) : Type 0 where
  pub sound : AreSoundFrom k 0 records
  pub some : 1 ≤ length records
  pub few : length records ≤ MOST_RECORDS
  pub begins : FirstMayStart k records
  pub identity : outline.identity ≡ k
  pub spans : AreSpans records outline.spans

-- The whole input was read, and the outline is of what it spells.
pub record ReadsOutline (left rest : Option (List ℕ)) (outline : Outline) : Type 0 where
  pub layout : Layout
  pub records : List DataRecord
  pub read : ReadsFragment left rest layout records
  pub is_outline : IsOutline layout.key records outline

-- A file of this header has so many bytes, with as many data records: 256 bytes, 256 for each
-- signal, and the data records.
abbrev pub file_bytes : Layout → ℕ → ℕ
file_bytes l count =
    256 * (1 + (length l.key.signals + length l.blocks)) + count * l.record_bytes

-- The header was read, and it counts other data records than an input of these bytes has.
pub record IsMiscounted (bytes : Option ℕ) (input remaining : Option (List ℕ)) : Type 0 where
  pub layout : Layout
  pub read : ReadsHeader input remaining layout
  pub size : ℕ
  pub is_known : bytes ≡ Some size
  pub count : ℕ
  pub is_counted : layout.count ≡ Some count
  pub differs : size ≢ file_bytes layout count
