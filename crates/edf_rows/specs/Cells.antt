-- Data records and recordings have these cells in the rows of the two tables.
use Rattle.std.specs.Prelude.{ℤ, pos, List, [], ◌∷◌, map, filter}
use Rattle.sqlite_value.specs.declared.value.Value.TheVariants.{Int, Blob}
use Rattle.sqlite_value.specs.Order.{Row}
use Rattle.sqlite_trees.specs.Tree.{Trees}
use Rattle.sqlite_keyed.specs.Lists.{sort_by}
use Rattle.edf_tables.specs.Columns.{stored_recordings, stored_id, stored_identity, stored_records}
use Rattle.edf_tables.specs.Columns.{stored_start, stored_samples, stored_block, start_order, is_of}
use Rattle.edf_header.specs.Key.{Key, key_bytes}
use Rattle.edf_tal.specs.Canonical.{tals_text}
use Rattle.edf_fragment.specs.Fragment.{DataRecord}

-- a data record has a start, samples and a block without fill, with onsets from 1985-01-01 00:00:00
abbrev pub record_cells : DataRecord → Row
record_cells r = Int (pos r.start) ∷ Blob r.samples ∷ Blob (tals_text 0 r.start r.annotations) ∷ []

-- a recording has an id and the bytes of its key
abbrev pub recording_cells : ℤ → Key → Row
recording_cells id k = Int id ∷ Blob (key_bytes k) ∷ []

-- lists the ids and identities of all recordings
abbrev pub recordings_in : Trees → List Row
recordings_in trees = map (λ row. stored_id row ∷ stored_identity row ∷ [])
    (stored_recordings trees)

-- lists starts, samples and blocks of the recording with this id, by rising starts
abbrev pub records_in : Trees → ℤ → List Row
records_in trees id =
    map (λ row. stored_start row ∷ stored_samples row ∷ stored_block row ∷ [])
    (sort_by start_order (filter (is_of id) (stored_records trees)))
