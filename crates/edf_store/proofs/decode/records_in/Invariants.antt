use Rattle.std.proofs.Common.{◌≡◌, map, List, length}
use Rattle.std.specs.List.{AllByRecursion}
use Rattle.std.specs.Vec.Iter.{into_iter_items, into_iter_len}
use Rattle.edf_header.specs.Key.{Key, IsKey}
use Rattle.edf_fragment.specs.Fragment.{DataRecord}
use Rattle.edf_fragment.specs.Sound.{IsSoundRecord}
use Rattle.edf_tables.specs.Cells.{cells_of}
use Rattle.edf_rows.specs.Cells.{record_cells}
use Rattle.edf_store.proofs.Decoding.{IsPartRead}
use Rattle.edf_store.proofs.decode.records_in.Given as goal

abbrev pub invariant-loop-row : goal.invariant-loop-row
invariant-loop-row l = (into_iter_len l.row-iterator ≡ length (into_iter_items l.row-iterator))
    × ((k : Key) (ds : List DataRecord) → IsKey k → AllByRecursion (IsSoundRecord k) ds →
    map cells_of l.fn.rows.items ≡ map record_cells ds →
    IsPartRead (IsSoundRecord k) ds l.records.items (into_iter_items l.row-iterator))
