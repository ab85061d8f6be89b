use Rattle.std.proofs.Common.{◌≡◌, ◌-◌, ◌^◌, List, map, vec_len}
use Rattle.sqlite.specs.Order.{Row}
use Rattle.sqlite.specs.State.{HasCleanDisk, IsUnchanged, Survives}
use Rattle.sqlite.specs.Held.{state}
use Rattle.sqlite.specs.Given.{HasGiven}
use Rattle.sqlite.specs.Values.{bound}
use Rattle.edf_tables.specs.Cells.{cells_of, first_three}
use Rattle.edf_tables.proofs.row.records_shown.Given as goal

-- the rows so far are the first that the query gives
abbrev pub invariant-rows : goal.invariant-rows
invariant-rows g l =
    let old = state g.S.Store l.fn.conn in
    let now = state g.S.Store l.rows.conn.now in
    (l.rows.conn.ghost_name ≡ l.initial.rows.conn.ghost_name) × Survives old now (λ _. ⊥)
    × (HasCleanDisk now → (given : List Row) × HasGiven g.S.Store l.sql (bound l.params)
    l.rows.conn.now given × (map cells_of l.found.items ≡ map first_three given)
    × IsUnchanged old now)

abbrev pub decreases-rows : goal.decreases-rows
decreases-rows g l = 2 ^ 64 - vec_len l.found
