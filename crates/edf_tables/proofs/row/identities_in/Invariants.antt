use Rattle.std.proofs.Common.{◌≡◌, map, take}
use Rattle.sqlite.specs.declared.types.Value.TheVariants.{Blob}
use Rattle.sqlite_value.specs.Order.{column}
use Rattle.edf_tables.proofs.row.identities_in.Given as goal

abbrev pub invariant-loop-row : goal.invariant-loop-row
invariant-loop-row l = map (λ b. Blob b.items) l.found.items ≡ map (λ row. column row 0)
    (take l.row-index l.row-items)
