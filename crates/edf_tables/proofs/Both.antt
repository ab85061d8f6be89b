-- Both tables, by the lists of a schema.
use Rattle.std.proofs.Common.{◌≡◌, List, ◌∷◌, All, drop, sym, subst}
use Rattle.sqlite_schema.specs.declared.schema.Table.{Table}
use Rattle.sqlite_schema.specs.declared.schema.Index.{Index}
use Rattle.sqlite_schema.specs.declared.schema.Schema.{Schema}
use Rattle.edf_tables.specs.Schema.{recording, records, identity_index, start_index, IsOtherTree}
use Rattle.edf_tables.specs.Schema.{IsOtherIndex, IsOtherView, HasBoth}

abbrev pub BeginTables : List Table → Type 0
BeginTables tables = (tables ≡ recording ∷ records ∷ drop 2 tables)
    × All (λ (t : Table). IsOtherTree t.tree) (drop 2 tables)

abbrev pub BeginIndexes : List Index → Type 0
BeginIndexes indexes = (indexes ≡ identity_index ∷ start_index ∷ drop 2 indexes)
    × All IsOtherIndex (drop 2 indexes)

pub both_of : (s : Schema) → BeginTables s.tables → BeginIndexes s.indexes →
    All IsOtherView s.views → HasBoth s
both_of s tables indexes views = record {
  others = record { tables = drop 2 s.tables; indexes = drop 2 s.indexes; views = s.views };
  is = λ i. record { tables = tables.0 i; indexes = indexes.0 i; views = s.views };
  tables = tables.1;
  indexes = indexes.1;
  views = views;
}

pub views_of : (s : Schema) → HasBoth s → All IsOtherView s.views
views_of s h = subst (λ (s : Schema). All IsOtherView s.views) (sym h.is) h.views
