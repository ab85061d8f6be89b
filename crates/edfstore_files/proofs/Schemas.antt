-- The trees of a database tell its schema.
use Rattle.std.proofs.Common.{◌≡◌, ◌≢◌, List, [], ◌∷◌, map, subst, arith}
use Rattle.std.specs.List.{AllByRecursion, AllZip}
use Rattle.sqlite.specs.Order.{Row}
use Rattle.sqlite.specs.Tree.{Trees}
use Rattle.sqlite.specs.Schema.{Schema}
use Rattle.sqlite.specs.Table.{Table}
use Rattle.sqlite_schema.specs.declared.schema.Index.{Index}
use Rattle.sqlite_trees.specs.Objects.{catalog_tree}
use Rattle.sqlite_catalog.specs.Listing.{cut, Lists, IsSound, IsIndexRow}
use Rattle.sqlite_catalog.proofs.ReadLemmas.{read_once, reads}
use Rattle.sqlite.proofs.ListingLemmas.{empty_is_sound}
use Rattle.edf_tables.specs.Schema.{no_schema}
use Rattle.edf_tables.specs.Others.{KeepsTrees}

lists_once : (objects : List Row) (s t : Schema) → Lists objects s → Lists objects t → s ≡ t
lists_once objects s t p q = let r = reads objects s p in
    read_once (map cut objects) s t r.tables r.indexes r.views (reads objects t q)

pub schema_once : (trees : Trees) (s t : Schema) → IsSound s trees → IsSound t trees → s ≡ t
schema_once trees s t p q = lists_once (trees catalog_tree) s t p.lists q.lists

pub unlisted : (trees : Trees) (s : Schema) → trees catalog_tree ≡ [] → IsSound s trees →
    s ≡ no_schema
unlisted trees s none p = schema_once trees s no_schema p (empty_is_sound trees none)

no_index_there : (tables : List Table) (rows : List Row) (indexes : List Index) →
    AllZip (IsIndexRow tables) rows indexes → AllByRecursion (λ (i : Index). i.tree ≢ catalog_tree)
    indexes
no_index_there tables [] [] h = tt
no_index_there tables [] (i ∷ is) h = absurd h
no_index_there tables (r ∷ rs) [] h = tt
no_index_there tables (r ∷ rs) (i ∷ is) h = (
  (λ e. omega (arith, h.0.described.low, e)),
  no_index_there tables rs is h.1,
)

-- what keeps the list of tables keeps the schema
pub kept_schema : (schema s : Schema) (old new : Trees) → IsSound schema old →
    KeepsTrees schema old new → IsSound s new → s ≡ schema
kept_schema schema s old new sound keeps now =
    let same : new catalog_tree ≡ old catalog_tree = keeps catalog_tree (λ e. omega (arith, e))
    (λ e. omega (arith, e)) (no_index_there schema.tables _ schema.indexes
    sound.lists.listed.indexes) in
    lists_once (old catalog_tree) s schema (subst (λ (objects : List Row). Lists objects s) same
    now.lists) sound.lists
