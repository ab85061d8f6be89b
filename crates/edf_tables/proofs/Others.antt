-- A row more in one of our tables leaves the other tables as they were.
use Rattle.std.proofs.Common.{◌≡◌, ◌≢◌, ℕ, ◌&&◌, ◌==◌, Bool, true, false, List, [], ◌∷◌, map, drop}
use Rattle.std.proofs.Common.{filter_map, flat_map, Option, Some, None, refl, sym, ap, subst, ◌∙◌}
use Rattle.std.proofs.lemmas.List.Elements.{recursion_from_All}
use Rattle.std.specs.List.{AllByRecursion}
use Rattle.sqlite.specs.Order.{Row}
use Rattle.sqlite.specs.Tree.{Trees}
use Rattle.sqlite.specs.Schema.{Schema}
use Rattle.sqlite.specs.Effect.{Database}
use Rattle.sqlite_schema.specs.declared.schema.Table.{Table}
use Rattle.sqlite_schema.specs.declared.schema.Reference.{Reference}
use Rattle.sqlite_schema.specs.declared.schema.Keys.{Keys}
use Rattle.sqlite_schema.specs.Rules.{ParentKey}
use Rattle.sqlite_rules.specs.declared.action.Deed.{Deed}
use Rattle.sqlite_rules.specs.Action.{work_by, work_for, works}
use Rattle.edf_tables.specs.Schema.{schema_with, IsOtherTree, HasBoth}
use Rattle.sqlite_rules.specs.Edit.{IsNoIndex}
use Rattle.edf_tables.specs.Others.{KeepsTrees, KeepsOthers}

-- ---- where no row goes, no reference acts

and_false : (b : Bool) → (b && false) ≡ false
and_false true = refl
and_false false = refl

no_work : (depth tree : ℕ) (child : Table) (ref : Reference) (deed : Option Deed)
    (key : Option ParentKey) → work_by depth tree [] child ref deed key ≡ None
no_work depth tree child ref None key = refl
no_work depth tree child ref (Some deed) None = refl
no_work depth tree child ref (Some deed) (Some key) = rw (and_false (key.0 == tree)) refl

none_mapped : {X Y : Type 0} (f : X → Option Y) (xs : List X) → ((x : X) → f x ≡ None) →
    filter_map f xs ≡ []
none_mapped f [] none = refl
none_mapped f (x ∷ xs) none = rw (none x) (none_mapped f xs none)

none_flat : {X Y : Type 0} (f : X → List Y) (xs : List X) → ((x : X) → f x ≡ []) →
    flat_map f xs ≡ []
none_flat f [] none = refl
none_flat f (x ∷ xs) none = rw (none x) (none_flat f xs none)

pub no_works : (schema : Schema) (keys : Keys) (depth tree : ℕ) (news : List Row) →
    works schema keys depth tree [] news ≡ []
no_works schema keys depth tree news =
    none_flat _ schema.tables (λ child. none_mapped (work_for schema keys depth tree [] news child)
    child.references (λ ref. no_work depth tree child ref _ _))

-- ---- the rows of the other tables

rows_same : (tree : ℕ) (tables : List Table) (old new : Trees) →
    ((t : ℕ) → IsOtherTree t → t ≢ tree) →
    AllByRecursion (λ (t : Table). IsOtherTree t.tree) tables →
    AllByRecursion (λ (t : Table). t.tree ≢ tree → new t.tree ≡ old t.tree) tables
    → map (λ (t : Table). new t.tree) tables ≡ map (λ (t : Table). old t.tree) tables
rows_same tree [] old new apart others kept = refl
rows_same tree (t ∷ more) old new apart others kept =
    λ i. kept.0 (apart t.tree others.0) i ∷ rows_same tree more old new apart others.1 kept.1 i

pub others_kept : (tree : ℕ) (old new : Database) (has : HasBoth old.schema) →
    ((t : ℕ) → IsOtherTree t → t ≢ tree) → new.schema ≡ schema_with has.others →
    AllByRecursion (λ (t : Table). t.tree ≢ tree → new.trees t.tree ≡ old.trees t.tree)
    has.others.tables
    → KeepsTrees (schema_with has.others) old.trees new.trees → KeepsOthers old new
others_kept tree old new has apart is kept trees = record {
  schema = is ∙ sym has.is;
  rows = ap (λ (s : Schema). map (λ (t : Table). new.trees t.tree) (drop 2 s.tables)) is
      ∙ rows_same tree has.others.tables old.trees new.trees apart
      (recursion_from_All _ _ has.tables) kept
      ∙ sym (ap (λ (s : Schema). map (λ (t : Table). old.trees t.tree) (drop 2 s.tables)) has.is);
  trees = subst (λ (s : Schema). KeepsTrees s old.trees new.trees) (sym has.is) trees;
}

pub others_same : (db : Database) → KeepsOthers db db
others_same db = record { schema = refl; rows = refl; trees = λ tree a b none. refl }

pub others_then : (a b c : Database) → KeepsOthers a b → KeepsOthers b c → KeepsOthers a c
others_then a b c p q = record {
  schema = q.schema ∙ p.schema;
  rows = q.rows ∙ p.rows;
  trees = λ tree one two none. q.trees tree one two
      (subst (λ (s : Schema). IsNoIndex s tree) (sym p.schema) none) ∙ p.trees tree one two none;
}
