-- What a database holds is what the files hold, what the store that is opened over it holds, and
-- what a crash leaves.
use Rattle.std.proofs.Common.{◌≡◌, ◌≢◌, ◌≤◌, inl, inr, ℕ, List, [], ◌∷◌, refl, sym, subst}
use Rattle.std.proofs.Common.{◌∙◌, arith}
use Rattle.std.proofs.Math.Logic.{∥∥₁_elim}
use Rattle.sqlite_trees.specs.declared.store.Store.{Ghosts}
use Rattle.sqlite_trees.specs.Props.{Trees-set}
use Rattle.sqlite_wal.specs.Recovery.{Image}
use Rattle.sqlite.specs.Tree.{Trees}
use Rattle.sqlite.specs.Schema.{Schema}
use Rattle.sqlite.specs.Effect.{Database, IsDatabase}
use Rattle.sqlite.specs.State.{State}
use Rattle.sqlite.specs.Held.{Held, state}
use Rattle.sqlite.specs.Start.{FindsIn}
use Rattle.sqlite.specs.Order.{Row}
use Rattle.edf_tables.specs.Columns.{stored_recordings}
use Rattle.edf_tables.specs.Schema.{no_schema, one_schema, both_schema, HasBoth}
use Rattle.edf_tables.specs.Made.{HasTables, from_none, from_one, from_both, IsMadeOf}
use Rattle.edf_tables.specs.Made.{crash_after_first, crash_after_both, crash_after_second}
use Rattle.edf_tables.specs.Others.{KeepsTrees}
use Rattle.edf_tables.proofs.Schemas.{none_not_one, none_not_both, one_not_both, made_both}
use Rattle.edf_holdings.specs.Holdings.{Holdings, nothing_held}
use Rattle.edf_rows.specs.File.{IsForeignFile, other_schema, foreign_rows, only_recordings}
use Rattle.edf_rows.specs.Rows.{RepresentCommitted}
use Rattle.edf_rows.proofs.Rows.{one-holdings, not-foreign}
use Rattle.edf_store.specs.Held.{StoreModel, at, Holds}
use Rattle.edf_store.specs.Open.{IsOpened}
use Rattle.edfstore_files.specs.Files.{DatabaseHolds, no_table, one_table, both_tables, TreesHold}
use Rattle.edfstore_files.specs.Files.{FilesHold, AreReadAs}
use Rattle.edfstore_files.proofs.Schemas.{schema_once, unlisted, kept_schema}
use Rattle.edfstore_files.proofs.Nothing.{nothing_found, nothing_kept}

pub nothing_of : (cap : ℕ) (db : Database) (h : Holdings) → DatabaseHolds cap db h →
    db.schema ≡ no_schema → h ≡ nothing_held
nothing_of cap db h (no_table is none) now = none
nothing_of cap db h (one_table is empty none) now = none
nothing_of cap db h (both_tables both kept) now = absurd (none_not_both db.schema now both)

empty_of : (cap : ℕ) (db : Database) (h : Holdings) → DatabaseHolds cap db h →
    db.schema ≡ one_schema → (stored_recordings db.trees ≡ []) × (h ≡ nothing_held)
empty_of cap db h (no_table is none) now = absurd (none_not_one db.schema is now)
empty_of cap db h (one_table is empty none) now = (empty, none)
empty_of cap db h (both_tables both kept) now = absurd (one_not_both db.schema now both)

kept_of : (cap : ℕ) (db : Database) (h : Holdings) → DatabaseHolds cap db h → HasBoth db.schema →
    RepresentCommitted cap db.trees h
kept_of cap db h (no_table is none) now = absurd (none_not_both db.schema is now)
kept_of cap db h (one_table is empty none) now = absurd (one_not_both db.schema is now)
kept_of cap db h (both_tables both kept) now = kept

no_rows : (rows : List Row) → ¬ (rows ≢ []) → rows ≡ []
no_rows [] never = refl
no_rows (r ∷ rs) never = absurd (never (λ e. absurd (cc)))

-- a file of ours that isn't foreign keeps some holdings
pub own_keeps : (cap : ℕ) (old new : Database) → HasTables old new →
    ((h : Holdings) × RepresentCommitted cap new.trees h) → ¬ IsForeignFile cap old →
    (h : Holdings) × DatabaseHolds cap old h
own_keeps cap old new (from_none none both first second) kept own = (
  nothing_held,
  no_table none refl,
)
own_keeps cap old new (from_one one both same second) kept own = (
  nothing_held,
  one_table one (no_rows (stored_recordings old.trees) (λ some. own (only_recordings one some)))
      refl,
)
own_keeps cap old new (from_both both same) kept own = (
  kept.0,
  both_tables both (subst (λ (d : Database). RepresentCommitted cap d.trees kept.0) same kept.1),
)

-- and one that keeps some is not foreign
pub kept_is_own : (cap : ℕ) (db : Database) (h : Holdings) → DatabaseHolds cap db h →
    ¬ IsForeignFile cap db
kept_is_own cap db h (no_table none is) (other_schema other) = other (inl none)
kept_is_own cap db h (no_table none is) (foreign_rows both rows) = none_not_both db.schema none both
kept_is_own cap db h (no_table none is) (only_recordings one some) = none_not_one db.schema none one
kept_is_own cap db h (one_table one empty is) (other_schema other) = other (inr (inl one))
kept_is_own cap db h (one_table one empty is) (foreign_rows both rows) =
    one_not_both db.schema one both
kept_is_own cap db h (one_table one empty is) (only_recordings now some) = some empty
kept_is_own cap db h (both_tables both kept) (other_schema other) = other (inr (inr both))
kept_is_own cap db h (both_tables both kept) (foreign_rows now rows) =
    not-foreign cap db.trees h kept rows
kept_is_own cap db h (both_tables both kept) (only_recordings one some) =
    one_not_both db.schema one both

pub keeps_once : (cap : ℕ) (db : Database) (h other : Holdings) → DatabaseHolds cap db h →
    DatabaseHolds cap db other → h ≡ other
keeps_once cap db h other (no_table none is) two = is ∙ sym (nothing_of cap db other two none)
keeps_once cap db h other (one_table one empty is) two = is ∙ sym (empty_of cap db other two one).1
keeps_once cap db h other (both_tables both kept) two =
    let again = kept_of cap db other two both in
    one-holdings db.trees h other cap cap kept.stand kept.sound again.stand again.sound

-- ---- of files that are opened

pub trees_keep : (cap : ℕ) (trees : Trees) (h : Holdings) (db : Database) → TreesHold cap trees h →
    IsDatabase db → db.trees ≡ trees → DatabaseHolds cap db h
trees_keep cap trees h db it sound same =
    let schema = schema_once trees db.schema it.schema (subst (λ (t : Trees). IsDatabase (record {
      schema = db.schema;
      trees = t;
    })) same sound) it.is_database in
    let eq : (record {
      schema = it.schema;
      trees = trees;
    }) ≡ db = λ i. record { schema = sym schema i; trees = sym same i } in
    subst (λ (d : Database). DatabaseHolds cap d h) eq it.holds

pub found_keeps : (cap : ℕ) (image : Image) (s : State) (h : Holdings) → FilesHold cap image h →
    FindsIn image s → IsDatabase s.committed → DatabaseHolds cap s.committed h
found_keeps cap image s h (inl (nothing, none)) found sound =
    no_table (unlisted s.committed.trees s.committed.schema
    (nothing_found image s.committed.trees nothing found.reads).1 sound) none
found_keeps cap image s h (inr (db, held, it)) found sound =
    trees_keep cap db h s.committed it sound (∥∥₁_elim held (Trees-set _ _)
    (λ holds. found.holds db holds))

pub read_as : (image : Image) (s : State) → FindsIn image s → IsDatabase s.committed →
    AreReadAs image s.committed
read_as image s found sound = record {
  is_database = sound;
  recovered = found.reads;
  only = found.holds;
}

-- ---- of a store that is opened

-- both tables were there, and the file is as it was
pub both_same : (old new : Database) → HasTables old new → HasBoth old.schema → new ≡ old
both_same old new (from_none none made first second) both =
    absurd (none_not_both old.schema none both)
both_same old new (from_one one made same second) both = absurd (one_not_both old.schema one both)
both_same old new (from_both was same) both = same

pub tables_keep : (cap : ℕ) (old new : Database) (h : Holdings) → DatabaseHolds cap old h →
    HasTables old new → RepresentCommitted cap new.trees h
tables_keep cap old new h it (from_none none both first second) =
    subst (RepresentCommitted cap new.trees) (sym (nothing_of cap old h it none))
    (nothing_kept cap new.trees first second)
tables_keep cap old new h it (from_one one both same second) =
    let was = empty_of cap old h it one in
    subst (RepresentCommitted cap new.trees) (sym was.1)
    (nothing_kept cap new.trees (same ∙ was.0) second)
tables_keep cap old new h it (from_both both same) =
    subst (λ (d : Database). RepresentCommitted cap d.trees h) (sym same)
    (kept_of cap old h it both)

pub opened_holds : {S : Type 0} (g : Ghosts S) (conn : Held S) (store : StoreModel S) →
    IsOpened g conn store → (h : Holdings) → DatabaseHolds store.cap (state g conn).now h →
    Holds g store h
opened_holds g conn store o h it clean is_open = tables_keep store.cap (state g conn).now
    (at g store).committed h it (o.tables clean)

-- ---- after a crash

pub made_keeps : (cap : ℕ) (old : Database) (rows : Trees) (h : Holdings) →
    DatabaseHolds cap old h →
    IsMadeOf old rows → (schema : Schema) → IsDatabase (record { schema = schema; trees = rows }) →
    DatabaseHolds cap (record { schema = schema; trees = rows }) h
made_keeps cap old rows h it (crash_after_first none made empty) schema sound =
    one_table (schema_once rows schema one_schema sound made) empty (nothing_of cap old h it none)
made_keeps cap old rows h it (crash_after_both none made first second) schema sound =
    both_tables (made_both schema (schema_once rows schema both_schema sound made))
    (subst (RepresentCommitted cap rows) (sym (nothing_of cap old h it none))
    (nothing_kept cap rows first second))
made_keeps cap old rows h it (crash_after_second one made same second) schema sound =
    let was = empty_of cap old h it one in
    both_tables (made_both schema (schema_once rows schema both_schema sound made))
    (subst (RepresentCommitted cap rows) (sym was.1) (nothing_kept cap rows (same ∙ was.0) second))

pub left_keeps : (cap : ℕ) (old : Database) (rows : Trees) (left : Holdings) → HasBoth old.schema →
    IsDatabase old → KeepsTrees old.schema old.trees rows → RepresentCommitted cap rows left →
    (schema : Schema) → IsDatabase (record { schema = schema; trees = rows }) →
    DatabaseHolds cap (record { schema = schema; trees = rows }) left
left_keeps cap old rows left both sound keeps kept schema now =
    both_tables (subst HasBoth (sym (kept_schema old.schema schema old.trees rows sound keeps now))
    both) kept

-- ---- under a greater cap

wider_kept : (cap more : ℕ) → cap ≤ more → (trees : Trees) (h : Holdings) →
    RepresentCommitted cap trees h → RepresentCommitted more trees h
wider_kept cap more wide trees h kept =
    let s = kept.sound in record {
      stand = kept.stand;
      sound = record {
        rising = s.rising;
        no_clash = s.no_clash;
        within_cap = λ k. let few = s.within_cap k in omega (arith, few, wide);
        records = s.records;
        begins = s.begins;
        keys = s.keys;
        finite = s.finite;
      };
      each = kept.each;
    }

wider_keeps : (cap more : ℕ) → cap ≤ more → (db : Database) (h : Holdings) →
    DatabaseHolds cap db h → DatabaseHolds more db h
wider_keeps cap more wide db h (no_table none is) = no_table none is
wider_keeps cap more wide db h (one_table one empty is) = one_table one empty is
wider_keeps cap more wide db h (both_tables both kept) =
    both_tables both (wider_kept cap more wide db.trees h kept)

pub wider : (cap more : ℕ) → cap ≤ more → (image : Image) (h : Holdings) →
    FilesHold cap image h → FilesHold more image h
wider cap more wide image h (inl none) = inl none
wider cap more wide image h (inr (trees, held, it)) = inr (
  trees,
  held,
  record {
    schema = it.schema;
    is_database = it.is_database;
    holds = wider_keeps cap more wide _ h it.holds;
  },
)
