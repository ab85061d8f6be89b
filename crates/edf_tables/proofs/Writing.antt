-- What the writes do.
use Rattle.std.proofs.Common.{◌≡◌, ◌≢◌, ◌⊎◌, inl, inr, ℕ, ℤ, List, [], ◌∷◌, length, Bool, true}
use Rattle.std.proofs.Common.{false, cond, Option, None, Ok, Err, Result, OnOk, refl, sym, ap}
use Rattle.std.proofs.Common.{subst, ◌∙◌, arith}
use Rattle.sqlite.specs.declared.types.Value.{Value}
use Rattle.sqlite.specs.declared.types.Value.TheVariants.{Null, Int, Blob}
use Rattle.sqlite.specs.Order.{Row}
use Rattle.sqlite.specs.Ops.{unary}
use Rattle.sqlite.specs.Kind.TheVariants.{Integer}
use Rattle.sqlite.specs.Source.TheVariants.{Values}
use Rattle.sqlite.specs.Command.TheVariants.{Insert}
use Rattle.sqlite.specs.Edit.{Edit, edit_of}
use Rattle.sqlite.specs.Cast.{cast}
use Rattle.sqlite.specs.Rowids.TheVariants.{Chosen, Above}
use Rattle.sqlite.specs.Does.{Tally, Does, WritesRows}
use Rattle.sqlite.specs.Rows.{Task, Edited, Written, last_id, stamped, rowids_for, count_of}
use Rattle.sqlite_rules.specs.Action.{Writes}
use Rattle.sqlite_rules.specs.Edit.{Applies, next_rowid}
use Rattle.std.proofs.Common.{true≢false, not, ◌&&◌}
use Rattle.std.specs.Prelude.{unwrap_or, ◌/◌, MatchBool}
use Rattle.sqlite.specs.Tree.{Trees}
use Rattle.sqlite.specs.declared.error.Error.{Error}
use Rattle.sqlite.specs.Listing.{understood}
use Rattle.sqlite.specs.Effect.{Database, value_rows}
use Rattle.sqlite.specs.Schema.{Schema}
use Rattle.sqlite.specs.Term.{Term}
use Rattle.sqlite.specs.State.{State, mode_of, Executes, Shows}
use Rattle.sqlite.proofs.Callers.{statement_of, runs_as, one_step}
use Rattle.sqlite_schema.specs.declared.schema.Table.{Table}
use Rattle.sqlite_schema.specs.declared.schema.Keys.TheVariants.{Enforced}
use Rattle.std.specs.List.{AllByRecursion}
use Rattle.edf_tables.specs.Schema.{recording, records, schema_with, IsOtherTree, HasBoth}
use Rattle.edf_tables.specs.Others.{KeepsTrees, KeepsOthers}
use Rattle.edf_tables.proofs.Others.{no_works, others_kept}
use Rattle.edf_tables.specs.Row.{cells, named_cells, new_row, HasRecord, HasRecording, IsInside}
use Rattle.edf_tables.proofs.Texts.{insert_record_text, insert_record_is, record_terms}
use Rattle.edf_tables.proofs.Texts.{insert_recording_text, insert_recording_is, recording_terms}

-- the edit of a table that adds these cells
abbrev one_row : Trees → Table → Row → Edit
one_row trees table cells = record {
  table = table;
  gone = [];
  news =
      new_row (trees table.tree) cells ∷ [];
}

either : (b : Bool) (x : Value) → cond b x x ≡ x
either true x = refl
either false x = refl

pub cast_null : cast Integer Null ≡ Null
unfolding unary
cast_null = either _ Null

pub cast_int : (n : ℤ) → cast Integer (Int n) ≡ Int n
unfolding unary
cast_int n = either _ (Int n)

-- a part that gave a value did not stop on the way
pub went : {B E R : Type 0} {b : B} {Stops : E → Type 0} →
    ((stop : E) × Stops stop × (Ok b ≡ Err stop)) ⊎ R → R
went (inl stopped) = absurd (let e = stopped.2 in cc)
went (inr on) = on

pub same_value : {B E : Type 0} {a b : B} → ◌≡◌ {A = Result B E} (Ok a) (Ok b) → a ≡ b
same_value e = cc

apart : ◌≡◌ {A = ℕ} 0 2 → ⊥
apart e = omega arith

not_taken : (b : Bool) → not b && true ≡ true → b ≡ false
not_taken true h = absurd (true≢false (sym h))
not_taken false h = refl

-- ---- one row more in a table that counts no rowids

abbrev pub task_of : Option ℕ → Schema → Table → Row → Task
task_of limit schema of params = record {
  limit = limit;
  keys = Enforced;
  schema = schema;
  table =
      of;
  params = params;
}

-- what is written of a text with these terms
abbrev pub WritesOne : Option ℕ → Schema → Table → Row → ℕ → List Term → ℕ → Trees → Written →
    Type 0
WritesOne limit schema of params at terms width db w =
    WritesRows (task_of limit schema of params) db (Insert at (Values terms width)) (Ok w)

-- the terms make these cells
abbrev pub Makes : Table → Row → Row → List Term → ℕ → Trees → Type 0
Makes of params cells terms width db = edit_of db of
    [] Chosen 0 (value_rows (stamped of params) width (length terms / width) terms) ≡ one_row db of
    cells

-- a table that counts no rowids writes no count
uncounted : (P Q : Type 0) (c x : Bool) → c ≡ false → MatchBool (cond c x false) P Q → Q
uncounted P Q true x plain h = absurd (true≢false plain)
uncounted P Q false x plain h = h

pub row_written : (limit : Option ℕ) (schema : Schema) (of : Table) (params cells : Row) (at : ℕ)
    (terms : List Term) (width : ℕ) (db : Trees) (w : Written) → of.is_counted ≡ false → Makes of
    params cells terms width db
    → WritesOne limit schema of params at terms width db w →
    Applies schema Enforced db (one_row db of cells) w.trees
    × (w.last ≡ last_id (one_row db of cells).news)
row_written limit schema of params cells at terms width db w plain makes h =
    let given = went h in
    let count = went given.2 in
    let mid = went count.2 in
    let next = went mid.2 in
    let way : rowids_for of (count_of count.0) ≡ Chosen =
    ap (λ b. cond b (Above (count_of count.0)) Chosen) plain in
    let edit : edit_of db of [] (rowids_for of (count_of count.0)) 0 given.0 ≡ one_row db of cells =
    ap (λ w. edit_of db of [] w 0 given.0) way ∙ ap (edit_of db of [] Chosen 0) given.1.1
    ∙ makes in
    let counted : next.0 ≡ mid.0 = same_value (uncounted _ _ of.is_counted _ plain next.1) in
    let trees : w.trees ≡ mid.0 = ap (λ (it : Written). it.trees) (same_value next.2) ∙ counted in
    let wrote : Writes schema Enforced db (one_row db of cells) (Ok mid.0) =
    subst (λ x. Edited schema Enforced db x (Ok mid.0)) edit mid.1 in (
      subst (Applies schema Enforced db (one_row db of cells)) (sym trees)
          (one_step schema Enforced db mid.0 (one_row db of
          cells) (no_works schema Enforced 0 of.tree (one_row db of cells).news) wrote),
      ap (λ (it : Written). it.last) (same_value next.2) ∙ ap (λ (x : Edit). last_id x.news) edit,
    )

pub record_makes : (n start : ℤ) (samples block : List ℕ) (db : Trees) →
    Makes records (cells n start samples block) (cells n start samples block) record_terms 5 db
record_makes n start samples block db = rw (cast_null, cast_int n, cast_int start) refl

pub recording_makes : (identity : List ℕ) (db : Trees) →
    Makes recording (Blob identity ∷ []) (named_cells identity) recording_terms 3 db
recording_makes identity db = rw cast_null refl

-- ---- in our two tables

others_not_0 : (t : ℕ) → IsOtherTree t → t ≢ 0
others_not_0 t other e = absurd (omega (arith, other, e))

others_not_2 : (t : ℕ) → IsOtherTree t → t ≢ 2
others_not_2 t other e = absurd (omega (arith, other, e))

-- the schema and the trees are those of the write
abbrev After : State → Schema → Trees → Type 0
After new schema trees = (new.now.schema ≡ schema) × (new.now.trees ≡ trees)

others_as : (tree : ℕ) (old new : State) (has : HasBoth old.now.schema) (trees : Trees) →
    ((t : ℕ) → IsOtherTree t → t ≢ tree) → After new (schema_with has.others) trees
    → AllByRecursion (λ (t : Table). t.tree ≢ tree → trees t.tree ≡ old.now.trees t.tree)
    has.others.tables → KeepsTrees (schema_with has.others) old.now.trees trees →
    KeepsOthers old.now new.now
others_as tree old new has trees apart after kept rest =
    others_kept tree old.now new.now has apart after.0
    (subst (λ (x : Trees). AllByRecursion (λ (t : Table). t.tree ≢ tree →
    x t.tree ≡ old.now.trees t.tree) has.others.tables) (sym after.1) kept)
    (subst (KeepsTrees (schema_with has.others) old.now.trees) (sym after.1) rest)

pub record_added : (old new : State) (n start : ℤ) (samples block : List ℕ) (count : ℕ) →
    IsInside old → Executes insert_record_text (cells n start samples block) old new (Ok count)
    → HasRecord old new (cells n start samples block)
record_added old new n start samples block count inside h =
    let has = inside.schema in
    let o = has.others in
    let params = cells n start samples block in
    let db = old.now.trees in
    let command = Insert 1 (Values record_terms 5) in
    let w = runs_as insert_record_text params old new (schema_with o) has.is command
    (insert_record_is o).0 (insert_record_is o).1 count h in
    let text = statement_of insert_record_text (understood (schema_with o) insert_record_text) in
    let done = went (subst (λ s. Does old.step_limit (mode_of old) params
    (record old.now { schema = s }) text None command (Ok (w.tally, new.now))) has.is
    w.changed) in
    let now = ap (λ (p : Tally × Database). p.1) (same_value (went (went done.2).2).2) in
    let after : After new (schema_with o) done.0.trees =
    (ap (λ (d : Database). d.schema) now, ap (λ (d : Database). d.trees) now) in
    let applied = (row_written old.step_limit (schema_with o) records params params 1 record_terms 5
    db done.0 refl (record_makes n start samples block db) done.1).0 in
    record {
      schema = subst HasBoth (sym (after.0 ∙ sym has.is)) has;
      others = others_as 2 old new has done.0.trees others_not_2 after applied.tables.1.1
          (λ tree one two none. applied.others tree two none);
      recordings = ap (λ (t : Trees). t 0) after.1 ∙ applied.tables.0 apart;
      records = ap (λ (t : Trees). t 2) after.1 ∙ applied.rows;
      fresh = not_taken _ applied.fresh;
      shown = subst (λ (b : Bool). Shows old new new.now (cond b old.committed new.now) b)
          inside.mode w.shown;
    }

pub record_added_if : (old new : State) (n start : ℤ) (samples block : List ℕ)
    (r : Result ℕ Error) → IsInside old →
    Executes insert_record_text (cells n start samples block) old new r
    → OnOk r (HasRecord old new (cells n start samples block))
record_added_if old new n start samples block (Ok count) inside h =
    record_added old new n start samples block count inside h
record_added_if old new n start samples block (Err e) inside h = tt

pub recording_added : (old new : State) (identity : List ℕ) (count : ℕ) → IsInside old →
    Executes insert_recording_text (Blob identity ∷ []) old new (Ok count)
    → HasRecording old new (named_cells identity) × (new.last_rowid ≡ next_rowid (old.now.trees 0))
recording_added old new identity count inside h =
    let has = inside.schema in
    let o = has.others in
    let params = Blob identity ∷ [] in
    let db = old.now.trees in
    let command = Insert 0 (Values recording_terms 3) in
    let w = runs_as insert_recording_text params old new (schema_with o) has.is command
    (insert_recording_is o).0 (insert_recording_is o).1 count h in
    let text = statement_of insert_recording_text
    (understood (schema_with o) insert_recording_text) in
    let done = went (subst (λ s. Does old.step_limit (mode_of old) params
    (record old.now { schema = s }) text None command (Ok (w.tally, new.now))) has.is
    w.changed) in
    let told = same_value (went (went done.2).2).2 in
    let now = ap (λ (p : Tally × Database). p.1) told in
    let after : After new (schema_with o) done.0.trees =
    (ap (λ (d : Database). d.schema) now, ap (λ (d : Database). d.trees) now) in
    let wrote = row_written old.step_limit (schema_with o) recording params (named_cells identity) 0
    recording_terms 3 db done.0 refl (recording_makes identity db) done.1 in
    let applied = wrote.0 in (
      record {
        schema = subst HasBoth (sym (after.0 ∙ sym has.is)) has;
        others = others_as 0 old new has done.0.trees others_not_0 after applied.tables.1.1
            (λ tree one two none. applied.others tree one none);
        recordings = ap (λ (t : Trees). t 0) after.1 ∙ applied.rows;
        fresh = not_taken _ applied.fresh;
        records = ap (λ (t : Trees). t 2) after.1 ∙ applied.tables.1.0 (λ e. apart (sym e));
        shown = subst (λ (b : Bool). Shows old new new.now (cond b old.committed new.now) b)
            inside.mode w.shown;
      },
      w.last_rowid ∙ ap (λ last. unwrap_or last old.last_rowid)
          (ap (λ (p : Tally × Database). p.0.last) told ∙ wrote.1),
    )
