-- What the rows were before missing tables were made, by the rows that there are then.
use Rattle.std.proofs.Common.{◌≡◌, inl, inr, ℕ, List, [], ◌∷◌, map, Contains, Bool, true, false, Ok}
use Rattle.std.proofs.Common.{Err, Result, IfOk, OnOk, IsTrue, IsPermutation, sym, subst, ◌∙◌, refl}
use Rattle.std.proofs.Common.{arith}
use Rattle.std.proofs.lemmas.List.Elements.{All-contains}
use Rattle.std.proofs.lemmas.List.Sorted.{length_permutation}
use Rattle.sqlite_value.specs.Order.{Row, column}
use Rattle.sqlite_trees.specs.Tree.{Trees}
use Rattle.sqlite.specs.Effect.{Database}
use Rattle.sqlite.specs.State.{State}
use Rattle.sqlite.specs.declared.error.Error.{Error}
use Rattle.edf_holdings.specs.Holdings.{Holdings}
use Rattle.edf_tables.proofs.Schemas.{none_not_one, none_not_both, one_not_both}
use Rattle.edf_tables.specs.Made.{IsOurs, HasTables, from_none, from_one, from_both}
use Rattle.edf_rows.specs.Cells.{recordings_in, records_in, recording_cells}
use Rattle.edf_rows.specs.Rows.{IsRecordingRow, RepresentCommitted}
use Rattle.edf_rows.specs.Foreign.{IsForeign, bad_recording, bad_records, without_recording, twice}
use Rattle.edf_rows.proofs.Rows.{here, no_member, not-foreign}
use Rattle.edf_rows.specs.Inside.All.{Answers}
use Rattle.edf_rows.specs.File.{IsForeignFile, other_schema, foreign_rows, only_recordings, Audits}

-- tables without rows are not foreign
none_foreign : (cap : ℕ) (trees : Trees) → trees 0 ≡ [] → trees 2 ≡ [] → ¬ IsForeign cap trees
none_foreign cap trees first second (bad_recording row c bad) =
    no_member row (subst (λ (rows : List Row).
    Contains (map (λ row. column row 0 ∷ column row 2 ∷ []) rows) row) first c)
none_foreign cap trees first second (bad_records id k is bad) =
    no_member (recording_cells id k)
    (subst (λ (rows : List Row). Contains (map (λ row. column row 0 ∷ column row 2 ∷ []) rows)
    (recording_cells id k)) first is.row)
none_foreign cap trees first second (without_recording row c none) =
    no_member row (subst (λ (rows : List Row). Contains rows row) second c)
none_foreign cap trees first second (twice a b two same) =
    let none = subst (λ (rows : List Row).
    IsPermutation (map (λ row. column row 0 ∷ column row 2 ∷ []) rows) (a ∷ b ∷ two.0)) first
    two.1 in
    let n = length_permutation [] (a ∷ b ∷ two.0) none in
    absurd (omega (arith, n))

-- the rows are foreign only where they were before
were_foreign : (cap : ℕ) (old new : Database) → HasTables old new → IsForeign cap new.trees →
    IsForeignFile cap old
were_foreign cap old new (from_none none both first second) foreign =
    absurd (none_foreign cap new.trees first second foreign)
were_foreign cap old new (from_one one both first second) foreign =
    only_recordings one (λ none. none_foreign cap new.trees (first ∙ none) second foreign)
were_foreign cap old new (from_both both same) foreign =
    foreign_rows both (subst (λ (d : Database). IsForeign cap d.trees) same foreign)

-- a recording that is kept has a record
recorded : (cap : ℕ) (trees : Trees) (h : Holdings) → RepresentCommitted cap trees h →
    trees 2 ≡ [] → trees 0 ≡ []
recorded cap trees h kept none = go (trees 0) refl
  where
    go : (rows : List Row) → trees 0 ≡ rows → rows ≡ []
    go [] e = refl
    go (row ∷ rows) e =
        let cells : Row = column row 0 ∷ column row 2 ∷ [] in
        let c : Contains (recordings_in trees) cells =
        subst (λ (rows : List Row).
        Contains (map (λ row. column row 0 ∷ column row 2 ∷ []) rows) cells) (sym e)
        (here cells (map (λ row. column row 0 ∷ column row 2 ∷ []) rows)) in
        let it : IsRecordingRow cells =
        All-contains IsRecordingRow (recordings_in trees) cells kept.stand.recordings c in
        let empty : records_in trees it.id ≡ [] = rw none refl in
        absurd (kept.each it.id it.key (record {
          row =
              subst (Contains (recordings_in trees)) it.cells c;
          key = it.is_key;
        }) empty)

had_ours : (old new : Database) → HasTables old new → IsOurs old
had_ours old new (from_none none both first second) = inl none
had_ours old new (from_one one both first second) = inr (inl one)
had_ours old new (from_both both same) = inr (inr both)

-- rows that are kept were not foreign
were_own : (cap : ℕ) (old new : Database) (h : Holdings) → HasTables old new →
    RepresentCommitted cap new.trees h → ¬ IsForeignFile cap old
were_own cap old new h tables kept (other_schema none) = none (had_ours old new tables)
were_own cap old new h (from_none none both first second) kept (foreign_rows was foreign) =
    none_not_both old.schema none was
were_own cap old new h (from_none none both first second) kept (only_recordings was some) =
    none_not_one old.schema none was
were_own cap old new h (from_one one both first second) kept (foreign_rows was foreign) =
    one_not_both old.schema one was
were_own cap old new h (from_one one both first second) kept (only_recordings was some) =
    some (sym first ∙ recorded cap new.trees h kept second)
were_own cap old new h (from_both both same) kept (foreign_rows was foreign) =
    not-foreign cap new.trees h kept (subst (λ (d : Database). IsForeign cap d.trees) (sym same)
    foreign)
were_own cap old new h (from_both both same) kept (only_recordings was some) =
    one_not_both old.schema was both

-- the answer about the tables is one about the file
pub audited : (cap : ℕ) (old new : State) (r : Result Bool Error) →
    OnOk r (HasTables old.now new.now) → IfOk r (Answers cap new.now.trees) →
    OnOk r (IsTrue new.is_open) → OnOk r (new.committed ≡ new.now) →
    OnOk r (new.in_transaction ≡ false) → IfOk r (Audits cap old new)
audited cap old new (Ok true) tables kept opened settled idle =
    record {
      is_open = opened;
      tables = tables;
      settled = settled;
      idle = idle;
      holdings = kept;
      own = were_own cap old.now new.now kept.0 tables kept.1;
    }
audited cap old new (Ok false) tables foreign opened settled idle =
    were_foreign cap old.now new.now tables foreign
audited cap old new (Err e) tables none opened settled idle = tt
