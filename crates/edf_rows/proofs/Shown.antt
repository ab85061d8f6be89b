-- What stays of a connection where a check is refused, and of a file that is checked.
use Rattle.std.proofs.Common.{◌≡◌, inl, inr, Bool, Ok, Err, Result, OnOk, OnErr, IsTrue, sym, ◌∙◌}
use Rattle.sqlite.specs.declared.error.Error.{Error}
use Rattle.sqlite.specs.State.{State, IsUnchanged}
use Rattle.edf_tables.specs.Refused.{IsUnchangedOrRolledBack}
use Rattle.edf_tables.specs.Made.{HasTables, KeepsFile}
use Rattle.edf_tables.proofs.Keeping.{left_keeps, keeps_then}
use Rattle.edf_tables.proofs.File.{file_then, inside_as, inside_not}
use Rattle.edf_rows.specs.Inside.Checked.{KeepsRows, KeepsShown}
use Rattle.edf_rows.proofs.AllRows.{rows_left}

pub shown_left : (a b : State) → IsUnchangedOrRolledBack a b → KeepsShown a b
shown_left a b (inl same) = record {
  commit = left_keeps a b (inl same);
  shown =
      λ _. inl same.0.now_is;
  mode = inside_as a b same.0.mode;
}
shown_left a b (inr undone) = record {
  commit = left_keeps a b (inr undone);
  shown =
      λ o. inr ((undone.undone o).0 ∙ sym (undone.undone o).1, undone.autocommit);
  mode =
      inside_not b (IsTrue a.in_transaction) undone.autocommit;
}

pub shown_rows : (a b : State) → KeepsRows a b → KeepsShown a b
shown_rows a b h = record {
  commit = h.commit;
  shown = λ _. inl h.now_is;
  mode =
      inside_as a b h.mode;
}

pub shown_then : (a b c : State) → KeepsRows a b → KeepsShown b c → KeepsShown a c
shown_then a b c p q = record {
  commit = keeps_then a b c p.commit q.commit;
  shown =
      λ o. elim (q.shown o) [ inl same ↦ inl (same ∙ p.now_is) | inr undone ↦ inr undone ];
  mode =
      λ h. inside_as a b p.mode (q.mode h);
}

-- some answered queries, and then one that was refused
pub unchanged_left : (a b c : State) → IsUnchanged a b → IsUnchangedOrRolledBack b c →
    KeepsShown a c
unchanged_left a b c same left = shown_then a b c (rows_left a b same) (shown_left b c left)

shown_file : (a b : State) → KeepsShown a b → KeepsFile a b
shown_file a b h = record {
  was_open = h.commit.was_open;
  committed =
      λ o. inl (h.commit.committed o);
  shown =
      λ o. elim (h.shown o) [ inl same ↦ inl (inl same) | inr undone ↦ inr undone ];
  mode = h.mode;
}

checked_file : (a b : State) (r : Result Bool Error) → OnOk r (KeepsRows a b) →
    OnErr r (KeepsShown a b) → KeepsFile a b
checked_file a b (Ok kept) same refused = shown_file a b (shown_rows a b same)
checked_file a b (Err e) same refused = shown_file a b refused

-- the tables were made, and their rows checked
pub file_checked : (a b c : State) (r : Result Bool Error) → KeepsFile a b → HasTables a.now b.now →
    b.in_transaction ≡ a.in_transaction → OnOk r (KeepsRows b c) → OnErr r (KeepsShown b c) →
    KeepsFile a c
file_checked a b c r made tables mode same refused =
    file_then a b c made (inr (inr tables)) mode (checked_file b c r same refused)
