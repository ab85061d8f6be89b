-- A call that is refused, and chains of calls that keep what is committed.
use Rattle.std.proofs.Common.{inl, inr, ℕ, List, Bool, false, Ok, Err, Result, OnErr, refl, ◌∙◌}
use Rattle.std.proofs.lemmas.Bool.{cases_Bool}
use Rattle.sqlite.specs.Order.{Row}
use Rattle.sqlite.specs.Effect.{Database}
use Rattle.sqlite.specs.declared.error.Error.{Error}
use Rattle.sqlite.specs.State.{State, Executes, ExecutesIn, IsNotRun, shows_rows, IsUnchanged}
use Rattle.sqlite.specs.State.{IsRolledBack, KeepsCommit, Shows}
use Rattle.edf_tables.specs.Refused.{IsUnchangedOrRolledBack}

-- Whatever the text is, a write that is refused leaves the transaction or undoes it.
pub left_keeps : (old new : State) → IsUnchangedOrRolledBack old new → KeepsCommit old new
left_keeps old new (inl same) = record {
  was_open = λ _. same.0.was_open;
  committed =
      λ _. same.0.committed_is;
}
left_keeps old new (inr undone) = record {
  was_open = undone.was_open;
  committed =
      λ h. (undone.undone h).1;
}

pub refused_left : (sql : List ℕ) (params : Row) (old new : State) (r : Result ℕ Error) →
    Executes sql params old new r → OnErr r (IsUnchangedOrRolledBack old new)
unfolding ExecutesIn IsNotRun
refused_left sql params old new (Ok count) h = tt
refused_left sql params old new (Err e) (inl (inl h)) = inl h.1
refused_left sql params old new (Err e) (inl (inr h)) = inr h.3
refused_left sql params old new (Err e) (inr h) = elim (cases_Bool (shows_rows false h.0)) [
  | inl shows ↦ inl (rw shows at h.2).1
  | inr runs ↦ elim (rw runs at h.2) [ inl same ↦ inl same.1 | inr fails ↦ inr fails.3 ]
]

pub write_refused : (sql : List ℕ) (params : Row) (old new : State) (r : Result ℕ Error) →
    Executes sql params old new r → OnErr r (KeepsCommit old new)
write_refused sql params old new (Ok count) h = tt
write_refused sql params old new (Err e) h =
    left_keeps old new (refused_left sql params old new (Err e) h)

pub on_err : {T E P : Type 0} (r : Result T E) → P → OnErr r P
on_err (Ok x) h = tt
on_err (Err e) h = h

pub keeps_then : (a b c : State) → KeepsCommit a b → KeepsCommit b c → KeepsCommit a c
keeps_then a b c p q = record {
  was_open = λ h. p.was_open (q.was_open h);
  committed =
      λ h. q.committed h ∙ p.committed (q.was_open h);
}

pub shows_keeps : (old new : State) (now : Database) (mode : Bool) →
    Shows old new now old.committed mode → KeepsCommit old new
shows_keeps old new now mode h = record {
  was_open = λ _. h.was_open;
  committed =
      λ _. h.committed_is;
}

pub undone_keeps : (old new : State) → IsRolledBack old new → KeepsCommit old new
undone_keeps old new h = left_keeps old new (inr h)

pub same_keeps : (old : State) → KeepsCommit old old
same_keeps old = record { was_open = λ h. h; committed = λ _. refl }

pub same_left : (old new : State) → IsUnchanged old new → KeepsCommit old new
same_left old new same = left_keeps old new (inl same)
