-- What stays of a file as its tables are made.
use Rattle.std.proofs.Common.{◌≡◌, ◌⊎◌, inl, inr, ℕ, [], false, if◌then◌else◌, None, Ok, Err}
use Rattle.std.proofs.Common.{Result, OnOk, IsTrue, sym, subst, ◌∙◌, true≢false}
use Rattle.std.proofs.lemmas.Bool.{cases_Bool}
use Rattle.sqlite.specs.Command.TheVariants.{CreateTable, Nothing}
use Rattle.sqlite.specs.Effect.{Database}
use Rattle.sqlite.specs.declared.error.Error.{Error}
use Rattle.sqlite.specs.State.{State, Executes, Shows, Writes, IsUnchanged}
use Rattle.sqlite.proofs.Callers.{runs_as}
use Rattle.edf_tables.specs.Schema.{no_schema, one_schema, HasBoth}
use Rattle.edf_tables.specs.Refused.{IsUnchangedOrRolledBack}
use Rattle.edf_tables.specs.Made.{HasFirst, made_first, had_first, HasTables, from_none, from_one}
use Rattle.edf_tables.specs.Made.{from_both, KeepsTables, KeepsFile}
use Rattle.edf_tables.proofs.Texts.{create_recording_text, create_records_text, create_recording_is}
use Rattle.edf_tables.proofs.Texts.{recording_there, create_records_is}
use Rattle.edf_tables.proofs.Keeping.{refused_left}
use Rattle.edf_tables.proofs.Creating.{first_if, second_if}
use Rattle.edf_tables.proofs.Schemas.{none_not_one, none_not_both, one_not_both, made_both}
use Rattle.edf_tables.proofs.Tables.{both_made, after_first}

-- the write is committed outside a transaction, and inside it nothing is
abbrev pub IsWritten : State → State → Type 0
IsWritten old new = Shows old new new.now (if old.in_transaction then old.committed else new.now)
    old.in_transaction

pub first_written : (old new : State) (count : ℕ) → (old.now.schema ≡ no_schema)
    ⊎ (old.now.schema ≡ one_schema) → Executes create_recording_text [] old new (Ok count) →
    IsWritten old new ⊎ IsUnchanged old new
first_written old new count (inl none) h =
    inl (subst (λ t. Writes old new None CreateTable t [] count) create_recording_is.1
    (runs_as create_recording_text [] old new no_schema none CreateTable create_recording_is.0
    create_recording_is.3 count h)).shown
first_written old new count (inr one) h =
    inr (runs_as create_recording_text [] old new one_schema one Nothing recording_there.0
    recording_there.1 count h).0

pub second_written : (old new : State) (count : ℕ) → old.now.schema ≡ one_schema →
    Executes create_records_text [] old new (Ok count) → IsWritten old new ⊎ IsUnchanged old new
second_written old new count one h =
    inl (subst (λ t. Writes old new None CreateTable t [] count) create_records_is.1
    (runs_as create_records_text [] old new one_schema one CreateTable create_records_is.0
    create_records_is.3 count h)).shown

pub inside_as : (a b : State) → b.in_transaction ≡ a.in_transaction → IsTrue b.in_transaction →
    IsTrue a.in_transaction
inside_as a b same h = subst (λ m. IsTrue m) same h

pub inside_not : (b : State) (P : Type 0) → b.in_transaction ≡ false → IsTrue b.in_transaction → P
inside_not b P alone h = absurd (true≢false (sym h ∙ alone))

pub left_file : (old new : State) → IsUnchangedOrRolledBack old new → KeepsFile old new
left_file old new (inl same) = record {
  was_open = λ _. same.0.was_open;
  committed =
      λ _. inl same.0.committed_is;
  shown = λ _. inl (inl same.0.now_is);
  mode =
      inside_as old new same.0.mode;
}
left_file old new (inr undone) = record {
  was_open = undone.was_open;
  committed =
      λ o. inl (undone.undone o).1;
  shown =
      λ o. inr ((undone.undone o).0 ∙ sym (undone.undone o).1, undone.autocommit);
  mode =
      inside_not new (IsTrue old.in_transaction) undone.autocommit;
}

written_file : (old new : State) → KeepsTables old.now new.now → IsWritten old new
    ⊎ IsUnchanged old new → KeepsFile old new
written_file old new tables (inr same) = left_file old new (inl same)
written_file old new tables (inl it) = record {
  was_open = λ _. it.was_open;
  committed = λ _. elim (cases_Bool old.in_transaction) [
    | inl inside ↦ inl (rw inside at it.committed_is)
    | inr alone ↦ inr (
      alone,
      subst (KeepsTables old.now) (sym (rw alone at it.committed_is))
          tables,
    )
  ];
  shown = λ _. inl tables;
  mode = inside_as old new it.mode;
}

written_mode : (old new : State) → IsWritten old new ⊎ IsUnchanged old new →
    new.in_transaction ≡ old.in_transaction
written_mode old new (inl it) = it.mode
written_mode old new (inr same) = same.0.mode

pub first_file : (old new : State) (r : Result ℕ Error) → (old.now.schema ≡ no_schema)
    ⊎ (old.now.schema ≡ one_schema) → Executes create_recording_text [] old new r →
    KeepsFile old new
first_file old new (Ok count) ours h =
    written_file old new (inr (inl (first_if old new (Ok count) ours h)))
    (first_written old new count ours h)
first_file old new (Err e) ours h =
    left_file old new (refused_left create_recording_text [] old new (Err e) h)

pub second_file : (old new : State) (r : Result ℕ Error) → old.now.schema ≡ one_schema →
    Executes create_records_text [] old new r → KeepsFile old new
second_file old new (Ok count) one h =
    written_file old new (inr (inr (second_if old new (Ok count) one h)))
    (second_written old new count one h)
second_file old new (Err e) one h =
    left_file old new (refused_left create_records_text [] old new (Err e) h)

pub first_mode : (old new : State) (r : Result ℕ Error) → (old.now.schema ≡ no_schema)
    ⊎ (old.now.schema ≡ one_schema) → Executes create_recording_text [] old new r →
    OnOk r (new.in_transaction ≡ old.in_transaction)
first_mode old new (Ok count) ours h = written_mode old new (first_written old new count ours h)
first_mode old new (Err e) ours h = tt

pub second_mode : (old new : State) (r : Result ℕ Error) → old.now.schema ≡ one_schema →
    Executes create_records_text [] old new r → OnOk r (new.in_transaction ≡ old.in_transaction)
second_mode old new (Ok count) one h = written_mode old new (second_written old new count one h)
second_mode old new (Err e) one h = tt

-- ---- one call after another
pub tables_both : (a b : Database) → HasTables a b → HasBoth b.schema
tables_both a b (from_none none both first second) = made_both b.schema both
tables_both a b (from_one one both first second) = made_both b.schema both
tables_both a b (from_both both same) = subst (λ (d : Database). HasBoth d.schema) (sym same) both

-- where the tables are there, making them is nothing
tables_then : (a b c : Database) → HasBoth b.schema → KeepsTables b c → c ≡ b
tables_then a b c has (inl same) = same
tables_then a b c has (inr (inl (made_first none one empty))) =
    absurd (none_not_both b.schema none has)
tables_then a b c has (inr (inl (had_first one same))) = same
tables_then a b c has (inr (inr (from_none none both first second))) =
    absurd (none_not_both b.schema none has)
tables_then a b c has (inr (inr (from_one one both first second))) =
    absurd (one_not_both b.schema one has)
tables_then a b c has (inr (inr (from_both both same))) = same

keeps_tables_then : (a b c : Database) → KeepsTables a b → KeepsTables b c → KeepsTables a c
keeps_tables_then a b c (inl same) q = subst (λ (d : Database). KeepsTables d c) same q
keeps_tables_then a b c (inr (inr tables)) q =
    inr (inr (subst (HasTables a) (sym (tables_then a b c (tables_both a b tables) q)) tables))
keeps_tables_then a b c (inr (inl first)) (inl same) =
    inr (inl (subst (HasFirst a) (sym same) first))
keeps_tables_then a b c (inr (inl first)) (inr (inl (made_first none one empty))) =
    absurd (none_not_one b.schema none (after_first a b first))
keeps_tables_then a b c (inr (inl first)) (inr (inl (had_first one same))) =
    inr (inl (subst (HasFirst a) (sym same) first))
keeps_tables_then a b c (inr (inl first)) (inr (inr tables)) =
    inr (inr (both_made a b c first tables))

-- a call that was answered, and then one that was answered or refused
pub file_then : (a b c : State) → KeepsFile a b → KeepsTables a.now b.now →
    b.in_transaction ≡ a.in_transaction → KeepsFile b c → KeepsFile a c
file_then a b c one tables mode two = record {
  was_open = λ o. one.was_open (two.was_open o);
  committed = λ o. elim (two.committed o) [
    | inl same ↦ elim (one.committed (two.was_open o)) [
      | inl was ↦ inl (same ∙ was)
      | inr made ↦ inr (made.0, subst (KeepsTables a.now) (sym same) made.1)
    ]
    | inr made ↦ inr (sym mode ∙ made.0, keeps_tables_then a.now b.now c.committed tables made.1)
  ];
  shown = λ o. elim (two.shown o) [
    | inl made ↦ inl (keeps_tables_then a.now b.now c.now tables made)
    | inr undone ↦ inr undone
  ];
  mode = λ h. one.mode (two.mode h);
}
