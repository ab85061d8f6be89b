-- What the CREATE texts do.
use Rattle.std.proofs.Common.{◌≡◌, ◌⊎◌, inl, inr, ℕ, List, [], false, Option, None, Ok, Err, Result}
use Rattle.std.proofs.Common.{OnOk, sym, ap, subst, ◌∙◌}
use Rattle.sqlite.specs.Order.{Row}
use Rattle.sqlite.specs.Tree.{Trees}
use Rattle.sqlite.specs.Table.{Table}
use Rattle.sqlite.specs.Schema.{Schema}
use Rattle.sqlite.specs.Command.TheVariants.{CreateTable, Nothing}
use Rattle.sqlite.specs.Change.{created}
use Rattle.sqlite.specs.Does.{Tally, Does, lacks_sequence}
use Rattle.sqlite.specs.declared.run.Mode.{Mode}
use Rattle.sqlite.specs.declared.error.Error.{Error}
use Rattle.sqlite.specs.Listing.{understood}
use Rattle.sqlite.specs.Effect.{Database, IsDatabase}
use Rattle.sqlite.specs.State.{State, mode_of, Executes, Writes, MayCommit, CommitsBy}
use Rattle.sqlite.proofs.Callers.{statement_of, runs_as}
use Rattle.edf_tables.specs.Schema.{recording, records, no_schema, one_schema, both_schema}
use Rattle.edf_tables.specs.Made.{AreOf, HasFirst, made_first, had_first, HasTables, from_one}
use Rattle.edf_tables.proofs.Commits.{commits_as}
use Rattle.edf_tables.proofs.Texts.{create_recording_text, create_records_text, create_recording_is}
use Rattle.edf_tables.proofs.Texts.{recording_there, create_records_is, created_one, created_both}
use Rattle.edf_tables.proofs.Writing.{went, same_value}

pub makes_recording : (limit : Option ℕ) (mode : Mode) (trees : Trees) (tally : Tally)
    (after : Database) → Does limit mode [] (record { schema = no_schema; trees = trees })
    create_recording_text None CreateTable (Ok (tally, after))
    → (after.schema ≡ one_schema) × (after.trees 0 ≡ [])
makes_recording limit mode trees tally after h =
    let all = went h in
    let found = went all.1 in
    let made = found.1 in
    let both : Ok made.table ≡ Ok recording = sym made.defined ∙ create_recording_is.2 in
    let same : made.table ≡ recording = cc in
    let schema : found.0.schema ≡ one_schema = made.is ∙ ap (created no_schema) same
    ∙ created_one in
    let plain : lacks_sequence found.0.schema ≡ false = ap lacks_sequence schema in
    let now : after ≡ found.0 = ap (λ (p : Tally × Database). p.1) (same_value all.2)
    ∙ same_value (rw plain at found.2) in (
      ap (λ (d : Database). d.schema) now ∙ schema,
      ap (λ (d : Database). d.trees 0) now
          ∙ made.empty,
    )

pub makes_records : (limit : Option ℕ) (mode : Mode) (trees : Trees) (tally : Tally)
    (after : Database) → Does limit mode [] (record { schema = one_schema; trees = trees })
    create_records_text None CreateTable (Ok (tally, after))
    → (after.schema ≡ both_schema) × (after.trees 0 ≡ trees 0) × (after.trees 2 ≡ [])
makes_records limit mode trees tally after h =
    let all = went h in
    let found = went all.1 in
    let made = found.1 in
    let base : Table = record records { tree = 0 } in
    let both : Ok made.table ≡ Ok base = sym made.defined ∙ create_records_is.2 in
    let same : made.table ≡ base = cc in
    let schema : found.0.schema ≡ both_schema = made.is ∙ ap (created one_schema) same
    ∙ created_both in
    let plain : lacks_sequence found.0.schema ≡ false = ap lacks_sequence schema in
    let now : after ≡ found.0 = ap (λ (p : Tally × Database). p.1) (same_value all.2)
    ∙ same_value (rw plain at found.2) in (
      ap (λ (d : Database). d.schema) now ∙ schema,
      ap (λ (d : Database). d.trees 0) now
          ∙ made.others.0,
      ap (λ (d : Database). d.trees 2) now ∙ made.empty,
    )

pub first_made : (old new : State) (count : ℕ) → old.now.schema ≡ no_schema →
    Executes create_recording_text [] old new (Ok count) → HasFirst old.now new.now
first_made old new count has h =
    let w = subst (λ t. Writes old new None CreateTable t [] count) create_recording_is.1
    (runs_as create_recording_text [] old new no_schema has CreateTable create_recording_is.0
    create_recording_is.3 count h) in
    let changed = subst (λ (s : Schema).
    Does old.step_limit (mode_of old) [] (record old.now { schema = s }) create_recording_text
    None CreateTable (Ok (w.tally, new.now))) has w.changed in
    let it = makes_recording old.step_limit (mode_of old) old.now.trees w.tally new.now changed in
    made_first has it.0 it.1

pub first_there : (old new : State) (count : ℕ) → old.now.schema ≡ one_schema →
    Executes create_recording_text [] old new (Ok count) → HasFirst old.now new.now
first_there old new count has h =
    had_first has (runs_as create_recording_text [] old new one_schema has Nothing
    recording_there.0 recording_there.1 count h).0.0.now_is

pub second_made : (old new : State) (count : ℕ) → old.now.schema ≡ one_schema →
    Executes create_records_text [] old new (Ok count) → HasTables old.now new.now
second_made old new count has h =
    let w = subst (λ t. Writes old new None CreateTable t [] count) create_records_is.1
    (runs_as create_records_text [] old new one_schema has CreateTable create_records_is.0
    create_records_is.3 count h) in
    let changed = subst (λ (s : Schema).
    Does old.step_limit (mode_of old) [] (record old.now { schema = s }) create_records_text
    None CreateTable (Ok (w.tally, new.now))) has w.changed in
    let it = makes_records old.step_limit (mode_of old) old.now.trees w.tally new.now changed in
    from_one has it.0 it.1 it.2

pub first_if : (old new : State) (r : Result ℕ Error) → (old.now.schema ≡ no_schema)
    ⊎ (old.now.schema ≡ one_schema) → Executes create_recording_text [] old new r →
    OnOk r (HasFirst old.now new.now)
first_if old new (Err e) ours h = tt
first_if old new (Ok count) (inl none) h = first_made old new count none h
first_if old new (Ok count) (inr one) h = first_there old new count one h

pub second_if : (old new : State) (r : Result ℕ Error) → old.now.schema ≡ one_schema →
    Executes create_records_text [] old new r → OnOk r (HasTables old.now new.now)
second_if old new (Err e) one h = tt
second_if old new (Ok count) one h = second_made old new count one h

-- a text that does nothing commits nothing
pub nothing_commits : (old : State) (text : List ℕ) (params : Row) (db : Trees) →
    ¬ MayCommit old None Nothing text params db
nothing_commits old text params db (inl (inl e, same)) = absurd (cc)
nothing_commits old text params db (inl (inr e, same)) = absurd (let k = e.2 in cc)
nothing_commits old text params db (inr may) = absurd (let k = may.3 in cc)

left_of : (schema : Schema) (after : Database) (db : Trees) → db ≡ after.trees →
    after.schema ≡ schema → IsDatabase after → AreOf schema db
left_of schema after db same is sound =
    subst (AreOf schema) (sym same) (subst (λ (s : Schema). AreOf s after.trees) is sound)

first_commits : (old : State) (db : Trees) → old.now.schema ≡ no_schema →
    MayCommit old None CreateTable create_recording_text [] db → AreOf one_schema db × (db 0 ≡ [])
first_commits old db has (inl (inl e, same)) = absurd (cc)
first_commits old db has (inl (inr e, same)) = absurd (let k = e.2 in cc)
first_commits old db has (inr may) =
    let changed = subst (λ (s : Schema).
    Does old.step_limit (mode_of old) [] (record old.now { schema = s }) create_recording_text
    None CreateTable (Ok (may.1, may.2))) has may.3 in
    let made = makes_recording old.step_limit (mode_of old) old.now.trees may.1 may.2 changed in
    (left_of one_schema may.2 db may.5 made.0 may.4, ap (λ (t : Trees). t 0) may.5 ∙ made.1)

-- what a crash in it adds is the empty table
pub first_crash : (old : State) (db : Trees) → (old.now.schema ≡ no_schema)
    ⊎ (old.now.schema ≡ one_schema) → CommitsBy create_recording_text [] old db →
    (old.now.schema ≡ no_schema) × AreOf one_schema db × (db 0 ≡ [])
first_crash old db (inl none) h =
    let it = first_commits old db none (subst (λ t. MayCommit old None CreateTable t [] db)
    create_recording_is.1 (commits_as create_recording_text [] old no_schema none CreateTable
    create_recording_is.0 create_recording_is.3 db h)) in
    (none, it.0, it.1)
first_crash old db (inr one) h =
    absurd (nothing_commits old (statement_of create_recording_text
    (understood one_schema create_recording_text)) [] db
    (commits_as create_recording_text [] old one_schema one Nothing recording_there.0
    recording_there.1 db h))

second_commits : (old : State) (db : Trees) → old.now.schema ≡ one_schema →
    MayCommit old None CreateTable create_records_text [] db → AreOf both_schema db
    × (db 0 ≡ old.now.trees 0) × (db 2 ≡ [])
second_commits old db has (inl (inl e, same)) = absurd (cc)
second_commits old db has (inl (inr e, same)) = absurd (let k = e.2 in cc)
second_commits old db has (inr may) =
    let changed = subst (λ (s : Schema).
    Does old.step_limit (mode_of old) [] (record old.now { schema = s }) create_records_text
    None CreateTable (Ok (may.1, may.2))) has may.3 in
    let made = makes_records old.step_limit (mode_of old) old.now.trees may.1 may.2 changed in (
      left_of both_schema may.2 db may.5 made.0 may.4,
      ap (λ (t : Trees). t 0) may.5 ∙ made.1,
      ap (λ (t : Trees). t 2) may.5 ∙ made.2,
    )

pub second_crash : (old : State) (db : Trees) → old.now.schema ≡ one_schema →
    CommitsBy create_records_text [] old db → (old.now.schema ≡ one_schema) × AreOf both_schema db
    × (db 0 ≡ old.now.trees 0) × (db 2 ≡ [])
second_crash old db one h =
    let it = second_commits old db one (subst (λ t. MayCommit old None CreateTable t [] db)
    create_records_is.1 (commits_as create_records_text [] old one_schema one CreateTable
    create_records_is.0 create_records_is.3 db h)) in
    (one, it.0, it.1, it.2)
