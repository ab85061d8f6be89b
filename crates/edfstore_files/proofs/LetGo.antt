-- What the files hold once a run has let them go.
use Rattle.std.proofs.Common.{◌≡◌, ◌⊎◌, inl, inr, ℕ, List, [], Option, IsTrue, refl, sym, subst}
use Rattle.std.proofs.Common.{◌∙◌, arith}
use Rattle.std.proofs.Math.Logic.{∥∥₁_map}
use Rattle.sqlite_disk.specs.declared.Disk.{Ghosts}
use Rattle.sqlite_disk.specs.declared.Files.{Files}
use Rattle.sqlite_wal.specs.Recovery.{Image}
use Rattle.sqlite_wal.specs.Files.{outcomes}
use Rattle.sqlite_wal.specs.Reads.{AreClean}
use Rattle.sqlite_wal.proofs.LogLemmas.{SeenMayStay}
use Rattle.sqlite_pool.proofs.StateLemmas.{clean_is, may_leave_is}
use Rattle.sqlite_trees.specs.View.{IsClean, IsQuiet}
use Rattle.sqlite_trees.proofs.Doubt.{no_doubt}
use Rattle.sqlite_store.specs.declared.store.FileStore.{FileStore}
use Rattle.sqlite_store.specs.FileStore.{view, faults, recovers, is_shielded, files as store_files}
use Rattle.sqlite_store.specs.Laws.{settled_at}
use Rattle.sqlite.specs.Tree.{Trees}
use Rattle.sqlite.specs.Schema.{Schema}
use Rattle.sqlite.specs.Effect.{Database, IsDatabase}
use Rattle.sqlite.specs.State.{HasCleanDisk, Survives}
use Rattle.sqlite.specs.Held.{Held, AreDatabases}
use Rattle.sqlite.specs.Closing.{IsCopied}
use Rattle.sqlite.specs.Files.{HoldsDatabase, IsOpened, file_state}
use Rattle.sqlite.specs.Start.{FindsIn}
use Rattle.sqlite.specs.declared.error.Error.{Error}
use Rattle.sqlite.proofs.Theorems.{opens_again}
use Rattle.edf_tables.specs.Made.{IsMadeOf}
use Rattle.edf_fragment.specs.Parsed.{Parsed}
use Rattle.edf_holdings.specs.Holdings.{Holdings}
use Rattle.edf_holdings.specs.Reply.{after}
use Rattle.edf_intake.specs.Batch.{Turn}
use Rattle.edfstore_files.specs.Files.{DatabaseHolds, TreesHold, FilesHold}
use Rattle.edfstore_files.specs.Close.{AreReleased}
use Rattle.edfstore_files.specs.Turns.{IsSubmittedPrefix, LeadsTo}
use Rattle.edfstore_files.proofs.Keeping.{found_keeps, made_keeps}
use Rattle.edfstore_files.proofs.Working.{no_front, MayBeLeft}

same_keep : (cap : ℕ) (db : Database) (trees : Trees) (h : Holdings) → trees ≡ db.trees →
    IsDatabase db → DatabaseHolds cap db h → TreesHold cap trees h
same_keep cap db trees h same sound keeps =
    let eq : db ≡ (record {
      schema = db.schema;
      trees = trees;
    }) = λ i. record { schema = db.schema; trees = sym same i } in
    record {
      schema = db.schema;
      is_database = subst IsDatabase eq sound;
      holds = subst (λ (d : Database). DatabaseHolds cap d h) eq keeps;
    }

-- where the rows are as they were, or missing tables were made, the files keep what they kept
pub still_keeps : (cap : ℕ) (db : Database) (image : Image) (h : Holdings) → IsDatabase db →
    DatabaseHolds cap db h → ∥ ((rows : Trees) × HoldsDatabase image rows
    × ((rows ≡ db.trees) ⊎ IsMadeOf db rows)) ∥₁ → ∥ FilesHold cap image h ∥₁
still_keeps cap db image h sound keeps as_was = ∥∥₁_map as_was (λ it.
    let r : FilesHold cap image h = inr (
      it.0,
      ∣ it.1 ∣₁,
      elim it.2 [
        | inl same ↦ same_keep cap db it.0 h same sound keeps
        | inr made ↦
            let inside = it.1.2 in record {
              schema = inside.schema;
              is_database = inside.sound;
              holds = made_keeps cap db it.0 h keeps made inside.schema inside.sound;
            }
      ],
    ) in r)

module _ {D : Type 0} {g : Ghosts D} where
  -- each crash from here on leaves files that hold what one could leave
  abbrev pub LeavesEach : Held (FileStore D g) → Files D → Type 0
  LeavesEach c files = HasCleanDisk (file_state c) × ((image : Image) →
      outcomes g files.log files.db image →
      ∥ ((db : Trees) × (file_state c).may_leave db × HoldsDatabase image db) ∥₁)

  -- the files of a store that is let go
  pub leaves : (c : Held (FileStore D g)) (store : FileStore D g) (files : Files D) →
      (files.log, files.db) ≡ store_files store → IsQuiet view faults recovers is_shielded c.store
      store → (IsClean (view store) → IsTrue (view store).is_numbered) →
      (IsClean (view store) → AreDatabases (recovers store)) → AreClean g files.log files.db →
      LeavesEach c files
  leaves c store files same quiet numbered sound clean =
      let sure = subst (λ (p : D × D). AreClean g p.0 p.1) same clean in
      let none : IsClean (view store) = no_doubt _ (clean_is store.pool ∙ sure) in (
        omega (arith, quiet.clean, none),
        λ image may.
            ∥∥₁_map (opens_again store (numbered none) (sound none) image
            (may_leave_is store.pool image sure (subst (λ (p : D × D). outcomes g p.0 p.1 image)
            same may))) (λ it.
            let r : (db : Trees) × (file_state c).may_leave db × HoldsDatabase image db =
            (it.0, quiet.outcomes it.0 it.1, it.2) in r),
      )

  -- where the disk is clean in the end, it was as the files were let go
  pub clean_last : {failure : Option Error} (c : Held (FileStore D g)) (files : Files D) →
      AreReleased c failure files → AreClean g files.log files.db → HasCleanDisk (file_state c)
  clean_last c files it clean =
      let sure = subst (λ (p : D × D). AreClean g p.0 p.1) (sym it.store_is) clean in
      let none : IsClean (view it.store) = no_doubt _ (clean_is it.store.pool ∙ sure) in
      omega (arith, it.quiet.quiet.clean, none)

  module _ (stays : SeenMayStay g) (cap : ℕ) (start : Image) (turns : List Turn)
      (first last : Held (FileStore D g)) (opens : HasCleanDisk (file_state first) → IsOpened first)
      (finds : HasCleanDisk (file_state first) → FindsIn start (file_state first))
      (s : Survives (file_state first) (file_state last)
      (MayBeLeft cap turns (file_state first).now)) (clean : HasCleanDisk (file_state last)) where
    -- rows that a crash may leave are of a database that keeps what some first of the turns leave
    pub rows_left : (h : Holdings) → FilesHold cap start h → (rows : Trees) →
        (file_state last).may_leave rows → (schema : Schema) →
        IsDatabase (record { schema = schema; trees = rows }) →
        (tolds : List Parsed) × IsSubmittedPrefix turns tolds
        × TreesHold cap rows (after cap h tolds)
    rows_left h keep rows may schema sound =
        let early : HasCleanDisk (file_state first) = omega (arith, s.clean, clean) in
        let opened = opens early in
        let was = opened.1 opened.0.is_open in
        let keeps = found_keeps cap start (file_state first) h keep (finds early) was.1 in
        elim (s.crash clean rows may) [
          | inl old ↦ (
            [],
            no_front turns,
            same_keep cap (file_state first).committed rows h
                (settled_at first.store stays rows opened.0.is_open old) was.1 keeps,
          )
          | inr left ↦
              let same = sym opened.0.clean in
              let it = left h (subst (λ (d : Database). DatabaseHolds cap d h) same keeps) in (
                it.submissions,
                it.front,
                record { schema = schema; is_database = sound; holds = it.holds schema sound },
              )
        ]

    pub leads : (files : Files D) → LeavesEach last files → (image : Image) →
        outcomes g files.log files.db image → LeadsTo cap (λ h. IsSubmittedPrefix turns) start image
    leads files left image may h keep =
        ∥∥₁_map (left.1 image may) (λ (rows, could, holds).
        let it = rows_left h keep rows could holds.2.schema holds.2.sound in
        let r : (tolds : List Parsed) × IsSubmittedPrefix turns tolds
        × FilesHold cap image (after cap h tolds) = (it.0, it.1, inr (rows, ∣ holds ∣₁, it.2)) in r)

  -- the rows of a store that was refused are as they were, where missing tables may have been made
  pub as_it_was : SeenMayStay g → (first last : Held (FileStore D g)) (files : Files D) →
      IsOpened first → Survives (file_state first) (file_state last)
      (IsMadeOf (file_state first).now) → LeavesEach last files → (image : Image) →
      outcomes g files.log files.db image → ∥ ((rows : Trees) × HoldsDatabase image rows
      × ((rows ≡ (file_state first).committed.trees)
      ⊎ IsMadeOf (file_state first).committed rows)) ∥₁
  as_it_was stays first last files opened s left image may = ∥∥₁_map (left.1 image may) (λ it.
      let r : (rows : Trees) × HoldsDatabase image rows
      × ((rows ≡ (file_state first).committed.trees)
      ⊎ IsMadeOf (file_state first).committed rows) = (
        it.0,
        it.2,
        elim (s.crash left.0 it.0 it.1) [
          | inl early ↦ inl (settled_at first.store stays it.0 opened.0.is_open early)
          | inr made ↦ inr (subst (λ (d : Database). IsMadeOf d it.0) opened.0.clean made)
        ],
      ) in r)

  -- what is held as the run ends is in the two files, and in the database file alone
  pub ends_in : (cap : ℕ) (last : Held (FileStore D g)) (files : Files D) (h : Holdings) →
      IsCopied last files → IsDatabase (file_state last).committed →
      DatabaseHolds cap (file_state last).committed h → (image : Image) →
      outcomes g files.log files.db image →
      FilesHold cap image h × FilesHold cap (record image { log = [] }) h
  ends_in cap last files h copied sound keeps image may =
      let trees = (file_state last).committed.trees in
      let inside = same_keep cap (file_state last).committed trees h refl sound keeps in
      let held = copied.left image may in
      (inr (trees, held.both, inside), inr (trees, held.alone, inside))
