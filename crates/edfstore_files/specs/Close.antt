-- The result of a run: what its files hold once they are closed or released, also after others.
use Rattle.std.specs.Prelude.{◌≡◌, ◌⊎◌, ◌↔◌, ℕ, Bool, List, [], Option, Some, None, IsTrue, IfSome}
use Rattle.sqlite_disk.specs.declared.Disk.{Ghosts}
use Rattle.sqlite_disk.specs.declared.Files.{Files}
use Rattle.sqlite_wal.specs.Recovery.{Image}
use Rattle.sqlite_wal.specs.Files.{outcomes}
use Rattle.sqlite_wal.specs.Reads.{AreClean}
use Rattle.sqlite_trees.specs.View.{IsClean}
use Rattle.sqlite_store.specs.declared.store.FileStore.{FileStore}
use Rattle.sqlite_store.specs.FileStore.{view, recovers, files as store_files}
use Rattle.sqlite.specs.Tree.{Trees}
use Rattle.sqlite.specs.Effect.{Database}
use Rattle.sqlite.specs.Held.{Held}
use Rattle.sqlite.specs.State.{HasCleanDisk}
use Rattle.sqlite.specs.Files.{HoldsDatabase, over_files, IsClosed, FailsToClose}
use Rattle.sqlite.specs.declared.error.Error.{Error}
use Rattle.sqlite.specs.declared.error.Error.TheVariants.{SqliteFailure}
use Rattle.sqlite.specs.declared.error.ErrorCode.TheVariants.{Closed}
use Rattle.edf_fragment.specs.Parsed.{Parsed}
use Rattle.edf_tables.specs.Schema.{HasBoth, AreOurs}
use Rattle.edf_tables.specs.Made.{IsMadeOf}
use Rattle.edf_tables.specs.Others.{KeepsTrees}
use Rattle.edf_rows.specs.File.{IsForeignFile}
use Rattle.edf_holdings.specs.Holdings.{Holdings, IsSound}
use Rattle.edf_holdings.specs.Reply.{after}
use Rattle.edf_store.specs.Fault.{HasCause, HasCauseOrIsForeign, IsRefusalOf}
use Rattle.edf_store.specs.Held.{StoreModel, at, Holds}
use Rattle.edf_store.specs.declared.fault.StoreFault.{StoreFault}
use Rattle.edf_store.specs.declared.fault.StoreFault.TheVariants.{Foreign}
use Rattle.edf_intake.specs.Batch.{Turn}
use Rattle.edf_command.specs.Lines.{store_not_closed_line}
use Rattle.edf_cli.specs.Output.{OutputChange, Gets, IsWritten}
use Rattle.edf_cli.specs.declared.status.Status.{Status}
use Rattle.edf_cli.specs.declared.status.Status.TheVariants.{Trouble}
use Rattle.edfstore_files.specs.Files.{DatabaseHolds, TreesHold, FilesHold, AreReadAs}
use Rattle.edfstore_files.specs.Turns.{TakesTurns, IsSubmittedPrefix, LeadsTo, PastRun, StepsBy}
use Rattle.edfstore_files.specs.Turns.{Follow, ended, idle, HeadlineAfterRuns}
use Rattle.edfstore_files.specs.ProgramRun.{ProgramRun, Refuses, was_opened}
use Rattle.edfstore_files.specs.declared.session.EndedRun.{EndedRun}

-- The files are those of the connection's store, closed or not: a crash results in nothing that it
-- could not before. On a disk that returned what was written a failure has its cause: a call failed
-- in the close, or had closed the store; of memory that ran out no cause is said.
pub record AreReleased {D : Type 0} {g : Ghosts D} (last : Held (FileStore D g))
    (failure : Option Error) (files : Files D) : Type 0 where
  pub store : FileStore D g
  pub store_is : store_files store ≡ (files.log, files.db)
  pub quiet : IsClosed last store
  pub cause : IfSome failure (λ e. IsClean (view store) → FailsToClose last store e)

-- a close prints nothing, and the status stays; or a line, and the status is trouble
abbrev pub IsClosePrinted : OutputChange → Option Error → Status → Status → Type 0
IsClosePrinted err None before status = Gets err [] × (status ≡ before)
IsClosePrinted err (Some error) before status = (fault : StoreFault) × IsRefusalOf error fault
    × IsWritten err (store_not_closed_line fault) Trouble status

module _ {D : Type 0} {g : Ghosts D} (r : ProgramRun g) (s : EndedRun D) where
  -- the disk returned what was written
  abbrev pub IsDiskClean : Type 0
  IsDiskClean = AreClean g s.files.log s.files.db

  -- and the files were closed
  abbrev pub AreClosed : Type 0
  AreClosed = IsDiskClean × (s.failure ≡ None)

  -- and they were released as they are, since a failure had closed the store
  abbrev pub AreReleasedUnclosed : Type 0
  AreReleasedUnclosed = IsDiskClean × (s.failure ≡ Some (SqliteFailure Closed))

  -- the files may hold this after a crash, or as they are read now
  abbrev pub MayHold : Image → Type 0
  MayHold image = outcomes g s.files.log s.files.db image

  -- What this run began with is one thing. Whatever runs and sessions came before, it is the result
  -- of all that they submitted, of which the headline is true; and so is this.
  abbrev pub Across : (Holdings → Type 0) → Type 0
  Across IsSo = IsDiskClean → ((h other : Holdings) → FilesHold r.cap r.start h →
      FilesHold r.cap r.start other → h ≡ other)
      × ((runs : List PastRun) (h : Holdings) (first : Image) → IsSound r.cap h →
      FilesHold r.cap first h → Follow r.cap runs first r.start →
      ∥ ((it : HeadlineAfterRuns r.cap runs h r.start) × IsSo (after r.cap h it.submissions)) ∥₁)

  -- The store was opened, and held what the files held: nothing, or the result of some submissions.
  -- Closed files, and the database file alone, then hold the result of all turns, as the store did,
  -- and beside our two tables what they held; released ones hold that of a prefix of the turns.
  -- However the close went, an opening after a crash reads only the rows of such a prefix.
  pub record IsRunDone : Type 0 where
    pub db : Database
    pub old : StoreModel (FileStore D g)
    pub new : StoreModel (FileStore D g)
    pub turns : List Turn
    pub status : Status
    pub mid : Option (List ℕ)
    pub failures : ℕ
    pub cap_is : old.cap ≡ r.cap
    pub noticed : r.Noticed (was_opened r.output)
    pub does : r.Does old new turns (record r.err { after = mid; failed_after = failures }) status
    pub takes : TakesTurns over_files old new turns
    pub released : AreReleased new.connection s.failure s.files
    pub printed : IsClosePrinted (record r.err { before = mid; failed_before = failures }) s.failure
        status s.status
    pub clean : IsDiskClean → HasCleanDisk (at over_files new)
    pub read : IsDiskClean → AreReadAs r.start db
    pub own : IsDiskClean → (h : Holdings) × DatabaseHolds r.cap db h
    pub opened : IsDiskClean → (h : Holdings) → FilesHold r.cap r.start h → Holds over_files old h
    pub across : Across (Holds over_files old)
    pub closed : AreClosed → (h : Holdings) → Holds over_files new h → (image : Image) →
        MayHold image → FilesHold r.cap image h × FilesHold r.cap (record image { log = [] }) h
    pub steps : AreClosed → (image : Image) → MayHold image →
        StepsBy r.cap (ended turns) r.start image
        × StepsBy r.cap (ended turns) r.start (record image { log = [] })
    pub others : AreClosed → HasBoth db.schema → (image : Image) → MayHold image →
        ∥ ((rows : Trees) × HoldsDatabase image rows × KeepsTrees db.schema db.trees rows) ∥₁
    pub leads : AreReleasedUnclosed → (image : Image) → MayHold image →
        LeadsTo r.cap (λ h. IsSubmittedPrefix turns) r.start image
    pub crash : IsDiskClean → (h : Holdings) → FilesHold r.cap r.start h → (rows : Trees) →
        recovers released.store rows → (submissions : List Parsed)
        × IsSubmittedPrefix turns submissions × TreesHold r.cap rows (after r.cap h submissions)

  -- Or the store was refused. The fault has a cause; or it is E45, and the files held a database
  -- that is not the result of any submissions. There is no failure to close. The files hold what
  -- they held, and their rows are as they were; missing tables of ours may have been made.
  pub record IsRefused : Type 0 where
    pub db : Database
    pub fault : StoreFault
    pub ours : Bool
    pub why : HasCauseOrIsForeign fault
    pub refuses : Refuses r fault ours s.status
    pub nothing_failed : s.failure ≡ None
    pub ours_is : IsDiskClean → (IsTrue ours ↔ AreOurs db.schema)
    pub read : IsDiskClean → AreReadAs r.start db
    pub foreign : fault ≡ Foreign → IsDiskClean → IsForeignFile r.cap db
    pub none : fault ≡ Foreign → IsDiskClean → (h : Holdings) → ¬ FilesHold r.cap r.start h
    pub across : Across (λ h. HasCause fault)
    pub steps : IsDiskClean → (image : Image) → MayHold image → StepsBy r.cap idle r.start image
    pub as_was : IsDiskClean → (image : Image) → MayHold image → ∥ ((rows : Trees)
        × HoldsDatabase image rows × ((rows ≡ db.trees) ⊎ IsMadeOf db rows)) ∥₁
