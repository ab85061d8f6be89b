-- A run of `edfstore` or a session of `edfserve` over the two files of a store: how these are
-- opened for it, what it is given, what it prints, and what it does while the store is open.
use Rattle.std.specs.Prelude.{◌≡◌, ◌⊎◌, ◌∷◌, ◌++◌, ℕ, false, Bool, List, [], length, map}
use Rattle.std.specs.Prelude.{Option, None, option_map, Result, Ok, Err, IfSome}
use Rattle.sqlite_disk.specs.declared.Disk.{Ghosts}
use Rattle.sqlite_disk.specs.declared.Files.{Files}
use Rattle.sqlite_wal.specs.Recovery.{Image}
use Rattle.sqlite_wal.specs.Files.{outcomes}
use Rattle.sqlite_store.specs.declared.store.FileStore.{FileStore}
use Rattle.sqlite.specs.State.{HasCleanDisk}
use Rattle.sqlite.specs.Held.{Held}
use Rattle.sqlite.specs.Start.{FindsIn}
use Rattle.sqlite.specs.Files.{over_files, file_state, image_of, IsOpened, IsCleanLeft, LeavesFiles}
use Rattle.sqlite.specs.Files.{FailsToOpenFiles}
use Rattle.sqlite.specs.declared.error.Error.{Error}
use Rattle.sqlite.specs.declared.error.Error.TheVariants.{SqliteFailure}
use Rattle.sqlite.specs.declared.error.ErrorCode.TheVariants as code
use Rattle.sqlite.specs.declared.file.Leftover.{Leftover}
use Rattle.edf_store.specs.Fault.{IsRefusalOf}
use Rattle.edf_store.specs.Held.{StoreModel}
use Rattle.edf_store.specs.declared.fault.StoreFault.{StoreFault}
use Rattle.edf_intake.specs.Batch.{Turn}
use Rattle.edf_command.specs.Arguments.{Request}
use Rattle.edf_command.specs.Arguments.Request.{take}
use Rattle.edf_command.specs.Lines.{first_take_lines, take_status, store_refused_line}
use Rattle.edf_cli.specs.Text.{IsInstantFormat}
use Rattle.edf_command.specs.Run.{IsDone, files_of}
use Rattle.edf_command.specs.Taking.{HasOpened}
use Rattle.edf_cli.specs.Output.{OutputChange, Gets, AreLinesPrinted, IsWritten}
use Rattle.edf_cli.specs.declared.status.Status.{Status}
use Rattle.edf_cli.specs.declared.status.Status.TheVariants.{Trouble}
use Rattle.edfstore_files.specs.Turns.{given_in}

-- a file can't be opened, or memory ran out, or another program has it
abbrev pub IsOfNoFiles : Error → Type 0
IsOfNoFiles error = (error ≡ SqliteFailure code.CannotOpen)
    ⊎ ((error ≡ SqliteFailure code.OutOfMemory) ⊎ (error ≡ SqliteFailure code.DatabaseBusy))

module _ {D : Type 0} {g : Ghosts D} (start : Image) where
  -- This remains, for this error, of files that held `start` as they were opened. On a disk that
  -- returned what was written, files that were only read hold it still; after a crash, no database
  -- is still none or an empty one, and a database represents the same.
  pub record IsLeftover (error : Error) (rest : Leftover D g) : Type 0 where
    pub files : Files D
    pub held : image_of g files ≡ start
    pub settled : (image : Image) → outcomes g files.log files.db image → image ≡ start
    pub failed : IsCleanLeft rest → FailsToOpenFiles files rest error × LeavesFiles files rest

  -- A connection is open, as new, over files that were read as `start`; or this remains of them, or
  -- nothing, and no clause says what was done to the files before.
  abbrev pub IsOpening : Result (Held (FileStore D g)) (Error × Option (Leftover D g)) → Type 0
  IsOpening (Ok c) = ((file_state c).in_transaction ≡ false)
      × (HasCleanDisk (file_state c) → IsOpened c × FindsIn start (file_state c))
  IsOpening (Err e) = IfSome e.1 (IsLeftover e.0) × (e.1 ≡ None → IsOfNoFiles e.0)

-- What a watch is notified of: the store is open, and the output has this, where that is known; or
-- the store was refused, for this fault, and its file has our tables or not.
pub data Notice : Type 0 where
  was_opened : Option (List ℕ) → Notice
  was_refused : StoreFault → Bool → Notice

-- it got this notice, once, and no other, where its notices are known
abbrev pub IsNoticed : Option (List Notice) → Option (List Notice) → Notice → Type 0
IsNoticed old new notice = new ≡ option_map (λ (all : List Notice). all ++ (notice ∷ [])) old

-- A run or a session: its cap; what the files hold as they are opened; what its output has then;
-- what standard error gets; the notice of the opening; that nothing was read or printed; and what
-- was done over the open store, in which turns, with what on standard error and which status.
pub record ProgramRun {D : Type 0} (g : Ghosts D) : Type 1 where
  pub cap : ℕ
  pub start : Image
  pub output : Option (List ℕ)
  pub err : OutputChange
  pub Noticed : Notice → Type 0
  pub Untouched : Type 0
  pub Does : StoreModel (FileStore D g) → StoreModel (FileStore D g) → List Turn → OutputChange →
      Status → Type 0

-- the store was refused, which has our tables or not: a line says why, and nothing else was done
pub record Refuses {D : Type 0} {g : Ghosts D} (r : ProgramRun g) (fault : StoreFault) (ours : Bool)
    (status : Status) : Type 0 where
  pub line : IsWritten r.err (store_refused_line fault) Trouble status
  pub noticed : r.Noticed (was_refused fault ours)
  pub untouched : r.Untouched

-- the store was refused for this error, since its files were not opened
abbrev pub NotOpened : {D : Type 0} {g : Ghosts D} → ProgramRun g → Error → Status → Type 0
NotOpened r error status = (fault : StoreFault) × IsRefusalOf error fault
    × Refuses r fault false status

-- a command: the request, the bytes of each name, which names were opened before and after, and
-- standard output
abbrev pub Command : Type 0
Command = Request × (List ℕ → Option (List ℕ)) × List (List ℕ) × List (List ℕ) × OutputChange

-- a `take` prints the answer to each file
abbrev pub Prints : OutputChange → Request → List Turn → Status → Type 0
Prints out (take store files) turns status = (text : ℕ → List ℕ) → IsInstantFormat text →
    let answers = map (λ (t : Turn). t.answer) turns in
    AreLinesPrinted out (first_take_lines text files answers) (length answers)
    (take_status answers) status
Prints out other turns status = Unit {0}

-- the command was done, and these were the turns of all files that it names; or there was no memory
-- for them, and it had none
abbrev pub DoesCommand : {D : Type 0} {g : Ghosts D} → Command → StoreModel (FileStore D g) →
    StoreModel (FileStore D g) → List Turn → OutputChange → Status → Type 0
DoesCommand (request, bytes, before, after, out) old new turns err status =
    IsDone over_files old new out err bytes request status
    × HasOpened before after (files_of request) status
    × (((given_in turns ≡ map bytes (files_of request)) × Prints out request turns status)
    ⊎ ((turns ≡ []) × Gets out [] × (status ≡ Trouble)))

abbrev pub run_of : {D : Type 0} (g : Ghosts D) → ℕ → Image → Command → OutputChange →
    (Notice → Type 0) → (Unread : Type 0) → ProgramRun g
run_of g cap start c err Noticed Unread = record {
  cap = cap;
  start = start;
  output = c.4.before;
  err = err;
  Noticed = Noticed;
  Untouched = Unread × Gets c.4 [];
  Does = λ old new turns err status. DoesCommand c old new turns err status;
}
