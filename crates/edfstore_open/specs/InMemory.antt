-- A command that names no path: its store is in memory, and empty.
use Rattle.std.specs.Prelude.{◌≡◌, ◌⊎◌, [], false, IsTrue}
use Rattle.sqlite_trees.specs.declared.memory.MemStore.{MemStore}
use Rattle.sqlite.specs.State.{HasCleanDisk}
use Rattle.sqlite.specs.Steps.{over_memory}
use Rattle.edf_header.specs.declared.limits.TheConstants.{MOST_RECORDS}
use Rattle.edf_holdings.specs.Holdings.{nothing_held}
use Rattle.edf_store.specs.Fault.{HasCause}
use Rattle.edf_store.specs.Held.{StoreModel, at, Holds}
use Rattle.edf_store.specs.declared.fault.StoreFault.{StoreFault}
use Rattle.edf_command.specs.Lines.{store_refused_line}
use Rattle.edf_command.specs.Run.{IsDone, files_of}
use Rattle.edf_command.specs.Taking.{HasOpened}
use Rattle.edf_cli.specs.Output.{OutputChange, Gets, IsWritten}
use Rattle.edf_cli.specs.declared.status.Status.{Status}
use Rattle.edf_cli.specs.declared.status.Status.TheVariants.{Trouble}
use Rattle.edfstore_files.specs.ProgramRun.{Command}

-- a store in memory that holds nothing, is open and in no transaction, and takes as many data
-- records of a recording as a file may have
pub record IsEmptyStore (store : StoreModel MemStore) : Type 0 where
  pub cap_is : store.cap ≡ MOST_RECORDS
  pub empty : Holds over_memory store nothing_held
  pub is_open : IsTrue (at over_memory store).is_open
  pub idle : (at over_memory store).in_transaction ≡ false

-- the command was done over such a store, whose disk returned what was written
pub record IsDoneInMemory (c : Command) (err : OutputChange) (status : Status) : Type 0 where
  pub old : StoreModel MemStore
  pub new : StoreModel MemStore
  pub begun : IsEmptyStore old
  pub clean : HasCleanDisk (at over_memory new)
  pub done : IsDone over_memory old new c.4 err c.1 c.0 status
  pub opened : HasOpened c.2 c.3 (files_of c.0) status

-- or no store could be made, for a cause: a line says so, and nothing else was done
pub record HasNoMemory (c : Command) (err : OutputChange) (Unread : Type 0) (status : Status) :
    Type 0 where
  pub fault : StoreFault
  pub why : HasCause fault
  pub line : IsWritten err (store_refused_line fault) Trouble status
  pub silent : Gets c.4 []
  pub unread : Unread

abbrev pub IsRunInMemory : Command → OutputChange → (Unread : Type 0) → Status → Type 0
IsRunInMemory c err Unread status = IsDoneInMemory c err status ⊎ HasNoMemory c err Unread status
