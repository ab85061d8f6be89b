-- A command whose store is that of a path.
use Rattle.std.specs.Prelude.{◌≡◌, ◌≢◌, ◌⊎◌, ◌↔◌, [], Option, Some, None, Result, Err, IfSome}
use Rattle.sqlite_disk.specs.declared.Disk.{Ghosts}
use Rattle.sqlite_wal.specs.Files.{outcomes}
use Rattle.sqlite_wal.specs.Recovery.{Image}
use Rattle.sqlite_store.specs.declared.store.FileStore.{FileStore}
use Rattle.sqlite.specs.Files.{image_of}
use Rattle.sqlite.specs.Held.{Held}
use Rattle.sqlite.specs.declared.error.Error.{Error}
use Rattle.sqlite.specs.declared.file.Leftover.{Leftover}
use Rattle.edf_command.specs.Arguments.{Request}
use Rattle.edf_command.specs.Arguments.Request.{take, list, export, convert}
use Rattle.edf_command.specs.Lines.{no_recording_line}
use Rattle.edf_cli.specs.Output.{OutputChange, Gets, IsWritten}
use Rattle.edf_cli.specs.declared.status.Status.{Status}
use Rattle.edf_cli.specs.declared.status.Status.TheVariants.{Done, Refused, Trouble}
use Rattle.edfstore_files.specs.Close.{IsRunDone, IsRefused}
use Rattle.edfstore_files.specs.ProgramRun as run
use Rattle.edfstore_files.specs.ProgramRun.{IsOpening}
use Rattle.edfstore_open.specs.AtPath.{HasNoStore}
use Rattle.edfstore_open.specs.declared.ended.Ended.{Ended}
use Rattle.edfstore_open.specs.declared.ended.Ended.TheVariants.{Run, NotOpened, WithoutFiles}
use Rattle.edfstore_open.specs.declared.path.AtPath.{AtPath}

-- it makes no store where there is none
abbrev pub OnlyReads : Request → Type 0
OnlyReads (take store files) = ⊥
OnlyReads (list store) = Unit {0}
OnlyReads (export store place) = Unit {0}
OnlyReads (convert file) = ⊥

-- where there is none, such a command prints an empty list, or that its place has no recording
abbrev pub FindsNothing : Request → OutputChange → Status → Type 0
FindsNothing (take store files) err status = ⊥
FindsNothing (list store) err status = Gets err [] × (status ≡ Done)
FindsNothing (export store place) err status =
    IsWritten err (no_recording_line place) Refused status
FindsNothing (convert file) err status = ⊥

-- the files of a store, as they were opened, or why they were not and what remains of them
abbrev pub Opening : (D : Type 0) → Ghosts D → Type 0
Opening D g = Result (Held (FileStore D g)) (Error × Option (Leftover D g))

-- What is opened for a request where this was seen at its path: nothing, just where the request
-- only reads and there is no store; else the files there, whatever they hold, or there is a reason
-- why they are not.
abbrev pub IsOpeningFor : {D : Type 0} {g : Ghosts D} → Image → Request → AtPath →
    Option (Opening D g) → Type 0
IsOpeningFor start request at opening =
    ((opening ≡ None) ↔ (OnlyReads request × HasNoStore at)) × IfSome opening (IsOpening start)

module _ {D : Type 0} {g : Ghosts D} (r : run.ProgramRun g) (request : Request) where
  -- It was run over the files that were opened. They are closed under every status but trouble,
  -- and how they are read then is one of the outcomes of a crash. Or they were not opened, for this
  -- error, and what remains of them is returned. Or none were opened, and it only reads.
  abbrev pub IsRunOn : Option (Opening D g) → Ended D g → Type 0
  IsRunOn opening (Run s) = (opening ≢ None) × (IsRunDone r s ⊎ IsRefused r s)
      × (s.status ≢ Trouble → s.failure ≡ None)
      × outcomes g s.files.log s.files.db (image_of g s.files)
  IsRunOn opening (NotOpened status rest) = (error : Error) × (opening ≡ Some (Err (error, rest)))
      × run.NotOpened r error status
  IsRunOn opening (WithoutFiles status) = (opening ≡ None) × r.Untouched
      × FindsNothing request r.err status

  -- The request is run over what is opened for it. So `list` and `export` are answered as over an
  -- empty store (`WithoutFiles`) just where no store was seen.
  abbrev pub IsRunAtPath : AtPath → Ended D g → Type 0
  IsRunAtPath at ended = (opening : Option (Opening D g)) × IsOpeningFor r.start request at opening
      × IsRunOn opening ended
