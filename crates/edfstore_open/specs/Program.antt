-- A command, over the store that it names.
use Rattle.std.specs.Prelude.{◌≡◌, None, MatchOption}
use Rattle.sqlite_disk.specs.declared.Disk.{Ghosts}
use Rattle.sqlite_wal.specs.Recovery.{Image}
use Rattle.edf_header.specs.declared.limits.TheConstants.{MOST_RECORDS}
use Rattle.edf_command.specs.Command.{store_path}
use Rattle.edf_cli.specs.Output.{OutputChange}
use Rattle.edf_cli.specs.declared.status.Status.{Status}
use Rattle.edfstore_files.specs.ProgramRun.{ProgramRun, Command, IsNoticed, run_of}
use Rattle.edfstore_open.specs.InMemory.{IsRunInMemory}
use Rattle.edfstore_open.specs.OnFile.{IsRunAtPath}
use Rattle.edfstore_open.specs.declared.ended.Ended.{Ended}
use Rattle.edfstore_open.specs.declared.ended.Ended.TheVariants.{WithoutFiles}
use Rattle.edfstore_open.specs.declared.path.AtPath.{AtPath}

-- a run of the program over files that hold this, under the cap of a file, with no known notice
abbrev pub program_run : {D : Type 0} (g : Ghosts D) → Image → Command → OutputChange →
    (Unread : Type 0) → ProgramRun g
program_run g start c err Unread =
    run_of g MOST_RECORDS start c err (IsNoticed None None) Unread

-- where it names a path, it is run over the files there, which hold this, as was seen; else in
-- memory
abbrev pub IsProgramRun : {D : Type 0} (g : Ghosts D) → Image → AtPath → Command → OutputChange →
    (Unread : Type 0) → Ended D g → Type 0
IsProgramRun {D} g start at c err Unread ended = MatchOption (store_path c.0)
    ((status : Status) × (ended ≡ WithoutFiles status) × IsRunInMemory c err Unread status)
    (λ path. IsRunAtPath (program_run g start c err Unread) c.0 at ended)
