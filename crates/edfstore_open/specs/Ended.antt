-- The status of a command, by how it ended.
use Rattle.sqlite_disk.specs.declared.Disk.{Ghosts}
use Rattle.edf_cli.specs.declared.status.Status.{Status}
use Rattle.edfstore_open.specs.declared.ended.Ended.{Ended}
use Rattle.edfstore_open.specs.declared.ended.Ended.TheVariants.{Run, NotOpened, WithoutFiles}

abbrev pub status_of : {D : Type 0} {g : Ghosts D} → Ended D g → Status
status_of (Run session) = session.status
status_of (NotOpened status rest) = status
status_of (WithoutFiles status) = status
