-- What the opening of two files finds, in the words of a start.
use Rattle.sqlite_disk.specs.declared.Disk.{Ghosts}
use Rattle.sqlite_disk.specs.declared.Files.{Files}
use Rattle.sqlite_store.specs.declared.store.FileStore.{FileStore}
use Rattle.sqlite.specs.Held.{Held}
use Rattle.sqlite.specs.Files.{Finds, image_of, file_state}
use Rattle.sqlite.specs.Start.{FindsIn}

pub finds_in : {D : Type 0} {g : Ghosts D} (files : Files D) (c : Held (FileStore D g)) →
    Finds files c → FindsIn (image_of g files) (file_state c)
finds_in files c f = record { holds = f.holds; reads = f.reads }
