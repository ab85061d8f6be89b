-- A session over the two files of a store, in the words that a run is told in.
use Rattle.std.specs.Prelude.{◌≡◌, ℕ, List, [], map, Option}
use Rattle.sqlite_disk.specs.declared.Disk as disk
use Rattle.sqlite_trees.specs.declared.store.Store.{Ghosts}
use Rattle.sqlite_wal.specs.Recovery.{Image}
use Rattle.sqlite_store.specs.declared.store.FileStore.{FileStore}
use Rattle.sqlite.specs.Files.{over_files}
use Rattle.edf_store.specs.Held.{StoreModel}
use Rattle.edf_intake.specs.Batch.{Turn}
use Rattle.edf_cli.specs.Output.{OutputChange, Gets}
use Rattle.edf_cli.specs.declared.status.Status.{Status}
use Rattle.edfstore_files.specs.ProgramRun.{Notice, ProgramRun}
use Rattle.edf_serve.specs.Session.{Moment, IsWholeSession, submissions}
use Rattle.edf_serve.specs.Work.{Submission}
use Rattle.edf_serve.specs.declared.answering.End.{End}

-- the files of these submissions, and how they were answered, are those of the turns
abbrev pub AreTurnsOf : List Submission → List Turn → Type 0
AreTurnsOf all turns =
    (map (λ (t : Turn). t.from) turns ≡ map (λ (s : Submission). s.from) all)
    × (map (λ (t : Turn). t.to) turns ≡ map (λ (s : Submission). s.to) all)
    × (map (λ (t : Turn). t.answer) turns ≡ map (λ (s : Submission). s.answer) all)

-- Lines were answered, and these were the turns of the files that they submitted. The status is the
-- worst one, and nothing was told beside the answers.
abbrev pub ServesLines : {S : Type 0} → Ghosts S → Option (List ℕ) → Moment S →
    Moment S → List Turn → OutputChange → Status → Type 0
ServesLines g folder a b turns err status = (why : End)
    × ((whole : IsWholeSession g folder a b why) × AreTurnsOf (submissions whole.all) turns)
    × (status ≡ b.at.worst) × Gets err []

-- A session as a run. What it has beside its store is given before and after, with whatever store.
-- Its output, of which `watch` is told as the store is opened, is standard error.
abbrev pub session_run : {D : Type 0} (g : disk.Ghosts D) → ℕ → Image → Option (List ℕ) →
    (before after : StoreModel (FileStore D g) → Moment (FileStore D g)) → OutputChange →
    (Notice → Type 0) → (Unread : Type 0) → ProgramRun g
session_run g cap start folder before after err Noticed Unread = record {
  cap = cap;
  start = start;
  output = err.before;
  err = err;
  Noticed = Noticed;
  Untouched = Unread;
  Does = λ old new turns err status.
      ServesLines over_files folder (before old) (after new) turns err status;
}
