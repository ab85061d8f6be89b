-- A run over the files of a store, under the greatest cap.
use Rattle.std.proofs.Common.{◌≡◌, ◌≢◌, ◌⊎◌, ℕ, List, Option, None, Some, MatchOption, refl, sym}
use Rattle.std.proofs.Common.{◌∙◌, subst}
use Rattle.sqlite_disk.specs.declared.Disk.{Ghosts}
use Rattle.sqlite_wal.specs.Recovery.{Image}
use Rattle.edf_command.specs.Arguments.{Request}
use Rattle.edf_command.specs.Command.{store_path}
use Rattle.edf_cli.specs.Output.{OutputChange}
use Rattle.edf_cli.specs.declared.status.Status.{Status}
use Rattle.edfstore_files.specs.Close.{IsRunDone, IsRefused}
use Rattle.edfstore_files.specs.ProgramRun.{ProgramRun, Command, IsOpening}
use Rattle.edfstore_files.specs.declared.session.EndedRun.{EndedRun}
use Rattle.edfstore_open.specs.OnFile.{OnlyReads, Opening, IsOpeningFor, IsRunAtPath}
use Rattle.edfstore_open.specs.Program.{IsProgramRun, program_run}
use Rattle.edfstore_open.specs.InMemory.{IsRunInMemory}
use Rattle.edfstore_open.specs.declared.path.AtPath.{AtPath}
use Rattle.edfstore_open.specs.declared.ended.Ended.{Ended}
use Rattle.edfstore_open.specs.declared.ended.Ended.TheVariants.{WithoutFiles}

pub some_is_found : {A : Type 0} (found : Option A) (it : A) → found ≡ Some it → found ≢ None
some_is_found found it some none = let e : Some it ≡ None = sym some ∙ none in absurd (cc)

module _ {D : Type 0} {g : Ghosts D} (r : ProgramRun g) (cap : ℕ) (is : r.cap ≡ cap) where
  pub run_under : (s : EndedRun D) → IsRunDone r s ⊎ IsRefused r s →
      IsRunDone (record r { cap = cap }) s ⊎ IsRefused (record r { cap = cap }) s
  run_under s =
      subst (λ (n : ℕ). IsRunDone (record r { cap = n }) s ⊎ IsRefused (record r { cap = n }) s) is

pub opened_or_reads : {D : Type 0} {g : Ghosts D} (start : Image) (request : Request) (at : AtPath)
    (opening : Option (Opening D g)) → IsOpeningFor {g = g} start request at opening →
    MatchOption opening (OnlyReads request) (IsOpening {g = g} start)
opened_or_reads start request at None is = (is.0.0 refl).0
opened_or_reads start request at (Some it) is = is.1

pub run_at_path : {D : Type 0} {g : Ghosts D} (start : Image) (at : AtPath) (c : Command)
    (err : OutputChange) (Unread : Type 0) (ended : Ended D g) (path : List ℕ) →
    Some path ≡ store_path c.0 → IsRunAtPath (program_run g start c err Unread) c.0 at ended →
    IsProgramRun g start at c err Unread ended
run_at_path {D} {g} start at c err Unread ended path is =
    subst (λ o. MatchOption o
    ((status : Status) × (ended ≡ WithoutFiles status) × IsRunInMemory c err Unread status)
    (λ _. IsRunAtPath (program_run g start c err Unread) c.0 at ended)) is
