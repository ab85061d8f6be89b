-- What `take NAME` does: what it opens, what it submits, and what it writes.
use Rattle.std.specs.Prelude.{◌≡◌, ◌⊎◌, ◌↔◌, ℕ, true, List, [], ◌∷◌, ◌++◌, codes, Option, Some}
use Rattle.std.specs.Prelude.{None, Ok, Err}
use Rattle.sqlite_trees.specs.declared.store.Store.{Ghosts}
use Rattle.edf_intake.specs.Refusal.{Answer, IsMemoryOrStoreRefusal, refusal_number}
use Rattle.edf_intake.specs.Submitted.{IsSubmitAnswer, IsOutsideTransactionAfterSubmit}
use Rattle.edf_command.specs.Lines.{refused_file_line, take_memory_line}
use Rattle.edf_cli.specs.Text.{IsInstantFormat}
use Rattle.edf_cli.specs.Output.{OutputChange, Gets, IsWritten, IsLinePrinted}
use Rattle.edf_cli.specs.Status.{status_of_number}
use Rattle.edf_cli.specs.declared.status.Status.{Status}
use Rattle.edf_cli.specs.declared.status.Status.TheVariants.{Refused, Trouble}
use Rattle.edf_serve.specs.Files.{Paths, opens, IsPlace}
use Rattle.edf_serve.specs.Work.{Work, Submission, grown, OnlyWrites}
use Rattle.edf_serve.specs.declared.room.Outcome.{Outcome}
use Rattle.edf_serve.specs.declared.room.Outcome.TheVariants as outcome

-- a name that does not lead below the folder
abbrev pub outside_line : List ℕ → List ℕ
outside_line name = name ++ (codes " is outside of the folder" ++ (10 ∷ []))

-- a line says that the name stands for no path, or that there is no memory for one
abbrev pub HasNoPath : Paths → Option (List ℕ) → List ℕ → OutputChange → Status → Type 0
HasNoPath paths folder name out status =
    (IsPlace paths folder name None × IsWritten out (outside_line name) Refused status)
    ⊎ IsWritten out take_memory_line Trouble status

-- The answer: accepted, and nothing is written yet; or the line of a refusal. The session is to end
-- just where memory ran out or the store refused.
abbrev pub IsAnswerSaid : OutputChange → List ℕ → Answer → Outcome → Type 0
IsAnswerSaid out name (Ok receipt) (outcome.Accepted given told) = (given.now ≡ name)
    × (told ≡ receipt) × Gets out []
IsAnswerSaid out name (Err refusal) (outcome.Told status is_stopped) = ((spell : ℕ → List ℕ) →
    IsInstantFormat spell → IsLinePrinted out (refused_file_line spell name refusal)
    (status_of_number (refusal_number refusal)) status)
    × ((is_stopped ≡ true) ↔ IsMemoryOrStoreRefusal (Err refusal))
IsAnswerSaid out name answer outcome = ⊥

module _ {S : Type 0} (g : Ghosts S) (w : Work S) (name : List ℕ) where
  -- the path was opened, and its bytes were submitted
  pub record SubmitsFile (path : List ℕ) : Type 0 where
    pub it : Submission
    pub is_it : (w.submission ≡ Some it) × (it.name ≡ name) × (it.path ≡ path)
    pub given : it.from.remaining ≡ w.old.paths.bytes path
    pub submitted : IsSubmitAnswer g w.old.store w.new.store it.from it.to it.answer
    pub ended : IsOutsideTransactionAfterSubmit g w.new.store it.answer
    pub said : IsAnswerSaid (grown w.old.out w.new.out) name it.answer w.outcome
    pub same : w.new ≡ record w.old {
      store = w.new.store;
      paths = opens w.old.paths path;
      out = w.new.out;
    }

  -- or there is no path, or no memory for it or its reader: a line says so, and that is all
  abbrev pub IsTaken : Option (List ℕ) → Type 0
  IsTaken folder = ((path : List ℕ) × IsPlace w.old.paths folder name (Some path)
      × SubmitsFile path) ⊎ OnlyWrites w (HasNoPath w.old.paths folder name)
