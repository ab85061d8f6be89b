-- The command `take`: what is written, the status, and the store afterwards.
use Rattle.std.specs.Prelude.{◌≡◌, ◌⊎◌, ℕ, List, [], ◌++◌, length, map, Option}
use Rattle.sqlite_trees.specs.declared.store.Store.{Ghosts}
use Rattle.edf_fragment.specs.Call.{InputState}
use Rattle.edf_store.specs.Held.{StoreModel}
use Rattle.edf_intake.specs.Refusal.{Answer}
use Rattle.edf_intake.specs.Batch.{AreSubmitted, AnswersAreReplies}
use Rattle.edf_cli.specs.Text.{IsInstantFormat}
use Rattle.edf_command.specs.Lines.{first_take_lines, take_status, take_memory_line}
use Rattle.edf_cli.specs.Output.{OutputChange, Gets, AreLinesPrinted, Explains}
use Rattle.edf_cli.specs.declared.status.Status.{Status}
use Rattle.edf_cli.specs.declared.status.Status.TheVariants.{Trouble}

-- just the first of these names were opened, each once, in their order
pub record OpensPrefix (before after names : List (List ℕ)) : Type 0 where
  pub prefix : List (List ℕ)
  pub remaining : List (List ℕ)
  pub parts : names ≡ prefix ++ remaining
  pub opened : after ≡ before ++ prefix

-- just these names were opened, each once, in their order; or, with status 3, the first of them
abbrev pub HasOpened : List (List ℕ) → List (List ℕ) → List (List ℕ) → Status → Type 0
HasOpened before after names status = (after ≡ before ++ names)
    ⊎ (OpensPrefix before after names × (status ≡ Trouble))

module _ {S : Type 0} (g : Ghosts S) (old new : StoreModel S) (out err : OutputChange) where
  -- the files' bytes were submitted in turn, and each has its line
  pub record TakesFiles (bytes : List ℕ → Option (List ℕ)) (names : List (List ℕ))
      (status : Status) : Type 0 where
    pub froms : List InputState
    pub tos : List InputState
    pub answers : List Answer
    pub opened : map (λ (f : InputState). f.remaining) froms ≡ map bytes names
    pub submitted : AreSubmitted g old new froms tos answers
    pub answered : AnswersAreReplies g old new froms answers
    pub said : (spell : ℕ → List ℕ) → IsInstantFormat spell →
        AreLinesPrinted out (first_take_lines spell names answers) (length answers)
        (take_status answers)
        status
    pub silent : Gets err []

  -- the files are taken; or memory ran out for the readers or answers, and none was submitted
  abbrev pub IsTaken : (List ℕ → Option (List ℕ)) → List (List ℕ) → Status → Type 0
  IsTaken bytes names status = TakesFiles bytes names status
      ⊎ ((new ≡ old) × Explains out err take_memory_line Trouble status)
