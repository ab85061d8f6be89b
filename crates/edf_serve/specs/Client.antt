-- Who is answered, and what is so when that is done.
use Rattle.std.specs.Prelude.{◌≡◌, ℕ, Bool, true, false, List, ◌∷◌, [], ◌++◌, codes, decimal}
use Rattle.std.specs.Prelude.{Option, Ok}
use Rattle.sqlite_trees.specs.declared.store.Store.{Ghosts}
use Rattle.sqlite.specs.State.{HasCleanDisk}
use Rattle.edf_fragment.specs.Call.{InputState}
use Rattle.edf_fragment.specs.Failures.{saturating_increment}
use Rattle.edf_store.specs.Held.{StoreModel, at}
use Rattle.edf_intake.specs.Submitted.{IsSubmitAnswer}
use Rattle.edf_intake.specs.declared.answer.Receipt.{Receipt}
use Rattle.edf_cli.specs.Output.{IsPut}
use Rattle.edf_cli.specs.Status.{exit_code}
use Rattle.edf_cli.specs.declared.status.Status.{Status}

-- the line that ends an answer
abbrev pub status_line : Status → List ℕ
status_line status = codes "status " ++ (decimal (exit_code status) ++ (10 ∷ []))

-- what was written to a client so far, and how much of that it got, where they are known; and how
-- many writes failed
pub record Heard : Type 0 where
  pub contents : Option (List ℕ)
  pub sent : Option (List ℕ)
  pub failed : ℕ

-- an answer went out to it, whole, and none of it is kept back, or as far as a write failed
abbrev pub GetsAnswer : Heard → Heard → List ℕ → Bool → Type 0
GetsAnswer old new text is_out = (is_out ≡ true → new.sent ≡ new.contents) × IsPut (record {
  before = old.contents;
  failed_before = old.failed;
  after = new.contents;
  failed_after = new.failed;
}) text is_out

-- how often it was asked whether the store's path stands for its files, and that was so, or was not
abbrev pub Looks : Type 0
Looks = ℕ × ℕ

abbrev pub looked : Looks → Bool → Looks
looked looks true = (saturating_increment looks.0, looks.1)
looked looks false = (looks.0, saturating_increment looks.1)

module _ {S : Type 0} (g : Ghosts S) where
  -- no transaction is open, on a disk that returned what was written
  abbrev pub IsIdle : StoreModel S → Type 0
  IsIdle store = HasCleanDisk (at g store) → (at g store).in_transaction ≡ false

  -- the store is as the submission left it that was answered by this receipt
  pub record HasAccepted (store : StoreModel S) (receipt : Receipt) : Type 0 where
    pub old : StoreModel S
    pub from : InputState
    pub to : InputState
    pub submitted : IsSubmitAnswer g old store from to (Ok receipt)
