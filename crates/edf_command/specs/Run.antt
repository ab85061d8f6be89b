-- A command: what is written, the status, and the store afterwards.
use Rattle.std.specs.Prelude.{◌≡◌, ◌⊎◌, ℕ, List, [], ◌∷◌, Option, Ok, Err}
use Rattle.sqlite_trees.specs.declared.store.Store.{Ghosts}
use Rattle.sqlite.specs.State.{HasCleanDisk}
use Rattle.edf_fragment.specs.Call.{InputState}
use Rattle.edf_holdings.specs.Holdings.{Holdings}
use Rattle.edf_store.specs.Held.{StoreModel, at, Holds, KeepsHoldings}
use Rattle.edf_intake.specs.Refusal.{refusal_number}
use Rattle.edf_intake.specs.Submitted.{IsSubmitAnswer}
use Rattle.edf_intake.specs.declared.answer.Receipt.{Receipt}
use Rattle.edf_intake.specs.declared.answer.Refusal.{Refusal}
use Rattle.edf_command.specs.Arguments.{Request}
use Rattle.edf_command.specs.Arguments.Request.{take, list, export, convert}
use Rattle.edf_cli.specs.Text.{IsInstantFormat}
use Rattle.edf_command.specs.Lines.{refused_file_line}
use Rattle.edf_command.specs.Taking.{IsTaken}
use Rattle.edf_command.specs.Listing.{AreRecordingsListed}
use Rattle.edf_command.specs.Exporting.{IsRecordingExported, ReportsExport, IsPlaceExported}
use Rattle.edf_cli.specs.Status.{status_of_number}
use Rattle.edf_cli.specs.Text.{memory_line}
use Rattle.edf_cli.specs.Output.{OutputChange, Gets, IsLinePrinted, Explains}
use Rattle.edf_cli.specs.declared.status.Status.{Status}
use Rattle.edf_cli.specs.declared.status.Status.TheVariants.{Trouble}

-- the files that a command names, in the order of the words
abbrev pub files_of : Request → List (List ℕ)
files_of (take store files) = files
files_of (list store) = []
files_of (export store place) = []
files_of (convert file) = file ∷ []

module _ {S : Type 0} (g : Ghosts S) (old new : StoreModel S) (out err : OutputChange) where
  -- ---- convert

  -- the file was refused
  pub record RefusesFile (bytes : Option (List ℕ)) (name : List ℕ) (status : Status) : Type 0 where
    pub from : InputState
    pub to : InputState
    pub refusal : Refusal
    pub opened : from.remaining ≡ bytes
    pub submitted : IsSubmitAnswer g old new from to (Err refusal)
    pub said : (spell : ℕ → List ℕ) → IsInstantFormat spell →
        Gets out [] × IsLinePrinted err (refused_file_line spell name refusal)
        (status_of_number (refusal_number refusal)) status

  -- the file was accepted, and the canonical file of its recording was exported
  pub record ConvertsFile (bytes : Option (List ℕ)) (status : Status) : Type 0 where
    pub from : InputState
    pub to : InputState
    pub receipt : Receipt
    pub mid : StoreModel S
    pub opened : from.remaining ≡ bytes
    pub submitted : IsSubmitAnswer g old mid from to (Ok receipt)
    pub stays : KeepsHoldings g mid new
    pub printed : ReportsExport out err status
    pub exported : HasCleanDisk (at g new) → (h : Holdings) → Holds g mid h →
        IsRecordingExported out err h receipt.identity status

  -- the file is converted or refused, or there was no memory for the reader
  abbrev pub IsConverted : Option (List ℕ) → List ℕ → Status → Type 0
  IsConverted bytes name status = ConvertsFile bytes status
      ⊎ (RefusesFile bytes name status
      ⊎ ((new ≡ old) × Explains out err (memory_line name) Trouble status))

  -- ---- all four

  abbrev pub IsDone : (List ℕ → Option (List ℕ)) → Request → Status → Type 0
  IsDone bytes (take store files) status = IsTaken g old new out err bytes files status
  IsDone bytes (list store) status = AreRecordingsListed g old new out err status
  IsDone bytes (export store place) status = IsPlaceExported g old new out err place status
  IsDone bytes (convert file) status = IsConverted (bytes file) file status
