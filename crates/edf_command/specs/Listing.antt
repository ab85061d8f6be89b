-- The command `list`: what is written, the status, and the store afterwards.
use Rattle.std.specs.Prelude.{◌≡◌, ◌≢◌, ◌⊎◌, Contains, ℕ, List, [], ◌++◌, length}
use Rattle.sqlite_trees.specs.declared.store.Store.{Ghosts}
use Rattle.sqlite.specs.State.{HasCleanDisk}
use Rattle.edf_header.specs.Key.{Key}
use Rattle.edf_holdings.specs.Holdings.{Holdings}
use Rattle.edf_holdings.specs.Keys.{AreKeysOf}
use Rattle.edf_store.specs.Fault.{IsStoreRefusal}
use Rattle.edf_store.specs.Held.{StoreModel, at, Holds, KeepsHoldings}
use Rattle.edf_store.specs.declared.fault.StoreFault.{StoreFault}
use Rattle.edf_store.specs.declared.fault.StoreFault.TheVariants.{Failed}
use Rattle.edf_cli.specs.Text.{IsInstantFormat}
use Rattle.edf_command.specs.Lines.{list_lines, first_list_lines, list_refused_line}
use Rattle.edf_cli.specs.Output.{OutputChange, Gets, IsWritten, AreLinesPrinted}
use Rattle.edf_cli.specs.declared.status.Status.{Status}
use Rattle.edf_cli.specs.declared.status.Status.TheVariants.{Done, Trouble}

-- each of the keys holds a record
abbrev pub AreHeldBy : Holdings → List Key → Type 0
AreHeldBy h keys = (k : Key) → Contains keys k → h k ≢ []

module _ (out err : OutputChange) where
  -- each recording has its line
  pub record ListsAll (h : Holdings) (status : Status) : Type 0 where
    pub keys : List Key
    pub are_keys : AreKeysOf h keys
    pub said : (spell : ℕ → List ℕ) → IsInstantFormat spell →
        AreLinesPrinted out (first_list_lines spell h keys) (length keys) Done status
    pub silent : Gets err []

  -- the store refused after some lines
  pub record StopsListing (h : Holdings) (status : Status) : Type 0 where
    pub given : List Key
    pub fault : StoreFault
    pub is_store_refusal : IsStoreRefusal fault
    pub first : (keys : List Key) → AreKeysOf h keys → (rest : List Key) × (keys ≡ given ++ rest)
    pub written : (spell : ℕ → List ℕ) → IsInstantFormat spell →
        Gets out (list_lines spell h 1 given)
    pub said : IsWritten err (list_refused_line fault) Trouble status

  -- on any disk: it is done, nothing is printed on `err` and no write failed; or a line could not
  -- be written; or why not is printed, and no write failed. E0, for a fault of an earlier call, is
  -- never printed
  abbrev pub ReportsListing : Status → Type 0
  ReportsListing status =
      ((out.failed_after ≡ out.failed_before) × Gets err [] × (status ≡ Done))
      ⊎ ((Gets err [] × (status ≡ Trouble))
      ⊎ ((fault : StoreFault) × (fault ≢ Failed) × (out.failed_after ≡ out.failed_before)
      × IsWritten err (list_refused_line fault) Trouble status))

module _ {S : Type 0} (g : Ghosts S) (old new : StoreModel S) (out err : OutputChange) where
  pub record AreRecordingsListed (status : Status) : Type 0 where
    pub stays : KeepsHoldings g old new
    pub printed : ReportsListing out err status
    pub listed : HasCleanDisk (at g new) → (h : Holdings) → Holds g old h →
        ListsAll out err h status ⊎ StopsListing out err h status
