-- The command `export`: what is written, the status, and the store afterwards.
use Rattle.std.specs.Prelude.{◌≡◌, ◌≢◌, ◌⊎◌, ℕ, zero, suc, List, [], slice_get, Option, Some, None}
use Rattle.sqlite_trees.specs.declared.store.Store.{Ghosts}
use Rattle.sqlite.specs.State.{HasCleanDisk}
use Rattle.edf_header.specs.Key.{Key}
use Rattle.edf_holdings.specs.Holdings.{Holdings}
use Rattle.edf_holdings.specs.Keys.{AreKeysOf}
use Rattle.edf_store.specs.Fault.{IsStoreRefusal}
use Rattle.edf_store.specs.Held.{StoreModel, at, Holds, KeepsHoldings}
use Rattle.edf_store.specs.declared.fault.StoreFault.{StoreFault}
use Rattle.edf_store.specs.declared.fault.StoreFault.TheVariants.{Failed}
use Rattle.edf_export.specs.Export.{IsExported, IsNotExported, CountsWriteFault}
use Rattle.edf_export.specs.declared.fault.ExportFault.{ExportFault}
use Rattle.edf_export.specs.declared.fault.ExportFault.TheVariants.{Store}
use Rattle.edf_command.specs.Lines.{no_recording_line, export_refused_line, export_status}
use Rattle.edf_cli.specs.Output.{OutputChange, Gets, IsWritten, Explains}
use Rattle.edf_cli.specs.declared.status.Status.{Status}
use Rattle.edf_cli.specs.declared.status.Status.TheVariants.{Done, Refused}

-- the key at a place of the list, from 1
abbrev pub at_place : List Key → ℕ → Option Key
at_place keys zero = None
at_place keys (suc n) = slice_get keys n

module _ (out err : OutputChange) where
  -- the recording's canonical file was written; or a prefix of it and a line why, or a line alone;
  -- E43 exactly where a write failed
  abbrev pub IsRecordingExported : Holdings → Key → Status → Type 0
  IsRecordingExported h k status =
      (((len : ℕ) × IsExported out.before out.after k (h k) len)
      × (out.failed_after ≡ out.failed_before) × Gets err [] × (status ≡ Done))
      ⊎ ((fault : ExportFault) × IsNotExported out.before out.after k (h k) fault
      × CountsWriteFault out.failed_before out.failed_after fault
      × IsWritten err (export_refused_line fault) (export_status fault) status)

  -- on any disk: it is done, nothing is printed on `err` and no write failed; or why not is
  -- printed, E43 exactly where a write failed. E0, for a fault of an earlier call, is never printed
  abbrev pub ReportsExport : Status → Type 0
  ReportsExport status =
      ((out.failed_after ≡ out.failed_before) × Gets err [] × (status ≡ Done))
      ⊎ ((fault : ExportFault) × (fault ≢ Store Failed)
      × CountsWriteFault out.failed_before out.failed_after fault
      × IsWritten err (export_refused_line fault) (export_status fault) status)

  -- the recording at this place of the list is exported; places count from 1
  pub record ExportsPlace (h : Holdings) (place : ℕ) (status : Status) : Type 0 where
    pub keys : List Key
    pub key : Key
    pub are_keys : AreKeysOf h keys
    pub is_at : at_place keys place ≡ Some key
    pub exported : IsRecordingExported h key status

  -- there is no recording at this place
  pub record HasNoPlace (h : Holdings) (place : ℕ) (status : Status) : Type 0 where
    pub keys : List Key
    pub are_keys : AreKeysOf h keys
    pub none : at_place keys place ≡ None
    pub said : Explains out err (no_recording_line place) Refused status

  -- the store refused to list its recordings
  pub record HasNoList (status : Status) : Type 0 where
    pub fault : StoreFault
    pub is_store_refusal : IsStoreRefusal fault
    pub said : Explains out err (export_refused_line (Store fault)) (export_status (Store fault))
        status

module _ {S : Type 0} (g : Ghosts S) (old new : StoreModel S) (out err : OutputChange) where
  pub record IsPlaceExported (place : ℕ) (status : Status) : Type 0 where
    pub stays : KeepsHoldings g old new
    pub printed : ReportsExport out err status
        ⊎ Explains out err (no_recording_line place) Refused status
    pub exported : HasCleanDisk (at g new) → (h : Holdings) → Holds g old h →
        ExportsPlace out err h place status
        ⊎ (HasNoPlace out err h place status ⊎ HasNoList out err status)
