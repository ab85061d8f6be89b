-- An export: the canonical file of what is held under a key is written, or a prefix of it.
use Rattle.std.specs.Prelude.{◌≡◌, ◌≢◌, ℕ, false, List, [], ◌∷◌, length, codes, Option, None}
use Rattle.std.specs.Prelude.{Result, Err, MatchResult}
use Rattle.std.specs.Io.KnownBytes.{Appends, Keeps}
use Rattle.sqlite_trees.specs.declared.store.Store.{Ghosts}
use Rattle.sqlite.specs.State.{State, HasCleanDisk}
use Rattle.edf_header.specs.Key.{Key}
use Rattle.edf_fragment.specs.Failures.{saturating_increment}
use Rattle.edf_fragment.specs.Fragment.{DataRecord}
use Rattle.edf_store.specs.Call.{IsBusy}
use Rattle.edf_store.specs.Fault.{number, store_fault_name, IsStoreRefusal}
use Rattle.edf_store.specs.Held.{StoreModel, at, KeepsHoldings}
use Rattle.edf_store.specs.declared.fault.StoreFault.TheVariants as store
use Rattle.edf_canonical.specs.File.{IsCanonicalFile}
use Rattle.edf_canonical.specs.Output.{WritesPrefix}
use Rattle.edf_export.specs.declared.fault.ExportFault.{ExportFault}
use Rattle.edf_export.specs.declared.fault.ExportFault.TheVariants.{NoRecording, Store, Memory}
use Rattle.edf_export.specs.declared.fault.ExportFault.TheVariants.{Write}

-- ---- the answer, for use where the disk returned what was written

-- the canonical file of the records was written, the only one that they have, with this length
pub record IsExported (before after : Option (List ℕ)) (k : Key) (records : List DataRecord)
    (len : ℕ) : Type 0 where
  pub file : List ℕ
  pub canonical : IsCanonicalFile file k records
  pub only : (other : List ℕ) → IsCanonicalFile other k records → other ≡ file
  pub wrote : Appends before after file
  pub len_is : len ≡ length file

-- the records have a canonical file, of which a prefix was written
pub record WritesPrefixOfFile (before after : Option (List ℕ)) (k : Key)
    (records : List DataRecord) : Type 0 where
  pub file : List ℕ
  pub canonical : IsCanonicalFile file k records
  pub wrote : WritesPrefix before after file

-- if the records have a canonical file, a prefix of it was written; without records nothing was
abbrev pub WritesPrefixIfFile : Option (List ℕ) → Option (List ℕ) → Key → List DataRecord → Type 0
WritesPrefixIfFile before after k [] = Keeps before after
WritesPrefixIfFile before after k (r ∷ rs) = (file : List ℕ) → IsCanonicalFile file k (r ∷ rs) →
    WritesPrefix before after file

-- Each fault says what was written, and of which records: there are none at `NoRecording`, and some
-- where a write failed. The store refuses with E41 or E42, and never with E45.
abbrev pub IsNotExported : Option (List ℕ) → Option (List ℕ) → Key → List DataRecord → ExportFault →
    Type 0
IsNotExported before after k records NoRecording = (records ≡ []) × Keeps before after
IsNotExported before after k records (Store fault) = WritesPrefixIfFile before after k records
    × IsStoreRefusal fault
IsNotExported before after k records Memory = WritesPrefixIfFile before after k records
IsNotExported before after k records Write = WritesPrefixOfFile before after k records

-- ---- the answer, for use on any disk

-- the count of failed writes is one more where the fault is `Write`, and else the same
abbrev pub CountsWriteFault : ℕ → ℕ → ExportFault → Type 0
CountsWriteFault old new NoRecording = new ≡ old
CountsWriteFault old new (Store fault) = new ≡ old
CountsWriteFault old new Memory = new ≡ old
CountsWriteFault old new Write = new ≡ saturating_increment old

abbrev pub CountsWriteFailures : ℕ → ℕ → Result ℕ ExportFault → Type 0
CountsWriteFailures old new result =
    MatchResult result (λ len. new ≡ old) (CountsWriteFault old new)

-- failed writes are counted, `NoRecording` wrote nothing, and the fault is none of an earlier call
pub record ReportsWriteFailures (before after : Option (List ℕ)) (failed_before failed_after : ℕ)
    (result : Result ℕ ExportFault) : Type 0 where
  pub counted : CountsWriteFailures failed_before failed_after result
  pub nothing : result ≡ Err NoRecording → Keeps before after
  pub unfailed : result ≢ Err (Store store.Failed)

-- ---- the store

-- no transaction is open after a file, nor after a fault that is not the store's
abbrev pub IsOutsideTransactionAfterFault : State → ExportFault → Type 0
IsOutsideTransactionAfterFault s NoRecording = s.in_transaction ≡ false
IsOutsideTransactionAfterFault s (Store fault) = Unit {0}
IsOutsideTransactionAfterFault s Memory = s.in_transaction ≡ false
IsOutsideTransactionAfterFault s Write = s.in_transaction ≡ false

abbrev pub IsOutsideTransactionAfterExport : {A : Type 0} → State → Result A ExportFault → Type 0
IsOutsideTransactionAfterExport s result =
    MatchResult result (λ _. s.in_transaction ≡ false) (IsOutsideTransactionAfterFault s)

module _ {S A : Type 0} (g : Ghosts S) (old new : StoreModel S) (result : Result A ExportFault)
  where
    -- holdings are unchanged; on a clean disk no transaction is open, unless the store refused
    pub record KeepsStore : Type 0 where
      pub stays : KeepsHoldings g old new
      pub idle : HasCleanDisk (at g new) → IsOutsideTransactionAfterExport (at g new) result

    -- the answer is E42 without a cause where the connection was in a transaction, on any disk; and
    -- only there, where the disk returned what was written
    pub record ReportsBusy : Type 0 where
      pub busy : IsBusy g old → result ≡ Err (Store (store.Store None))
      pub caused : HasCleanDisk (at g new) → result ≡ Err (Store (store.Store None)) → IsBusy g old

-- ---- faults

abbrev pub export_fault_number : ExportFault → ℕ
export_fault_number NoRecording = 44
export_fault_number (Store fault) = number fault
export_fault_number Memory = 41
export_fault_number Write = 43

-- a fault of the store has its own name
abbrev pub export_fault_name : ExportFault → List ℕ
export_fault_name NoRecording = codes "NoRecording"
export_fault_name (Store fault) = store_fault_name fault
export_fault_name Memory = codes "Memory"
export_fault_name Write = codes "Write"
