-- A store in memory is empty as it is made, and is refused only for a cause.
use Rattle.std.proofs.Common.{◌≡◌, ◌≢◌, Some, None, Result, Ok, Err, IfOk, IfErr, refl, ap}
use Rattle.sqlite_trees.specs.declared.memory.MemStore.{MemStore}
use Rattle.sqlite_trees.specs.View.{doubt}
use Rattle.sqlite.specs.Held.{Held, state}
use Rattle.sqlite.specs.State.{HasCleanDisk}
use Rattle.sqlite.specs.Steps.{over_memory, IsEmpty}
use Rattle.edf_header.specs.declared.limits.TheConstants.{MOST_RECORDS}
use Rattle.edf_rows.specs.File.{IsForeignFile}
use Rattle.edf_holdings.specs.Holdings.{nothing_held}
use Rattle.edf_store.specs.Fault.{HasCause, HasCauseOrIsForeign}
use Rattle.edf_store.specs.Held.{StoreModel}
use Rattle.edf_store.specs.Open.{IsOpened, IsDropped, DiskStaysClean}
use Rattle.edf_store.specs.declared.fault.StoreFault.{StoreFault}
use Rattle.edf_store.specs.declared.fault.StoreFault.TheVariants.{Memory, Store, Foreign, Failed}
use Rattle.edfstore_files.specs.Files.{no_table}
use Rattle.edfstore_files.proofs.Keeping.{opened_holds, kept_is_own}
use Rattle.edfstore_open.specs.InMemory.{IsEmptyStore}

pub stays_clean : (conn : Held MemStore) → HasCleanDisk (state over_memory conn)
unfolding doubt
stays_clean conn = refl

pub empty_store : {E : Type 0} (conn : Held MemStore) (result : Result (StoreModel MemStore) E) →
    IsEmpty (state over_memory conn) → IfOk result (λ store. store.cap ≡ MOST_RECORDS) →
    IfOk result (IsOpened over_memory conn) → IfOk result IsEmptyStore
empty_store conn (Ok store) empty cap opened = record {
  cap_is = cap;
  empty = opened_holds over_memory conn store opened nothing_held (no_table empty.2 refl);
  is_open = opened.is_open (stays_clean store.connection);
  idle = opened.idle (stays_clean store.connection);
}
empty_store conn (Err fault) empty cap opened = tt

not_foreign : (fault : StoreFault) → HasCauseOrIsForeign fault → fault ≢ Foreign → HasCause fault
not_foreign Memory why other = why
not_foreign (Store (Some error)) why other = why
not_foreign (Store None) why other = why
not_foreign Foreign why other = absurd (other refl)
not_foreign Failed why other = why

pub refused_for_cause : (conn : Held MemStore)
    (result : Result (StoreModel MemStore) StoreFault) → IsEmpty (state over_memory conn) →
    IfErr result (IsDropped over_memory conn MOST_RECORDS) →
    (DiskStaysClean over_memory conn → result ≡ Err Foreign →
    IsForeignFile MOST_RECORDS (state over_memory conn).now) → IfErr result HasCause
refused_for_cause conn (Ok store) empty given foreign = tt
refused_for_cause conn (Err fault) empty given foreign = not_foreign fault given.1.why
    (λ is. kept_is_own MOST_RECORDS (state over_memory conn).now nothing_held
    (no_table empty.2 refl) (foreign (λ end _. stays_clean end) (ap Err is)))
