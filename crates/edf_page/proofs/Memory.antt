-- A store in memory: its disk returns what was written, and it is empty as it is made.
use Rattle.std.proofs.Common.{◌≡◌, Result, Ok, Err, IfOk, refl}
use Rattle.sqlite_trees.specs.declared.memory.MemStore.{MemStore}
use Rattle.sqlite_trees.specs.View.{doubt}
use Rattle.sqlite.specs.Held.{Held, state}
use Rattle.sqlite.specs.State.{HasCleanDisk}
use Rattle.sqlite.specs.Steps.{over_memory, IsEmpty}
use Rattle.edf_header.specs.declared.limits.TheConstants.{MOST_RECORDS}
use Rattle.edf_holdings.specs.Holdings.{nothing_held}
use Rattle.edf_store.specs.Held.{StoreModel}
use Rattle.edf_store.specs.Open.{IsOpened}
use Rattle.edfstore_files.specs.Files.{no_table}
use Rattle.edfstore_files.proofs.Keeping.{opened_holds}
use Rattle.edf_page.specs.Inside.{HasIn}

pub stays_clean : (conn : Held MemStore) → HasCleanDisk (state over_memory conn)
unfolding doubt
stays_clean conn = refl

pub empty_store : {E : Type 0} (conn : Held MemStore) (result : Result (StoreModel MemStore) E) →
    IsEmpty (state over_memory conn) → IfOk result (λ store. store.cap ≡ MOST_RECORDS) →
    IfOk result (IsOpened over_memory conn) → IfOk result (λ store. HasIn store nothing_held)
empty_store conn (Ok store) empty cap opened = record {
  cap_is = cap;
  holds = opened_holds over_memory conn store opened nothing_held (no_table empty.2 refl);
}
empty_store conn (Err fault) empty cap opened = tt
