-- The check of a row of `recording` changes no row, and counts the recording's records.
use Rattle.std.specs.Prelude.{◌≡◌, ◌⊎◌, [], ◌∷◌, ℕ, false, Option, Some, None, Contains, length}
use Rattle.std.specs.Prelude.{Result, IsTrue}
use Rattle.sqlite.specs.declared.error.Error.{Error}
use Rattle.sqlite.specs.Held.{Held}
use Rattle.sqlite.specs.Order.{Row}
use Rattle.sqlite.specs.Tree.{Trees}
use Rattle.sqlite.specs.State.{State, KeepsCommit}
use Rattle.sqlite_trees.specs.declared.store.Store.{Ghosts}
use Rattle.edf_tables.specs.Statement.{ChangesOnOk, ChangesOnErr, IsCrashSafe}
use Rattle.edf_tables.specs.Columns.{the_id, the_identity}
use Rattle.edf_rows.specs.Cells.{recordings_in, records_in}
use Rattle.edf_rows.specs.Foreign.{IsForeign}
use Rattle.edf_rows.specs.Inside.Shape.{HasRecords}

-- the rows are as they were, nothing was committed, and no transaction began or ended
pub record KeepsRows (old new : State) : Type 0 where
  pub now_is : new.now ≡ old.now
  pub commit : KeepsCommit old new
  pub mode : new.in_transaction ≡ old.in_transaction
  pub stays : IsTrue old.is_open → IsTrue new.is_open

-- nothing was committed and no transaction began; while the connection is open, what is shown is as
-- it was, or is what is committed and no transaction is open
pub record KeepsShown (old new : State) : Type 0 where
  pub commit : KeepsCommit old new
  pub shown : IsTrue new.is_open → (new.now ≡ old.now)
      ⊎ ((new.now ≡ new.committed) × (new.in_transaction ≡ false))
  pub mode : IsTrue new.in_transaction → IsTrue old.in_transaction

-- a part of the check reads and changes no row: on success the rows are as they were; on failure
-- what is committed stays; a crash after it finds nothing committed by it
pub record OnlyChecks {S X : Type 0} (g : Ghosts S) (old new : Held S) (result : Result X Error) :
    Type 0 where
  pub same : ChangesOnOk g old new result KeepsRows
  pub refused : ChangesOnErr g old new result KeepsShown
  pub survives : IsCrashSafe g old new

-- the check reads these two cells of a row
abbrev pub first_two : Row → Row
first_two row = the_id row ∷ the_identity row ∷ []

-- `Some count`: the row is of a recording with `count` records; `None`: the rows are foreign
abbrev pub ChecksRow : ℕ → Trees → Row → Option ℕ → Type 0
ChecksRow cap trees row None = Contains (recordings_in trees) row → IsForeign cap trees
ChecksRow cap trees row (Some count) = Contains (recordings_in trees) row →
    (has : HasRecords cap trees row) × (count ≡ length (records_in trees has.id))
