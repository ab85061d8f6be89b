-- A part of the check that is done or fails, in the one word for both.
use Rattle.std.proofs.Common.{◌≡◌, Result, Ok, Err}
use Rattle.sqlite.specs.declared.error.Error.{Error}
use Rattle.sqlite.specs.Held.{Held, state}
use Rattle.sqlite.specs.State.{HasCleanDisk}
use Rattle.sqlite_trees.specs.declared.store.Store.{Ghosts}
use Rattle.edf_tables.specs.Statement.{IsCrashSafe}
use Rattle.edf_rows.specs.Inside.Checked.{KeepsRows, KeepsShown, OnlyChecks}

module _ {S X : Type 0} (g : Ghosts S) (old new : Held S) where
  pub done : (x : X) → (HasCleanDisk (state g new) → KeepsRows (state g old) (state g new)) →
      IsCrashSafe g old new → OnlyChecks g old new (Ok x)
  done x same survives = record {
    same = same;
    refused = λ clean. tt;
    survives = survives;
  }

  -- the error of the call that failed is handed on
  pub failed : (r : Result X Error) (e : Error) → (x : Error) × (r ≡ Err x) × (x ≡ e) →
      (HasCleanDisk (state g new) → KeepsShown (state g old) (state g new)) →
      IsCrashSafe g old new → OnlyChecks g old new r
  failed r e told refused survives = rw (told.1, told.2) (record {
    same = λ clean. tt;
    refused = refused;
    survives = survives;
  })
