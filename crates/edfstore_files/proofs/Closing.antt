-- A store that is closed: its log is copied into the database file, or that fails for a cause.
use Rattle.std.proofs.Common.{◌≡◌, ◌⊎◌, ◌≤◌, false, IsTrue, Option, Some, IfSome, inl, inr, refl}
use Rattle.std.proofs.Common.{sym, subst, arith}
use Rattle.std.proofs.lemmas.Bool.{cases_Bool, both_ways}
use Rattle.sqlite_disk.specs.declared.Disk.{Ghosts}
use Rattle.sqlite_disk.specs.declared.Files.{Files}
use Rattle.sqlite_disk.specs.Disk.{MoreFaults}
use Rattle.sqlite_trees.specs.declared.error.StoreError.{StoreError}
use Rattle.sqlite_trees.specs.declared.error.StoreError.TheVariants.{OutOfMemory, Io, Corrupt, Full}
use Rattle.sqlite_trees.specs.declared.error.StoreError.TheVariants.{Broken, Unstorable}
use Rattle.sqlite_trees.specs.View.{View, IsClean, HasCause, Tells}
use Rattle.sqlite_store.specs.declared.store.FileStore.{FileStore}
use Rattle.sqlite_store.specs.FileStore.{view, faults, blamed, files as store_files}
use Rattle.sqlite.specs.Held.{Held}
use Rattle.sqlite.specs.State.{store_error}
use Rattle.sqlite.specs.Files.{IsClosed, ExcusesClose, FailsToClose}
use Rattle.sqlite.specs.declared.error.Error.{Error}
use Rattle.sqlite.specs.declared.error.Error.TheVariants.{SqliteFailure}
use Rattle.sqlite.specs.declared.error.ErrorCode.TheVariants.{Closed}
use Rattle.edfstore_files.specs.Close.{AreReleased}

-- only a store that was broken tells that it is closed
pub broken_cause : (v : View) (fault large : Type 0) (e : StoreError) →
    store_error e ≡ SqliteFailure Closed → HasCause v fault large e → IsTrue v.is_broken
broken_cause v fault large Broken is cause = cause
broken_cause v fault large e is cause = absurd (cc)

module _ {D : Type 0} {g : Ghosts D} (c : Held (FileStore D g)) (before last : FileStore D g)
    (up : faults c.store ≤ faults before) (more : faults before ≤ faults last)
    (closes : IsTrue (view c.store).is_open →
    IsTrue (view before).is_open ⊎ MoreFaults (faults c.store) (faults before))
    (mended : IsTrue (view before).is_open → (view before).is_broken ≡ false) where
  pub excused : (e : StoreError) →
      HasCause (view before) (MoreFaults (faults before) (faults last)) ⊥ e → ExcusesClose c last e
  excused OutOfMemory cause = tt
  excused Io cause = omega arith
  excused Corrupt cause = omega arith
  excused Full cause = omega arith
  excused Unstorable cause = cause
  excused Broken cause = elim (cases_Bool (view c.store).is_open) [
    | inl was ↦ elim (closes was) [
      | inl still ↦ absurd (both_ways _ (mended still) cause)
      | inr fault ↦ inr (omega arith)
    ]
    | inr shut ↦ inl shut
  ]

-- the files of a store that could not be copied
pub failed_as : {D : Type 0} {g : Ghosts D} (c : Held (FileStore D g)) (last : FileStore D g)
    (files : Files D) (failure : Option Error) (e : StoreError) →
    failure ≡ Some (store_error e) → (files.log, files.db) ≡ store_files last → IsClosed c last →
    (IsClean (view last) → ExcusesClose c last e) → Tells (blamed last) e →
    AreReleased c failure files
failed_as c last files failure e is same closed excuse tells = record {
  store = last;
  store_is = sym same;
  quiet = closed;
  cause = subst (λ (o : Option Error). IfSome o (λ x. IsClean (view last) → FailsToClose c last x))
      (sym is) (λ none. (e, refl, excuse none, tells));
}
