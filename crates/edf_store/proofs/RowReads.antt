-- What functions leave that only read, one and one after the other.
use Rattle.std.proofs.Common.{ℕ, Result, Ok, Err, IsErrAnd, subst, sym, arith}
use Rattle.sqlite_trees.specs.declared.store.Store.{Ghosts}
use Rattle.sqlite.specs.Held.{Held, state}
use Rattle.sqlite.specs.State.{HasCleanDisk, Survives, KeepsCommit, IsUnchanged}
use Rattle.edf_store.specs.Held.{StoreModel, at, KeepsHoldings}
use Rattle.edf_store.specs.Transaction.{SeesSome, StillSees}
use Rattle.edf_store.specs.Inside.Rows.{ReadsRows}
use Rattle.edf_store.proofs.Faults.{on_ok}
use Rattle.edf_store.proofs.Held.{sees_on}
use Rattle.edf_store.proofs.Readiness.{stays_so, stays_then}
use Rattle.edf_store.proofs.Short.{sees_twice, none_twice}
use Rattle.edf_store.proofs.Steps.{none_made}

module _ {S : Type 0} (g : Ghosts S) where
  pub reads_refused : {X E : Type 0} (Q : E → Type 0) (old new : StoreModel S) (r : Result X E) →
      IsErrAnd r Q → KeepsHoldings g old new → ReadsRows g old new r
  reads_refused Q old new (Ok x) is stays = absurd is
  reads_refused Q old new (Err e) is stays = record { stays = stays; same = tt; only = tt }

  pub reads_rows : {X E : Type 0} (cap : ℕ) (old new : Held S) (r : Result X E) →
      Survives (state g old) (state g new) (λ _. ⊥) →
      (HasCleanDisk (state g new) → KeepsCommit (state g old) (state g new)) →
      (HasCleanDisk (state g new) → IsUnchanged (state g old) (state g new)) →
      SeesSome cap (state g old) → ReadsRows g (record { connection = old; cap = cap })
      (record { connection = new; cap = cap }) r
  reads_rows cap old new r survives keeps same sees = record {
    stays = stays_so g cap old new survives keeps;
    same = on_ok r (sees_on cap (state g old) (state g new) _ survives same sees);
    only = on_ok r (none_made (state g old) (state g new) same);
  }

  pub reads_then : {X Y Z D E F : Type 0} (a b c : StoreModel S) (x : X) (y : Y) (r : Result Z F) →
      ReadsRows g {E = D} a b (Ok x) → ReadsRows g {E = E} b c (Ok y) → ReadsRows g a c r
  reads_then a b c x y r p q = record {
    stays = stays_then g a b c p.stays q.stays;
    same = on_ok r (sees_twice c.cap (at g a) (at g b) (at g c)
        (subst (λ (n : ℕ). StillSees n (at g a) (at g b)) (sym q.stays.cap) p.same) q.same);
    only = on_ok r (none_twice (at g a) (at g b) (at g c)
        (λ clean. omega (arith, q.stays.crash.clean)) p.only q.only);
  }
