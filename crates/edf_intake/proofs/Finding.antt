-- A recording that was found or made, and how much room it has.
use Rattle.std.proofs.Common.{◌≡◌, ℕ, ℤ, ◌+◌, ◌-◌, ◌≤◌, true, length, Ok, sym, inl, inr}
use Rattle.std.proofs.Common.{leb-true, arith}
use Rattle.sqlite_trees.specs.declared.store.Store.{Ghosts}
use Rattle.sqlite.specs.State.{HasCleanDisk}
use Rattle.edf_header.specs.Key.{Key}
use Rattle.edf_holdings.specs.Holdings.{Holdings}
use Rattle.edf_store.specs.Held.{StoreModel, at, KeepsHoldings}
use Rattle.edf_store.specs.Transaction.{Sees, AddsNoRecording, AddsOnlyRecording, IsCountOf}
use Rattle.edf_store.specs.Transaction.{IsCapacityAnswer}
use Rattle.edf_store.specs.StoreTx.{ReadsInTransaction}
use Rattle.edf_store.specs.declared.fault.StoreFault.{StoreFault}
use Rattle.edf_store.specs.declared.transaction.StoreTx.{StoreTx}
use Rattle.edf_intake.specs.Inside.Transaction.{IsRunningFor}
use Rattle.edf_intake.specs.Inside.Verdict.{IsSpareInTransaction}
use Rattle.edf_intake.proofs.Taking.{seen_before}

pub at_most : {S : Type 0} (g : Ghosts S) (key : Key) (a b c : StoreModel S) → KeepsHoldings g b c →
    AddsOnlyRecording g key a b → AddsNoRecording g b c → AddsOnlyRecording g key a c
at_most g key a b c stays most none clean id k there =
    most (omega (arith, stays.crash.clean)) id k (none clean id k there)

module _ {S : Type 0} (g : Ghosts S) (old new : StoreTx S) (id : ℤ) (key : Key)
    (running : IsRunningFor g old id key) {X : Type 0} (x : X) (Why : StoreFault → Type 0)
    (read : ReadsInTransaction g old new (Ok x) Why) where
  seen_first : HasCleanDisk (at g new.store.now) → (h : Holdings) → Sees g new.store.now h →
      Sees g old.store.now h
  seen_first = seen_before g old.store.now new.store.now read.stays running.running read.same

  -- room for the number that was asked for
  pub room_now : (more : ℕ) → (HasCleanDisk (at g new.store.now) →
      IsCapacityAnswer g old.store.now id more true) → IsSpareInTransaction g new key more more
  room_now more tells clean h seen =
      let fits : length (h key) + more ≤ old.store.now.cap =
      leb-true (length (h key) + more) old.store.now.cap
      (sym (tells clean h key (seen_first clean h seen) running.recording)) in
      record { fits = omega (arith, fits, read.stays.cap); enough = inr (omega arith) }

  -- or all that there is
  pub room_left : (asked cap held spare : ℕ) → cap ≡ old.store.now.cap →
      (HasCleanDisk (at g new.store.now) → IsCountOf g old.store.now id held) →
      spare ≡ cap - held → IsSpareInTransaction g new key asked spare
  room_left asked cap held spare capped counts is clean h seen =
      let count : held ≡ length (h key) =
      counts clean h key (seen_first clean h seen) running.recording in
      let few : length (h key) ≤ new.store.now.cap = (seen clean).sound.within_cap key in
      record {
        fits = omega (arith, count, few, is, capped, read.stays.cap);
        enough = inl (omega (arith, count, few, is, capped, read.stays.cap));
      }
