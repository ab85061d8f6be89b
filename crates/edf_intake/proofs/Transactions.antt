-- The calls of a transaction, one after another.
use Rattle.std.proofs.Common.{◌≡◌, Result, Ok, Err, refl, sym, subst, ◌∙◌, rules}
use Rattle.std.specs.Result.{IsErrAnd}
use Rattle.sqlite_trees.specs.declared.store.Store.{Ghosts}
use Rattle.edf_store.specs.Held.{StoreModel, KeepsHoldings}
use Rattle.edf_store.specs.Fault.{HasCause}
use Rattle.edf_store.specs.StoreTx.{IsRunning, KeepsTransaction, ReadsInTransaction}
use Rattle.edf_store.specs.declared.fault.StoreFault.{StoreFault}
use Rattle.edf_store.specs.declared.transaction.StoreTx.{StoreTx}
use Rattle.edf_store.proofs.Readiness.{stays_then}
use Rattle.edf_intake.specs.Inside.Transaction.{KeepsRunning}
use Rattle.edf_intake.proofs.Taking.{no_more, sees_on, sees_then}

-- what holds of a fault holds of what the question mark makes of it
pub passed_on : {X E : Type 0} (r : Result X E) (fault : E) (P : Result X E → Type 0) →
    IsErrAnd r (λ e. e ≡ fault) → P (Err fault) → P r
passed_on (Ok x) fault P is p = absurd is
passed_on {X} {E} (Err e) fault P is p = subst (λ (f : E). P (Err f)) (sym is) p

module _ {S : Type 0} (g : Ghosts S) where
  pub stays_here : (store : StoreModel S) → KeepsHoldings g store store
  stays_here store = search rules

  -- no call at all
  pub reads_none : {X : Type 0} (tx : StoreTx S) (Why : StoreFault → Type 0) (x : X) →
      IsRunning g tx → ReadsInTransaction g tx tx (Ok x) Why
  reads_none tx Why x running = record {
    same_reference = refl;
    stays = stays_here tx.store.now;
    running = running;
    same = sees_on g tx.store.now running;
    only = λ clean id k there. there;
    why = tt;
  }

  -- one call, and another answer
  pub reads_as : {X Y : Type 0} (a b : StoreTx S) (Why : StoreFault → Type 0) (x : X) (y : Y) →
      ReadsInTransaction g a b (Ok x) Why → ReadsInTransaction g a b (Ok y) Why
  reads_as a b Why x y p = record {
    same_reference = p.same_reference;
    stays = p.stays;
    running = p.running;
    same = p.same;
    only = p.only;
    why = tt;
  }

  -- one call that is refused
  pub reads_refused : {X Y : Type 0} (a b : StoreTx S) (Why : StoreFault → Type 0)
      (fault : StoreFault) → ReadsInTransaction g {X = X} a b (Err fault) Why →
      ReadsInTransaction g {X = Y} a b (Err fault) Why
  reads_refused a b Why fault p = record {
    same_reference = p.same_reference;
    stays = p.stays;
    running = tt;
    same = tt;
    only = tt;
    why = p.why;
  }

  module _ {X Y Z : Type 0} (a b c : StoreTx S) (Before Why : StoreFault → Type 0) (x : X)
      (p : ReadsInTransaction g a b (Ok x) Before) where
    -- two calls
    pub reads_then : (y : Y) (z : Z) → ReadsInTransaction g b c (Ok y) Why →
        ReadsInTransaction g a c (Ok z) Why
    reads_then y z q = record {
      same_reference = q.same_reference ∙ p.same_reference;
      stays = stays_then g a.store.now b.store.now c.store.now p.stays q.stays;
      running = q.running;
      same = sees_then g a.store.now b.store.now c.store.now q.stays.cap p.same q.same;
      only = no_more g a.store.now b.store.now c.store.now q.stays p.only q.only;
      why = tt;
    }

    -- two calls, of which the second is refused
    pub reads_then_refused : (fault : StoreFault) →
        ReadsInTransaction g {X = Y} b c (Err fault) Why →
        ReadsInTransaction g {X = Z} a c (Err fault) Why
    reads_then_refused fault q = record {
      same_reference = q.same_reference ∙ p.same_reference;
      stays = stays_then g a.store.now b.store.now c.store.now p.stays q.stays;
      running = tt;
      same = tt;
      only = tt;
      why = q.why;
    }

  -- ---- what may add

  -- a call that may add, and one that only reads after it
  module _ {X Y Z : Type 0} (a b c : StoreTx S) (x : X) (p : KeepsTransaction g a b (Ok x)) where
    pub stays_read : (y : Y) (z : Z) → ReadsInTransaction g b c (Ok y) HasCause →
        KeepsTransaction g a c (Ok z)
    stays_read y z q = record {
      same_reference = q.same_reference ∙ p.same_reference;
      stays = stays_then g a.store.now b.store.now c.store.now p.stays q.stays;
      running = q.running;
      why = tt;
    }

    pub stays_read_refused : (fault : StoreFault) →
        ReadsInTransaction g {X = Y} b c (Err fault) HasCause →
        KeepsTransaction g {X = Z} a c (Err fault)
    stays_read_refused fault q = record {
      same_reference = q.same_reference ∙ p.same_reference;
      stays = stays_then g a.store.now b.store.now c.store.now p.stays q.stays;
      running = tt;
      why = q.why;
    }

  pub stays_refused : {X Y : Type 0} (a b : StoreTx S) (fault : StoreFault) →
      KeepsTransaction g {X = X} a b (Err fault) → KeepsTransaction g {X = Y} a b (Err fault)
  stays_refused a b fault p = record {
    same_reference = p.same_reference;
    stays = p.stays;
    running = tt;
    why = p.why;
  }

  pub keeps_none : {X E : Type 0} (tx : StoreTx S) (r : Result X E) → IsRunning g tx →
      KeepsRunning g tx tx r
  keeps_none tx (Ok x) running =
      record { same_reference = refl; stays = stays_here tx.store.now; running = running }
  keeps_none tx (Err e) running =
      record { same_reference = refl; stays = stays_here tx.store.now; running = tt }
