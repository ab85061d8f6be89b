-- Why results are refusals.
use Rattle.std.proofs.Common.{◌≡◌, ◌≢◌, None, Some, Result, Ok, Err, IfOk, IfErr, OnOk, OnErr}
use Rattle.std.proofs.Common.{IsErrAnd, refl, MatchResult, sym, subst}
use Rattle.sqlite.specs.declared.error.Error.{Error}
use Rattle.sqlite_trees.specs.declared.store.Store.{Ghosts}
use Rattle.edf_store.specs.declared.fault.StoreFault.{StoreFault}
use Rattle.edf_store.specs.declared.fault.StoreFault.TheVariants.{Memory, Store, Foreign, Failed}
use Rattle.edf_store.specs.declared.fault.RowFault.{RowFault}
use Rattle.edf_store.specs.declared.fault.RowFault.TheVariants as row
use Rattle.edf_store.specs.Fault.{MayRefuse, HasCause, IsStoreRefusal, IsRefusalOf, IsRefusalBy}
use Rattle.edf_store.specs.Held.{StoreModel}
use Rattle.edf_store.specs.Call.{IsBusy, IsRefusedIfBusy}

-- a refusal with a cause may come at any call
pub with_cause : (B F L : Type 0) (fault : StoreFault) → HasCause fault → MayRefuse B F L fault
with_cause B F L Memory cause = tt
with_cause B F L (Store (Some error)) cause = tt
with_cause B F L (Store None) cause = absurd cause
with_cause B F L Foreign cause = absurd cause
with_cause B F L Failed cause = absurd cause

-- what is refused for fewer reasons
pub may_more : (B F L B' F' L' : Type 0) → (B → B') → (F → F') → (L → L') → (fault : StoreFault) →
    MayRefuse B F L fault → MayRefuse B' F' L' fault
may_more B F L B' F' L' b f l Memory may = tt
may_more B F L B' F' L' b f l (Store (Some error)) may = tt
may_more B F L B' F' L' b f l (Store None) may = b may
may_more B F L B' F' L' b f l Foreign may = f may
may_more B F L B' F' L' b f l Failed may = l may

-- where no rows are foreign and no call failed before, it is E41 or E42
pub is_store_refusal : (B F L : Type 0) (fault : StoreFault) → MayRefuse B F L fault → ¬ F → ¬ L →
    IsStoreRefusal fault
is_store_refusal B F L Memory may ours first = tt
is_store_refusal B F L (Store cause) may ours first = tt
is_store_refusal B F L Foreign may ours first = absurd (ours may)
is_store_refusal B F L Failed may ours first = absurd (first may)

pub is_foreign : (B F L : Type 0) (fault : StoreFault) → MayRefuse B F L fault → fault ≡ Foreign → F
is_foreign B F L fault may is = subst (MayRefuse B F L) is may

pub cause_is_not_foreign : (fault : StoreFault) → HasCause fault → fault ≢ Foreign
cause_is_not_foreign fault cause is = is_foreign ⊥ ⊥ ⊥ fault cause is

-- the refusal that a fault with rows is
pub row_refused : (B F L : Type 0) (fault : RowFault) (refusal : StoreFault) →
    IsRefusalBy fault refusal → (fault ≡ row.Foreign → F) → MayRefuse B F L refusal
row_refused B F L (row.Sqlite error) refusal by foreign = with_cause B F L refusal by.cause
row_refused B F L row.Foreign refusal by foreign =
    subst (MayRefuse B F L) (sym by) (foreign refl)

-- what is said of results that are done is true of one that is refused
pub on_refused : {A E : Type 0} (P : Type 0) (Q : E → Type 0) (r : Result A E) → IsErrAnd r Q →
    OnOk r P
on_refused P Q (Ok x) is = absurd is
on_refused P Q (Err e) is = tt

pub on_err : {A E P : Type 0} (r : Result A E) → P → OnErr r P
on_err (Ok x) p = tt
on_err (Err e) p = p

pub on_ok : {A E P : Type 0} (r : Result A E) → P → OnOk r P
on_ok (Ok x) p = p
on_ok (Err e) p = tt

pub match_cases : {X E : Type 0} (P : X → Type 0) (Q : E → Type 0) (r : Result X E) →
    ((x : X) → r ≡ Ok x → P x) → ((e : E) → r ≡ Err e → Q e) → MatchResult r P Q
match_cases P Q (Ok x) p q = p x refl
match_cases P Q (Err e) p q = q e refl

pub match_both : {X E : Type 0} (r : Result X E) (P P' : X → Type 0) (Q Q' : E → Type 0) →
    IfOk r P → IfErr r Q → ((x : X) → P x → P' x) → ((e : E) → Q e → Q' e) → MatchResult r P' Q'
match_both (Ok x) P P' Q Q' p q f g = f x p
match_both (Err e) P P' Q Q' p q f g = g e q

pub ok_of_match : {X E : Type 0} (r : Result X E) (P : X → Type 0) (Q : E → Type 0) →
    MatchResult r P Q → IfOk r P
ok_of_match (Ok x) P Q p = p
ok_of_match (Err e) P Q q = tt

pub if_ok : {A E : Type 0} (r : Result A E) (P Q : A → Type 0) → ((x : A) → P x → Q x) → IfOk r P →
    IfOk r Q
if_ok (Ok x) P Q f p = f x p
if_ok (Err e) P Q f p = tt

module _ {S : Type 0} (g : Ghosts S) (old : StoreModel S) where
  -- a call that was not refused found the connection in no transaction
  pub idle_done : {A : Type 0} (F : Type 0) (x : A) → IsRefusedIfBusy g old (Ok x) F →
      ¬ IsBusy g old
  idle_done {A} F x it busy =
      let clash : ◌≡◌ {A = Result A StoreFault} (Ok x) (Err (Store None)) = it.busy busy in
      absurd (cc)

  pub refuses_done : {A : Type 0} (F : Type 0) (x : A) → ¬ IsBusy g old →
      IsRefusedIfBusy g old (Ok x) F
  refuses_done F x idle = record { busy = λ busy. absurd (idle busy); why = tt }

  pub refuses_cause : {A : Type 0} (F : Type 0) (error : Error) (r : Result A StoreFault) →
      ¬ IsBusy g old → IsErrAnd r (IsRefusalOf error) → IsRefusedIfBusy g old r F
  refuses_cause F error (Ok x) idle is = absurd is
  refuses_cause F error (Err fault) idle is = record {
    busy = λ busy. absurd (idle busy);
    why = with_cause (IsBusy g old) F ⊥ fault is.cause;
  }

  pub refuses_rows : {A : Type 0} (F : Type 0) (fault : RowFault) (r : Result A StoreFault) →
      ¬ IsBusy g old → IsErrAnd r (IsRefusalBy fault) → (fault ≡ row.Foreign → F) →
      IsRefusedIfBusy g old r F
  refuses_rows F fault (Ok x) idle is foreign = absurd is
  refuses_rows F fault (Err refusal) idle is foreign = record {
    busy = λ busy. absurd (idle busy);
    why = row_refused (IsBusy g old) F ⊥ fault refusal is foreign;
  }

  -- a refusal that is handed on
  pub refuses_on : {A B : Type 0} (F : Type 0) (fault : StoreFault) (r : Result B StoreFault) →
      IsRefusedIfBusy g {X = A} old (Err fault) ⊥ → IsErrAnd r (λ e. e ≡ fault) →
      IsRefusedIfBusy g old r F
  refuses_on F fault (Ok x) it is = absurd is
  refuses_on {A} {B} F fault (Err e) it is = record {
    busy = λ busy.
        let same : ◌≡◌ {A = Result A StoreFault} (Err fault) (Err (Store None)) = it.busy busy in
        let first : fault ≡ Store None = cc in
        let all : ◌≡◌ {A = Result B StoreFault} (Err e) (Err (Store None)) = cc in
        all;
    why = subst (MayRefuse (IsBusy g old) F ⊥) (sym is)
        (may_more (IsBusy g old) ⊥ ⊥ (IsBusy g old) F ⊥ (λ b. b) (λ n. absurd n) (λ n. n) fault
        it.why);
  }
