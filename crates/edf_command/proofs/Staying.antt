-- Calls of a store that leave what it holds.
use Rattle.std.proofs.Common.{◌≢◌, subst}
use Rattle.edf_store.specs.Fault.{IsStoreRefusal, MayRefuse}
use Rattle.edf_store.specs.declared.fault.StoreFault.{StoreFault}
use Rattle.edf_store.specs.declared.fault.StoreFault.TheVariants.{Memory, Store, Foreign, Failed}

-- on a disk that returns what was written, a call is refused since memory ran out or since `sqlite`
-- refused
pub is-refusal : (IfBusy IfForeign : Type 0) (fault : StoreFault) → ¬ IfForeign →
    MayRefuse IfBusy IfForeign ⊥ fault → IsStoreRefusal fault
is-refusal busy foreign Memory never may = tt
is-refusal busy foreign (Store cause) never may = tt
is-refusal busy foreign Foreign never may = never may
is-refusal busy foreign Failed never may = may

-- no call is refused for the fault of an earlier one
pub not-failed : (IfBusy IfForeign : Type 0) (fault : StoreFault) →
    MayRefuse IfBusy IfForeign ⊥ fault → fault ≢ Failed
not-failed busy foreign fault may is =
    subst (λ (f : StoreFault). MayRefuse busy foreign ⊥ f) is may
