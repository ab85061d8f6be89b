-- Refusals of the store have numbers, names and causes.
use Rattle.std.specs.Prelude.{◌≡◌, ◌≢◌, ℕ, List, codes, Some, None}
use Rattle.sqlite.specs.declared.error.Error.{Error}
use Rattle.sqlite.specs.declared.error.Error.TheVariants.{SqliteFailure}
use Rattle.sqlite.specs.declared.error.ErrorCode.TheVariants.{OutOfMemory}
use Rattle.edf_header.specs.declared.identity.IdentityFault.{IdentityFault}
use Rattle.edf_header.specs.declared.identity.IdentityFault.TheVariants.{Memory as NoMemory}
use Rattle.edf_store.specs.declared.fault.StoreFault.{StoreFault}
use Rattle.edf_store.specs.declared.fault.StoreFault.TheVariants.{Memory, Store, Foreign, Failed}
use Rattle.edf_store.specs.declared.fault.RowFault.{RowFault}
use Rattle.edf_store.specs.declared.fault.RowFault.TheVariants as row

abbrev pub number : StoreFault → ℕ
number Memory = 41
number (Store cause) = 42
number Foreign = 45
number Failed = 0

abbrev pub store_fault_name : StoreFault → List ℕ
store_fault_name Memory = codes "Memory"
store_fault_name (Store cause) = codes "Store"
store_fault_name Foreign = codes "Foreign"
store_fault_name Failed = codes "Failed"

-- at any call memory may run out and `sqlite` may refuse, with its error; the connection is in a
-- transaction, the rows are foreign, or an earlier call had a fault, each only where the condition
-- of that name is true
abbrev pub MayRefuse : (IfBusy IfForeign IfFailed : Type 0) → StoreFault → Type 0
MayRefuse IfBusy IfForeign IfFailed Memory = Unit {0}
MayRefuse IfBusy IfForeign IfFailed (Store (Some error)) = Unit {0}
MayRefuse IfBusy IfForeign IfFailed (Store None) = IfBusy
MayRefuse IfBusy IfForeign IfFailed Foreign = IfForeign
MayRefuse IfBusy IfForeign IfFailed Failed = IfFailed

-- the refusal has a cause: E41, or E42 with the error of `sqlite`
abbrev pub HasCause : StoreFault → Type 0
HasCause = MayRefuse ⊥ ⊥ ⊥

-- the refusal has a cause, or is E45
abbrev pub HasCauseOrIsForeign : StoreFault → Type 0
HasCauseOrIsForeign = MayRefuse ⊥ (Unit {0}) ⊥

-- the refusal is E41, or E42 with or without a cause
abbrev pub IsStoreRefusal : StoreFault → Type 0
IsStoreRefusal Memory = Unit {0}
IsStoreRefusal (Store cause) = Unit {0}
IsStoreRefusal Foreign = ⊥
IsStoreRefusal Failed = ⊥

-- an error of `sqlite` becomes this refusal
pub record IsRefusalOf (error : Error) (fault : StoreFault) : Type 0 where
  pub memory : error ≡ SqliteFailure OutOfMemory → fault ≡ Memory
  pub other : error ≢ SqliteFailure OutOfMemory → fault ≡ Store (Some error)
  pub cause : HasCause fault

-- a fault of rows becomes this refusal
abbrev pub IsRefusalBy : RowFault → StoreFault → Type 0
IsRefusalBy (row.Sqlite error) fault = IsRefusalOf error fault
IsRefusalBy row.Foreign fault = fault ≡ Foreign

-- a row whose bytes are not an identity's is foreign, unless memory ran out
pub record IsFaultOfIdentity (identity : IdentityFault) (fault : RowFault) : Type 0 where
  pub memory : identity ≡ NoMemory → fault ≡ row.Sqlite (SqliteFailure OutOfMemory)
  pub other : identity ≢ NoMemory → fault ≡ row.Foreign
