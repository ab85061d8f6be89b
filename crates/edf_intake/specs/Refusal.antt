-- The numbers, names and causes of refusals, and the reply that an answer stands for.
use Rattle.std.specs.Prelude.{ℕ, List, codes, Option, Some, None, Result, Ok, Err}
use Rattle.edf_fragment.specs.Fault.{fragment_fault_number, fragment_fault_name}
use Rattle.edf_fragment.specs.declared.fault.FragmentFault.{FragmentFault}
use Rattle.edf_store.specs.Fault.{number, store_fault_name, IsStoreRefusal}
use Rattle.edf_store.specs.declared.fault.StoreFault.{StoreFault}
use Rattle.edf_holdings.specs.Reply.{Conflict, Overlap, Differs, Full}
use Rattle.edf_holdings.specs.Reply.{Reply, Form, Conflicts, Accepted}
use Rattle.edf_intake.specs.declared.answer.Receipt.{Receipt}
use Rattle.edf_intake.specs.declared.answer.Refusal.{Refusal}
use Rattle.edf_intake.specs.declared.answer.Refusal.TheVariants as refusal

-- E1 to E29 are of form, E30 to E32 conflicts, E40 a failed read, E41 memory, E42 and E45 the store
abbrev pub refusal_number : Refusal → ℕ
refusal_number (refusal.Form fault) = fragment_fault_number fault
refusal_number (refusal.Overlap start stored) = 30
refusal_number (refusal.Differs start) = 31
refusal_number (refusal.Full held new cap) = 32
refusal_number refusal.Read = 40
refusal_number refusal.Memory = 41
refusal_number (refusal.Store fault) = number fault

-- the name of a refusal; one that has a fault bears the fault's name
abbrev pub refusal_name : Refusal → List ℕ
refusal_name (refusal.Form fault) = fragment_fault_name fault
refusal_name (refusal.Overlap start stored) = codes "Overlap"
refusal_name (refusal.Differs start) = codes "Differs"
refusal_name (refusal.Full held new cap) = codes "Full"
refusal_name refusal.Read = codes "Read"
refusal_name refusal.Memory = codes "Memory"
refusal_name (refusal.Store fault) = store_fault_name fault

-- the cause of a refusal
pub data Cause : Type 0 where
  OfForm : FragmentFault → Cause
  OfConflict : Conflict → Cause
  OfRead : Cause
  OfMemory : Cause
  OfStore : StoreFault → Cause

abbrev pub cause : Refusal → Cause
cause (refusal.Form fault) = OfForm fault
cause (refusal.Overlap start stored) = OfConflict (Overlap start stored)
cause (refusal.Differs start) = OfConflict (Differs start)
cause (refusal.Full held new cap) = OfConflict (Full held new cap)
cause refusal.Read = OfRead
cause refusal.Memory = OfMemory
cause (refusal.Store fault) = OfStore fault

-- the answer to one submission
abbrev pub Answer : Type 0
Answer = Result Receipt Refusal

-- the reply for a cause; a failed read, want of memory and a fault of the store have none
abbrev pub reply_of_cause : Cause → Option Reply
reply_of_cause (OfForm fault) = Some (Form fault)
reply_of_cause (OfConflict conflict) = Some (Conflicts conflict)
reply_of_cause OfRead = None
reply_of_cause OfMemory = None
reply_of_cause (OfStore fault) = None

-- the reply that an answer stands for
abbrev pub reply_of : Answer → Option Reply
reply_of (Ok receipt) = Some (Accepted receipt.identity receipt.new receipt.known)
reply_of (Err refused) = reply_of_cause (cause refused)

-- memory ran out, or the store refused
abbrev pub IsMemoryOrStoreRefusal : Answer → Type 0
IsMemoryOrStoreRefusal (Err refusal.Memory) = Unit {0}
IsMemoryOrStoreRefusal (Err (refusal.Store fault)) = Unit {0}
IsMemoryOrStoreRefusal answer = ⊥

-- E41 or E42: after a crash the submission may be committed
abbrev pub IsInDoubt : Answer → Type 0
IsInDoubt (Err refusal.Memory) = Unit {0}
IsInDoubt (Err (refusal.Store fault)) = IsStoreRefusal fault
IsInDoubt answer = ⊥
