-- Submissions that stop before the end of the input, and how far that was read.
use Rattle.std.specs.Prelude.{◌≡◌, ℕ, List, Option}
use Rattle.sqlite_trees.specs.declared.store.Store.{Ghosts}
use Rattle.edf_header.specs.Header.{Layout}
use Rattle.edf_fragment.specs.Reading.{ReadsHeader, CountsReadFault}
use Rattle.edf_fragment.specs.Whole.{ReadsFragmentFault}
use Rattle.edf_fragment.specs.declared.fault.FragmentFault.{FragmentFault}
use Rattle.edf_fragment.specs.declared.fault.FragmentFault.TheVariants.{Read as NoRead}
use Rattle.edf_fragment.specs.declared.fault.FragmentFault.TheVariants.{Memory as NoMemory}
use Rattle.edf_store.specs.StoreTx.{HasCauseOrIsUnclean}
use Rattle.edf_store.specs.declared.fault.StoreFault.{StoreFault}
use Rattle.edf_store.specs.declared.fault.StoreFault.TheVariants as store
use Rattle.edf_store.specs.declared.transaction.StoreTx.{StoreTx}
use Rattle.edf_fragment.specs.Call.{InputState}
use Rattle.edf_intake.specs.Input.{ReadsHeaderAndRecords}
use Rattle.edf_intake.specs.declared.answer.Refusal.{Refusal}
use Rattle.edf_intake.specs.declared.answer.Refusal.TheVariants.{Form, Read, Memory}
use Rattle.edf_intake.specs.declared.answer.Refusal.TheVariants.{Store as Refused}
use Rattle.edf_intake.specs.declared.answer.Stop.{Stop}
use Rattle.edf_intake.specs.declared.answer.Stop.TheVariants.{Input, Store}

-- a failed read gives `Read`, want of memory `Memory`, and any other fault `Form` with that fault
abbrev pub refusal_of_fragment_fault : FragmentFault → Refusal
refusal_of_fragment_fault NoRead = Read
refusal_of_fragment_fault NoMemory = Memory
refusal_of_fragment_fault fault = Form fault

-- want of memory gives `Memory`, and any other fault of the store `Store` with that fault
abbrev pub refusal_of_store_fault : StoreFault → Refusal
refusal_of_store_fault store.Memory = Memory
refusal_of_store_fault fault = Refused fault

-- the input has a fault, or reading it failed; or the store refused after some data records
abbrev pub HaltsReading : {S : Type 0} → Ghosts S → StoreTx S → InputState → InputState → Stop →
    Type 0
HaltsReading g tx from to (Input refusal) = (fault : FragmentFault)
    × (refusal ≡ refusal_of_fragment_fault fault)
    × ReadsFragmentFault from.remaining to.remaining fault
    × CountsReadFault from.failed to.failed fault
HaltsReading g tx from to (Store fault) = ReadsHeaderAndRecords from to
    × HasCauseOrIsUnclean g tx fault

-- reading halts so, if `from` is taken as it was before the header was read
abbrev pub HaltsAfterHeader : {S : Type 0} → Ghosts S → StoreTx S → Layout → InputState →
    InputState → Stop → Type 0
HaltsAfterHeader g tx layout from to stop = (before : Option (List ℕ)) →
    ReadsHeader before from.remaining layout →
    HaltsReading g tx (record from { remaining = before }) to stop
