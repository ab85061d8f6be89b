-- Why a submission ends early, in words of its input.
use Rattle.std.proofs.Common.{◌≡◌, ℕ, List, [], Option, Some, None, sym, subst, IfSome}
use Rattle.edf_header.specs.Header.{Layout}
use Rattle.edf_fragment.specs.Fault.{IsFirstFault}
use Rattle.edf_fragment.specs.Reading.{ReadsHeader, CountsReadFault, initial_progress}
use Rattle.edf_fragment.specs.Whole.{ReadsFragmentFault, ReadsFragment}
use Rattle.edf_fragment.specs.Fragment.{DataRecord}
use Rattle.edf_fragment.specs.declared.fault.FragmentFault.{FragmentFault}
use Rattle.edf_fragment.specs.declared.fault.FragmentFault.TheVariants.{Read, Memory, Failed}
use Rattle.edf_fragment.proofs.Fragments.{reads_none}
use Rattle.edf_fragment.proofs.OneFragment.{spelled-no-fault}
use Rattle.sqlite_trees.specs.declared.store.Store.{Ghosts}
use Rattle.edf_store.specs.declared.transaction.StoreTx.{StoreTx}
use Rattle.edf_fragment.specs.Call.{InputState}
use Rattle.edf_intake.specs.Input.{IsNoFragmentFile, ReadsWhole, ReadsHeaderAndRecords}
use Rattle.edf_intake.specs.Inside.Halt.{refusal_of_fragment_fault, HaltsReading}
use Rattle.edf_intake.specs.Inside.Taken.{StopsWith}
use Rattle.edf_intake.specs.declared.answer.Refusal.{Refusal}
use Rattle.edf_intake.specs.declared.answer.Stop.{Stop}
use Rattle.edf_intake.specs.declared.answer.Stop.TheVariants.{Input, Store}

spells_none : (left : Option (List ℕ)) (fault : FragmentFault) →
    IfSome left (λ all. IsFirstFault all fault) → IfSome left IsNoFragmentFile
spells_none None fault first = tt
spells_none (Some all) fault first = λ k rs s. spelled-no-fault all k rs fault s first

-- the refusal for a fault of the fragment
pub stopped_by : {S : Type 0} (g : Ghosts S) (old new : StoreTx S) (from to : InputState)
    (fault : FragmentFault) → ReadsFragmentFault from.remaining to.remaining fault →
    CountsReadFault from.failed to.failed fault
    → StopsWith g old new from to (Input (refusal_of_fragment_fault fault))
stopped_by g old new from to Read is n = record { is_fault = is; counted = n }
stopped_by g old new from to Memory is n = record { is_fault = is; counted = n }
stopped_by g old new from to Failed is n = absurd is.first
stopped_by g old new from to fault is n =
    record {
      of_form = tt;
      is_fault = is;
      none = spells_none from.remaining fault is.first;
      counted = n;
    }

-- a header that was read, and no data record
pub reads_header_alone : (from to : InputState) (l : Layout) →
    ReadsHeader from.remaining to.remaining l →
    to.failed ≡ from.failed → ReadsHeaderAndRecords from to
reads_header_alone from to l header n =
    record {
      layout = l;
      mid = to.remaining;
      records = [];
      progress = initial_progress;
      header = header;
      read = reads_none l to.remaining;
      counted = n;
    }

pub reads_whole : (from to : InputState) (l : Layout) (records : List DataRecord) →
    ReadsFragment from.remaining to.remaining l records → to.failed ≡ from.failed →
    ReadsWhole from to l.key records
reads_whole from to l records r n = record {
  bytes = r.bytes;
  read = r.read;
  end = r.end;
  is_file = r.is_file;
  counted = n;
}

-- why the data records stopped, said of the whole submission
pub halted : {S : Type 0} (g : Ghosts S) (old new : StoreTx S) (from to : InputState)
    (stop : Stop) → HaltsReading g new from to stop → StopsWith g old new from to stop
halted g old new from to (Input answer) (fault, is, reads, n) =
    subst (λ (r : Refusal). StopsWith g old new from to (Input r)) (sym is)
    (stopped_by g old new from to fault reads n)
halted g old new from to (Store fault) stops = stops
