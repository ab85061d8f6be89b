-- How many calls failed where the writer of data records stopped.
use Rattle.std.proofs.Common.{ℕ, List, Option, Some, None, Result, Ok, Err, inl, inr}
use Rattle.edf_fragment.specs.Fragment.{DataRecord}
use Rattle.edf_canonical.specs.Sending.{StopsFor, CountsSendFault}
use Rattle.edf_canonical.specs.Source.{At, Answers}
use Rattle.edf_canonical.specs.declared.fault.SendFault.{SendFault}
use Rattle.edf_canonical.specs.declared.fault.SendFault.TheVariants.{Source, Unlike, Output}
use Rattle.edf_canonical.specs.declared.measure.Measure.{Measure}
use Rattle.edf_runs.specs.Again.{CountsRereads}
use Rattle.edf_runs.specs.Inside.Steps.{CountsSending, send_fault}
use Rattle.edf_runs.specs.declared.fault.WriteFault.{WriteFault}
use Rattle.edf_runs.specs.declared.fault.WriteFault.TheVariants.{Changed}
use Rattle.edf_runs.proofs.Sending.{reread_counts, out_counts}

module _ {S F R : Type 0}
    (answers : S → F → R → S → F → R → Result (Option DataRecord) WriteFault → Type 0)
    (from to : At S F R) (whole : Measure) (mid : At S F R) (records : List DataRecord) where
  -- how many reads and writes failed
  module _ (reads : At S F R → ℕ) (each : (answer : Result (Option DataRecord) WriteFault) →
      Answers answers mid to answer → CountsRereads (reads mid) (reads to) answer) where
    pub stop-counts : (fault : SendFault WriteFault) →
        StopsFor answers from to whole mid records fault → (writes writes' : ℕ) →
        CountsSendFault writes writes' fault →
        CountsSending {A = Unit {0}} (reads mid) (reads to) writes writes' (Err (send_fault fault))
    stop-counts (Source fault) why writes writes' counted =
        rw counted (reread_counts (reads mid) (reads to) writes fault (each (Err fault) why))
    stop-counts Unlike (inl (r, step, not)) writes writes' counted =
        rw counted (reread_counts (reads mid) (reads to) writes Changed (each (Ok (Some r)) step))
    stop-counts Unlike (inr (end, not)) writes writes' counted =
        rw counted (reread_counts (reads mid) (reads to) writes Changed (each (Ok None) end))
    stop-counts (Output fault) (inl same) writes writes' counted =
        rw same (out_counts (reads mid) writes writes' fault counted)
    stop-counts (Output fault) (inr end) writes writes' counted =
        rw (each (Ok None) end.0) (out_counts (reads mid) writes writes' fault counted)
