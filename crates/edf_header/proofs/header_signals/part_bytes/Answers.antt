use Rattle.std.proofs.Common.{◌≤◌, List, ℕ, arith, ap, length, take}
use Rattle.std.proofs.lemmas.List.Sums.{sum_by_push}
use Rattle.edf_header.specs.Signal.{HasSamples, labelled, ordinary, samples, samples_in_all}
use Rattle.edf_header.proofs.RowSteps.{one-at}
use Rattle.edf_header.proofs.Sorted.{labelled-all, labelled-kept, labelled-left, member-meets}
use Rattle.edf_header.proofs.Sorted.{ordinary-all, ordinary-left, push-more}
use Rattle.edf_header.proofs.header_signals.part_bytes.Goals as goal
use Rattle.edf_header.proofs.header_signals.part_bytes.Goals.{then-is_labelled, else-is_labelled}

pub samples_of-requires : goal.samples_of-requires
samples_of-requires c =
    let at = one-at c.args.signals.now c.count-n.result c.loop-i.i c.row-row.result (omega arith)
    c.count-n.ensures.value c.row-row.ensures in
    member-meets HasSamples c.args.signals.now c.loop-i.i c.row-row.result
    at.0 at.1 c.requires

pub loop-i-preserved : goal.loop-i-preserved
loop-i-preserved c =
    let ss : List (List ℕ) = c.args.signals.now in
    let r : List ℕ = c.row-row.result in
    let at = one-at c.args.signals.now c.count-n.result c.loop-i.i r (omega arith)
    c.count-n.ensures.value c.row-row.ensures in
    let size = c.samples_of.ensures.value in
    elim c.if-is_labelled.branch [
      | then-is_labelled w ↦
          let kept = labelled-kept ss c.loop-i.i r c.is_labelled.result at.0 at.1
          c.is_labelled.ensures.value w.if-is_labelled.true in
          let left = ordinary-left ss c.loop-i.i r c.is_labelled.result at.0 at.1
          c.is_labelled.ensures.value w.if-is_labelled.true in (
            omega (arith, ap samples_in_all left),
            omega (
              arith,
              size,
              ap samples_in_all kept,
              sum_by_push samples (labelled (take c.loop-i.i ss)) r,
            ),
            omega (arith, c.samples_of.ensures.bound),
          )
      | else-is_labelled w ↦
          let kept = push-more ss c.loop-i.i r c.is_labelled.result at.0 at.1
          c.is_labelled.ensures.value w.if-is_labelled.false in
          let left = labelled-left ss c.loop-i.i r c.is_labelled.result at.0 at.1
          c.is_labelled.ensures.value w.if-is_labelled.false in (
            omega (
              arith,
              size,
              ap samples_in_all kept,
              sum_by_push samples (ordinary (take c.loop-i.i ss)) r,
            ),
            omega (arith, ap samples_in_all left),
            omega (arith, c.samples_of.ensures.bound),
          )
    ]

pub returns : goal.returns
returns c =
    let ss : List (List ℕ) = c.args.signals.now in
    let past : length ss ≤ c.loop-i.i = omega (arith, c.count-n.ensures.value) in
    record {
      ordinary = omega (arith, ap samples_in_all (ordinary-all ss c.loop-i.i past));
      annotations = omega (arith, ap samples_in_all (labelled-all ss c.loop-i.i past));
    }
