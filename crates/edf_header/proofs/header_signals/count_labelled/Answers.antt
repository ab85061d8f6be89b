use Rattle.std.proofs.Common.{List, ℕ, [], ◌∷◌, arith, ap, length, length-append, take, ◌∙◌}
use Rattle.edf_header.specs.Signal.{labelled}
use Rattle.edf_header.proofs.RowSteps.{one-at}
use Rattle.edf_header.proofs.Sorted.{labelled-all, labelled-kept, labelled-left}
use Rattle.edf_header.proofs.header_signals.count_labelled.Goals as goal
use Rattle.edf_header.proofs.header_signals.count_labelled.Goals.{then-is_labelled}
use Rattle.edf_header.proofs.header_signals.count_labelled.Goals.{else-is_labelled}

pub loop-i-preserved : goal.loop-i-preserved
loop-i-preserved c =
    let ss : List (List ℕ) = c.args.signals.now in
    let r : List ℕ = c.row.result in
    let at = one-at c.args.signals.now c.count-n.result c.loop-i.i r (omega arith)
    c.count-n.ensures.value c.row.ensures in
    elim c.if-is_labelled.branch [
      | then-is_labelled w ↦
          let kept = labelled-kept ss c.loop-i.i r c.is_labelled.result at.0 at.1
          c.is_labelled.ensures.value w.if-is_labelled.true in (
            omega (arith, ap length kept, length-append (labelled (take c.loop-i.i ss)) (r ∷ [])),
            omega arith,
          )
      | else-is_labelled w ↦
          let left = labelled-left ss c.loop-i.i r c.is_labelled.result at.0 at.1
          c.is_labelled.ensures.value w.if-is_labelled.false in
          (omega (arith, ap length left), omega arith)
    ]

pub returns : goal.returns
returns c = c.loop-i.invariant.0
    ∙ ap length (labelled-all c.args.signals.now c.loop-i.i
    (omega (arith, c.count-n.ensures.value)))
