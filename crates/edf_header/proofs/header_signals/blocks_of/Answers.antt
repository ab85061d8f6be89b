use Rattle.std.proofs.Common.{List, ℕ, arith, ap, ◌∙◌}
use Rattle.std.proofs.lemmas.List.{take_all}
use Rattle.edf_header.specs.Header.{blocks_from}
use Rattle.edf_header.specs.Signal.{HasSamples}
use Rattle.edf_header.proofs.Blocks.{block-left, block-pushed, place-more}
use Rattle.edf_header.proofs.RowSteps.{one-at}
use Rattle.edf_header.proofs.Sorted.{member-meets}
use Rattle.edf_header.proofs.header_signals.blocks_of.Goals as goal
use Rattle.edf_header.proofs.header_signals.blocks_of.Goals.{then-is_labelled+in_ok-push}
use Rattle.edf_header.proofs.header_signals.blocks_of.Goals.{else-is_labelled}

pub samples_of-requires : goal.samples_of-requires
samples_of-requires c =
    let at = one-at c.args.signals.now c.count-n.result c.loop-i.i c.row-row.result (omega arith)
    c.count-n.ensures.value c.row-row.ensures in
    member-meets HasSamples c.args.signals.now c.loop-i.i c.row-row.result
    at.0 at.1 c.requires

pub loop-i-preserved : goal.loop-i-preserved
loop-i-preserved c =
    let ss : List (List ℕ) = c.args.signals.now in
    let r : List ℕ = c.row-row.result in
    let at = one-at c.args.signals.now c.count-n.result c.loop-i.i r (omega arith)
    c.count-n.ensures.value c.row-row.ensures in (
      elim c.if-is_labelled.branch [
        | then-is_labelled+in_ok-push w ↦
            ap (λ v. v.items) w.blocks-is
            ∙ block-pushed ss c.loop-i.i r c.loop-i.at c.samples_of.result c.is_labelled.result
            c.loop-i.blocks.items w.push.new.self.items at.0 at.1 c.loop-i.invariant.1
            c.is_labelled.ensures.value w.if-is_labelled.true c.samples_of.ensures.value
            c.loop-i.invariant.0 w.in_ok-push.ensures.items
        | else-is_labelled w ↦
            ap (λ v. v.items) w.blocks-is
            ∙ block-left ss c.loop-i.i r c.loop-i.at c.is_labelled.result c.loop-i.blocks.items at.0
            at.1 c.loop-i.invariant.1 c.is_labelled.ensures.value w.if-is_labelled.false
            c.loop-i.invariant.0
      ],
      place-more ss c.loop-i.i r c.loop-i.at c.samples_of.result at.0 at.1 c.loop-i.invariant.1
          c.samples_of.ensures.value,
      omega (arith, c.samples_of.ensures.bound),
    )

pub returns : goal.returns
returns c =
    c.loop-i.invariant.0
    ∙ ap (λ (l : List (List ℕ)). blocks_from 0 l)
    (take_all c.loop-i.i c.args.signals.now
    (omega (arith, c.count-n.ensures.value)))
