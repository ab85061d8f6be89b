use Rattle.std.proofs.Common.{inl, inr, sym}
use Rattle.std.proofs.lemmas.Bool.{false≢true}
use Rattle.edf_header.proofs.HeaderFaults.{kinds-decided, one-kind}
use Rattle.edf_header.proofs.signals.has_annotations.Goals as goal
use Rattle.edf_header.proofs.signals.has_annotations.Goals.{then-labelled-eq0-via-then-labelled-eq0}
use Rattle.edf_header.proofs.signals.has_annotations.Goals.{then-labelled-eq0-via-else-labelled-eq0+then-labelled-n}

pub returns-then-labelled-eq0 : goal.returns-then-labelled-eq0
returns-then-labelled-eq0 c =
    let none = one-kind c.args.signals.now c.count_labelled-labelled.result c.count-n.result
    c.count_labelled-labelled.ensures (sym c.count-n.ensures.value) in (
      λ yes. absurd (false≢true yes),
      λ h. absurd (elim c.then-labelled-eq0.branch [
        | then-labelled-eq0-via-then-labelled-eq0 w ↦ none (inl w.if-labelled-eq0.true) h
        | then-labelled-eq0-via-else-labelled-eq0+then-labelled-n w ↦
            none (inr w.if-labelled-n.true) h
      ]),
    )

pub returns : goal.returns
returns c =
    kinds-decided c.args.signals.now c.count_labelled-labelled.result c.count-n.result
    c.bad_signal.result c.is_none.result c.count_labelled-labelled.ensures
    (sym c.count-n.ensures.value) c.if-labelled-eq0.false c.if-labelled-n.false
    c.is_none.ensures c.bad_signal.ensures
