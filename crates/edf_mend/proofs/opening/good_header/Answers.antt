use Rattle.std.proofs.Common.{List, ℕ, subst}
use Rattle.edf_header.specs.Fields.{recording_field}
use Rattle.edf_mend.specs.Header.{StaysAll, IsMarkedRight}
use Rattle.edf_mend.proofs.Written.{keeps-header}
use Rattle.edf_mend.proofs.opening.good_header.Goals as goal

pub returns : goal.returns
returns c =
    let w = c.args.wanted.now in
    let first = c.args.first.now in
    let second = c.args.second.now in
    let n = c.args.n in
    let count = c.signals-count.result in
    let strict = c.in_ok-strict.strict in
    let signals = c.as_slice-strict_signals.result.now in
    let good = c.args.good.now in
    keeps-header w first second n count good.timed strict signals good.fixed.text.items _ _
    c.told-first c.requires.number c.requires.gaps c.in_ok-fixed.ensures
    c.signals-count.ensures.value (c.in_ok-keeps_fixed.ensures c.if-not-branch.false)
    (c.in_ok-keeps_signals.ensures c.if-not-branch-2.false)
    (subst (λ (t : List ℕ). IsMarkedRight (StaysAll w n first second t count strict signals) t
    (recording_field strict)) c.as_slice.ensures.value
    (c.in_ok-is_marked_right.ensures c.if-not-branch-3.false)) c.in_ok-header.ensures _
    c.in_ok-changes.ensures
