use Rattle.std.proofs.Common.{arith, ℕ, List, subst}
use Rattle.edf_header.specs.Signal.{row_at}
use Rattle.edf_mend.specs.Header.{KeepsRow}
use Rattle.edf_mend.proofs.Rows.{KeepsNth, all-below}
use Rattle.edf_mend.proofs.header.keeps_signals.Goals as goal

pub loop-i-init : goal.loop-i-init
loop-i-init c = λ j lt. absurd (omega (arith, lt))

pub loop-i-preserved : goal.loop-i-preserved
loop-i-preserved c =
    let i = c.loop-i.i in
    let h = c.args.headers.now in
    let new = c.new_row.result in
    all-below (KeepsNth c.args.timed h.n h.second.now h.count h.strict_signals.now) i
    c.loop-i.invariant
    (subst (λ (l : List ℕ). KeepsRow c.args.timed (row_at h.second.now h.n i) l) c.new_row.ensures
    (subst (λ (l : List ℕ). KeepsRow c.args.timed l new) c.old_row.ensures
    (c.in_ok-keeps_row.ensures c.if-not-branch.false)))

pub returns : goal.returns
returns c = λ _. record {
  len = c.args.headers.now.sized;
  many = c.are_as_many.ensures c.if-not-are_as_many.false;
  each = λ i lt. c.loop-i.invariant i (omega (arith, lt, c.loop-i-test.false));
}
