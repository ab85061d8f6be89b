use Rattle.edf_mend.proofs.Tests.{says-no, is-not}
use Rattle.std.proofs.Common.{◌<◌, arith, ℕ, List, subst, sym, refl}
use Rattle.edf_header.specs.Signal.{row_at}
use Rattle.edf_mend.specs.Header.{StaysRow}
use Rattle.edf_mend.proofs.Rows.{all-below}
use Rattle.edf_mend.proofs.mark.stay_rows.Goals as goal

pub loop-i-init : goal.loop-i-init
loop-i-init c = λ j lt. absurd (omega (arith, lt))

pub loop-i-preserved : goal.loop-i-preserved
loop-i-preserved c =
    let i = c.loop-i.i in
    let h = c.args.headers.now in
    let new = c.new_row.result in
    all-below (λ j. StaysRow (row_at h.second.now h.n j) (row_at h.strict_signals.now h.count j)) i
    c.loop-i.invariant
    (subst (λ (l : List ℕ). StaysRow (row_at h.second.now h.n i) l) c.new_row.ensures
    (subst (λ (l : List ℕ). StaysRow l new) c.old_row.ensures
    (c.in_ok-stays_row.ensures.0 c.if-not-branch.false)))

pub returns : goal.returns
returns c = (
  λ t i lt. c.loop-i.invariant i (omega (arith, lt, c.loop-i-test.false)),
  λ all. refl,
)

pub returns-then-not-branch : goal.returns-then-not-branch
returns-then-not-branch c =
    let i = c.loop-i.i in
    let h = c.args.headers.now in
    let new = c.new_row.result in
    says-no _ ((j : ℕ) → j < h.n → StaysRow (row_at h.second.now h.n j)
    (row_at h.strict_signals.now h.count j)) refl
    (λ all. is-not _ (StaysRow c.old_row.result new) c.if-not-branch.true c.in_ok-stays_row.ensures
    (subst (λ (l : List ℕ). StaysRow l new) (sym c.old_row.ensures)
    (subst (λ (l : List ℕ). StaysRow (row_at h.second.now h.n i) l) (sym c.new_row.ensures)
    (all i c.loop-i-test.true))))
