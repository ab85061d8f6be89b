use Rattle.std.proofs.Common.{◌≡◌, ℕ, Bool, true, false, not, List, ◌∷◌, refl, sym, subst, arith}
use Rattle.std.specs.Prelude.{IsTrue}
use Rattle.edf_tal.specs.Inside.Scan.{StartsInOrder}
use Rattle.edf_tal.specs.Inside.Blocks.{HaveSums}
use Rattle.edf_tal.proofs.FirstTal.{Known, IsEmptyFirst, known, timed}
use Rattle.edf_tal.proofs.Judge.{some-count, checked, fault-none}
use Rattle.edf_tal.proofs.Judge.{fault-untimed, fault-second, fault-window, fault-order, fault-many}
use Rattle.edf_tal.proofs.check.check_tals.Goals as goal
use Rattle.edf_tal.proofs.check.check_tals.Goals.{In-Some}

not-false : (b : Bool) → not b ≡ false → IsTrue b
not-false true e = refl
not-false false e = absurd cc

-- what is known of the TALs where the first is known
the-first : (c : In-Some) (later : List (List ℕ)) →
    HaveSums (c.args.first.now ∷ later) c.args.file_start c.args.sums
    → Known (c.args.first.now ∷ later) c.args.file_start c.args.sums c.in-Some.ensures.0
the-first c later v =
    known c.args.first.now later c.in-Some.first.texts.now c.in-Some.first.rest.now
    c.args.file_start c.args.sums c.in-Some.ensures.0 v c.in-Some.ensures.1

is-empty : (c : In-Some) → ((rest : List ℕ) × (c.in-Some.first.texts.now ≡ 20 ∷ rest)) →
    IsEmptyFirst c.in-Some.ensures.0
is-empty c = timed c.args.first.now c.in-Some.first.texts.now c.in-Some.first.rest.now
    c.in-Some.ensures.0 c.in-Some.ensures.1

pub returns-in_default : goal.returns-in_default
returns-in_default c = λ later v. fault-none c.args.first.now later c.args.file_start c.args.place
    c.args.sums v c.in_default.ensures

pub returns-then-not-is_time_keeping : goal.returns-then-not-is_time_keeping
returns-then-not-is_time_keeping c = λ later v.
    let a = (goal.at.returns-then-not-is_time_keeping c).In-Some in
    fault-untimed (c.args.first.now ∷ later) c.args.file_start c.args.place c.args.sums
    c.in-Some.ensures.0 (the-first a later v)
    c.args.first.now c.in-Some.first.texts.now c.in-Some.first.rest.now c.in-Some.ensures.1
    (λ e. absurd (grind (arith, c.is_time_keeping.ensures.1 e, c.if-not-is_time_keeping.true)))

pub returns-then-not-keeps_second : goal.returns-then-not-keeps_second
returns-then-not-keeps_second c = λ later v.
    let t = c.in-Some.ensures.0 in
    let a = (goal.at.returns-then-not-keeps_second c).In-Some in
    fault-second (c.args.first.now ∷ later) c.args.file_start c.args.place c.args.sums t
    (the-first a later v) (is-empty a (c.if-not-is_time_keeping.ensures.0 refl))
    (λ e. absurd (grind (
      arith,
      (c.keeps_second.ensures t.onset c.in-Some.ensures.2).1 e,
      c.if-not-keeps_second.true,
    )))

pub returns-then-not-sums : goal.returns-then-not-sums
returns-then-not-sums c = λ later v.
    let t = c.in-Some.ensures.0 in
    let a = (goal.at.returns-then-not-sums c).In-Some in
    fault-window (c.args.first.now ∷ later) c.args.file_start c.args.place c.args.sums t
    (the-first a later v) (is-empty a (c.if-not-is_time_keeping.ensures.0 refl))
    ((c.if-not-keeps_second.ensures t.onset c.in-Some.ensures.2).0 refl)
    (λ e. absurd (grind (arith, e, c.if-not-sums.true)))

pub returns-in_default-onset_instant : goal.returns-in_default-onset_instant
returns-in_default-onset_instant c = λ later v.
    let a = (goal.at.returns-in_default-onset_instant c).In-Some in
    let k = the-first a later v in
    let window = not-false c.args.sums.in_window c.if-not-sums.false in
    absurd (c.in_default-onset_instant.ensures c.in-Some.ensures.0.onset c.in-Some.ensures.2
    (k.window.0 window).0.onset)

pub returns-then-not-keeps_order : goal.returns-then-not-keeps_order
returns-then-not-keeps_order c = λ later v.
    let t = c.in-Some.ensures.0 in
    let a = (goal.at.returns-then-not-keeps_order c).In-Some in
    let window = not-false c.args.sums.in_window c.if-not-sums.false in
    let start = (c.in-Some-onset_instant.ensures t.onset c.in-Some.ensures.2).1 in
    fault-order (c.args.first.now ∷ later) c.args.file_start c.args.place c.args.sums t
    (the-first a later v) (is-empty a (c.if-not-is_time_keeping.ensures.0 refl))
    ((c.if-not-keeps_second.ensures t.onset c.in-Some.ensures.2).0 refl) window
    (λ e. absurd (grind (
      arith,
      c.keeps_order.ensures.1
          (subst (StartsInOrder c.args.place) (sym start) e),
      c.if-not-keeps_order.true,
    )))

pub returns-then-sums : goal.returns-then-sums
returns-then-sums c = λ later v.
    let t = c.in-Some.ensures.0 in
    let a = (goal.at.returns-then-sums c).In-Some in
    let window = not-false c.args.sums.in_window c.if-not-sums.false in
    let start = (c.in-Some-onset_instant.ensures t.onset c.in-Some.ensures.2).1 in
    fault-many (c.args.first.now ∷ later) c.args.file_start c.args.place c.args.sums t
    (the-first a later v) (is-empty a (c.if-not-is_time_keeping.ensures.0 refl))
    ((c.if-not-keeps_second.ensures t.onset c.in-Some.ensures.2).0 refl) window
    (subst (StartsInOrder c.args.place) start (c.if-not-keeps_order.ensures.0 refl))
    (λ e. absurd (omega (arith, e.0, e.1, c.then-sums.either)))

pub overflow_sub-result : goal.overflow_sub-result
overflow_sub-result c =
    let a = (goal.at.overflow_sub-result c).In-Some in
    let v = c.requires in
    some-count (c.args.first.now ∷ v.0) c.args.file_start c.args.place c.args.sums
    c.in-Some.ensures.0 (the-first a v.0 v.1) (is-empty a (c.if-not-is_time_keeping.ensures.0 refl))

pub returns : goal.returns
returns c = λ later v.
    let t = c.in-Some.ensures.0 in
    let a = (goal.at.returns c).In-Some in
    let window = not-false c.args.sums.in_window c.if-not-sums.false in
    let start = (c.in-Some-onset_instant.ensures t.onset c.in-Some.ensures.2).1 in
    checked (c.args.first.now ∷ later) c.args.file_start c.args.place c.args.sums t
    (the-first a later v) c.in-Some-onset_instant.start
    (is-empty a (c.if-not-is_time_keeping.ensures.0 refl))
    ((c.if-not-keeps_second.ensures t.onset c.in-Some.ensures.2).0 refl) window start
    (c.if-not-keeps_order.ensures.0 refl)
    (omega (arith, c.if-sums.false), omega (arith, c.if-sums-gt-MOST_TEXT_BYTES.false))
