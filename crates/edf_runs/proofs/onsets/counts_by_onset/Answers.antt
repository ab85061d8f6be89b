use Rattle.std.proofs.Common.{◌≡◌, ℕ, List, [], ◌∷◌, ◌++◌, length, sym, ap, ◌∙◌, subst, rules}
use Rattle.std.specs.Prelude.{MatchOption, Option}
use Rattle.edf_tal.specs.Block.{IsWithinLimits}
use Rattle.edf_tal.specs.Tal.{Annotation}
use Rattle.edf_runs.specs.Inside.Spreading.{spread}
use Rattle.edf_runs.proofs.OutlineByOnset.{CountedSoFar, none-counted, next-counted, one-counted}
use Rattle.edf_runs.proofs.OutlineByOnset.{crowded-next}
use Rattle.edf_runs.proofs.onsets.counts_by_onset.Goals as goal

pub starts-init : goal.starts-init
starts-init c = λ records is.
    subst (λ (x : List ℕ). CountedSoFar (spread c.args.notes.now records) c.args.starts.now x
    c.args.notes.now) (sym c.new-counts.ensures.items)
    (none-counted c.args.notes.now records c.args.starts.now is)

pub returns-in_default-2 : goal.returns-in_default-2
returns-in_default-2 c = λ records is.
    let starts = c.args.starts.now in
    let start = c.in-Some.start.now in
    let rest = c.in-Some.rest.now in
    let left = c.starts.left.now in
    let n = next-counted (spread c.args.notes.now records) start c.starts.later.now rest
    c.starts.counts.items left c.in-Some.ensures.cases.0 (c.starts.invariant records is) in
    let over : ¬ IsWithinLimits c.split_at.result.0.now = search rules in
    crowded-next c.args.duration c.args.notes.now records start starts rest c.starts.counts.items
    left is n c.count_before.result c.saturating_sub-passed.result c.count_runs.result
    (c.count_before.ensures.value n.others n.rest_is)
    (λ within. over (subst IsWithinLimits (sym c.split_at.ensures.front) within)) (search rules)
    (λ rs taken. c.count_runs.ensures rs taken)

pub starts-preserved : goal.starts-preserved
starts-preserved c = λ records is.
    let all = spread c.args.notes.now records in
    let start = c.in-Some.start.now in
    let rest = c.in-Some.rest.now in
    let left = c.starts.left.now in
    let size = c.count_before.result in
    let more = c.push.new.self.items in
    let here = c.split_at.ensures.front in
    let count = c.in-Some-2.count in
    let within = c.split_at.result.0.now in
    let counted = subst (λ (o : Option ℕ). MatchOption o (¬ IsWithinLimits within)
    (λ (m : ℕ). (m ≡ length within) × IsWithinLimits within)) c.in-Some-2.is
    c.in_ok-count.ensures in
    let n = next-counted all start c.starts.later.now rest c.starts.counts.items left
    c.in-Some.ensures.cases.0 (c.starts.invariant records is) in
    let pushed : more ≡ c.starts.counts.items ++ count ∷ [] = search rules in
    subst (CountedSoFar all rest more) (sym c.split_at.ensures.back)
    (one-counted all start count rest c.starts.counts.items more left n size
    (c.count_before.ensures.value n.others n.rest_is)
    (counted.0 ∙ ap (λ (x : List Annotation). length x) here)
    (subst IsWithinLimits here counted.1) pushed)
