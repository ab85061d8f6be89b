use Rattle.std.proofs.Common.{◌≡◌, ◌≤◌, ℕ, suc, ◌+◌, List, [], ◌∷◌, ◌++◌, length, take, rules}
use Rattle.std.proofs.Common.{arith, sym}
use Rattle.std.proofs.Common.{ap, ◌∙◌, subst, inl, inr}
use Rattle.std.proofs.lemmas.List.{take_more}
use Rattle.edf_fragment.specs.Fragment.{DataRecord}
use Rattle.edf_runs.specs.Crowded.{IsRunCount}
use Rattle.edf_runs.proofs.Noted.{starts_of}
use Rattle.edf_runs.proofs.RunCounts.{next-taken, one-more, taken-all}
use Rattle.edf_runs.proofs.outline.count_runs.Goals as goal
use Rattle.edf_runs.proofs.outline.count_runs.Goals.{then-ne, else-ne}

pub loop-start-preserved : goal.loop-start-preserved
loop-start-preserved c =
    let few = c.loop-start.invariant.few in
    record {
      few = elim c.if-ne.branch [
        | then-ne w ↦ omega (arith, few, w.count-is)
        | else-ne w ↦ omega (arith, few, w.count-is)
      ];
      so_far = λ records is.
          let d = c.args.duration in
          let i = c.loop-start.start-index in
          let start = c.start-item.result in
          let next : suc i ≡ i + 1 = omega arith in
          let more : take (i + 1) c.args.starts.now ≡ take i c.args.starts.now ++ start ∷ [] =
          search (rules, take_more) in
          one-more d records i start c.nanos-in-loop-start.result c.loop-start.count c.if-ne.count
          c.loop-start.end
          (next-taken records i start (ap (λ (k : ℕ). take k (starts_of records)) next
          ∙ ap (take (i + 1)) is ∙ more
          ∙ ap (λ (l : List ℕ). take i l ++ start ∷ []) (sym is))) (search rules)
          (c.loop-start.invariant.so_far records is) (elim c.if-ne.branch [
            | then-ne w ↦ inr (search rules, w.count-is)
            | else-ne w ↦ inl (search rules, w.count-is)
          ]);
    }

pub returns : goal.returns
returns c = λ records is.
    let d = c.args.duration in
    let i = c.loop-start.start-index in
    let le : length c.args.starts.now ≤ i = search rules in
    let len = ap (λ (l : List ℕ). length l) is in
    subst (λ (l : List DataRecord). IsRunCount d l c.loop-start.count)
    (taken-all records i (omega (arith, le, len)))
    (c.loop-start.invariant.so_far records is).counted
