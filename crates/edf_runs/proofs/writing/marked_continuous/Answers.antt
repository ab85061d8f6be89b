use Rattle.std.proofs.Common.{◌≡◌, List, ℕ, ◌++◌, take, drop, arith, ap, ◌∙◌}
use Rattle.std.specs.Prelude.{codes}
use Rattle.std.proofs.lemmas.Grind.{common_steps}
use Rattle.std.proofs.lemmas.List.{drop-drop}
use Rattle.edf_runs.proofs.writing.marked_continuous.Goals as goal

pub returns : goal.returns
returns c =
    let plain = c.args.plain.now in
    let back : c.split_at.result.1.now ≡ drop 192 plain = c.split_at.ensures.back in
    let first : c.in_ok-header.header.items ≡ take 192 plain = c.in_ok-header.ensures.items
    ∙ c.split_at.ensures.front in
    let mark : c.as_slice.result.now ≡ codes "EDF+C" = c.as_slice.ensures in
    let second : c.extend_from_slice.new.self.items ≡ c.in_ok-header.header.items
    ++ c.as_slice.result.now = c.in_ok-extend_from_slice.ensures.items in
    let third : c.extend_from_slice-2.new.self.items ≡ c.extend_from_slice.new.self.items
    ++ drop 5 c.split_at.result.1.now = grind (arith, common_steps) in
    third ∙ ap (λ (x : List ℕ). x ++ drop 5 c.split_at.result.1.now) (second
    ∙ ap (λ (x : List ℕ). x ++ c.as_slice.result.now) first
    ∙ ap (λ (x : List ℕ). take 192 plain ++ x) mark)
    ∙ ap (λ (x : List ℕ). (take 192 plain ++ codes "EDF+C")
    ++ x) (ap (λ (x : List ℕ). drop 5 x) back ∙ drop-drop 5 192 plain)
