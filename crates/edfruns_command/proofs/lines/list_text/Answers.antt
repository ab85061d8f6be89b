use Rattle.std.proofs.Common.{◌≡◌, ◌∙◌, ◌+◌, ◌++◌, ℕ, List, [], ap, sym, arith, append-nil}
use Rattle.std.proofs.Common.{drop}
use Rattle.std.specs.Prelude.{slice_get}
use Rattle.std.proofs.lemmas.List.{drop_all}
use Rattle.edf_runs.specs.declared.run.Run.{Run}
use Rattle.edfruns_command.specs.Lines.{run_front, run_lines}
use Rattle.edfruns_command.proofs.RunLines.{line-more}
use Rattle.edfruns_command.proofs.lines.list_text.Goals as goal

pub loop-at-init : goal.loop-at-init
loop-at-init c spell is =
    ap (λ (t : List ℕ). t ++ run_lines spell c.args.listing.now.identity c.args.label.now 1
    c.as_slice-runs.result.now) c.new-text.ensures.items

pub loop-at-preserved : goal.loop-at-preserved
loop-at-preserved c spell is =
    let k = c.args.listing.now.identity in
    let label = c.args.label.now in
    let runs = c.as_slice-runs.result.now in
    let at = c.loop-at.at in
    let run = c.index-runs-at.result in
    let text = c.loop-at.text.items in
    let front = c.in_ok-front.front.items in
    let end = c.in_ok-end.end.items in
    let later = run_lines spell k label ((at + 1) + 1) (drop (at + 1) runs) in
    let lined : c.extend_from_slice-in-loop-at-2.new.self.items ≡ ((text ++ label) ++ front) ++ end =
    c.in_ok-extend_from_slice-3.ensures.items
    ∙ ap (λ (t : List ℕ). t ++ c.as_slice-in-loop-at.result.now) (c.in_ok-extend_from_slice-2.ensures.items
    ∙ ap (λ (t : List ℕ). t ++ c.as_slice.result.now) c.in_ok-extend_from_slice.ensures.items
    ∙ ap (λ (t : List ℕ). (text ++ label) ++ t) c.as_slice.ensures.value)
    ∙ ap (λ (t : List ℕ). ((text ++ label) ++ front) ++ t) c.as_slice-in-loop-at.ensures.value in
    ap (λ (t : List ℕ). t ++ later) lined
    ∙ line-more spell k label text runs at run front end c.loop-at-test.true c.index-runs-at.is
    (c.in_ok-front.ensures spell is
    ∙ ap (run_front spell c.duration-duration.result (at + 1) run) c.run_at.ensures
    ∙ ap (λ (n : ℕ). run_front spell n (at + 1) run (slice_get runs (at + 1)))
    c.duration-duration.ensures.value)
    c.in_ok-end.ensures
    ∙ c.loop-at.invariant spell is

pub returns : goal.returns
returns c = λ spell is.
    let k = c.args.listing.now.identity in
    let label = c.args.label.now in
    let runs = c.as_slice-runs.result.now in
    let at = c.loop-at.at in
    let none : drop at runs ≡ [] = drop_all at runs (omega (arith, c.loop-at-test.false)) in
    sym (append-nil c.loop-at.text.items)
    ∙ ap (λ (rs : List Run). c.loop-at.text.items ++ run_lines spell k label (at + 1) rs) (sym none)
    ∙ c.loop-at.invariant spell is
    ∙ ap (run_lines spell k label 1) c.as_slice-runs.ensures.value
