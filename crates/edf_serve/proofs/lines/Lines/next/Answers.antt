use Rattle.std.proofs.Common.{◌≡◌, ◌++◌, ◌∙◌, List, ℕ, take, slice_range, option_map, sym, ap}
use Rattle.std.proofs.Common.{arith}
use Rattle.std.proofs.lemmas.Grind.{common_steps}
use Rattle.edf_fragment.specs.Failures.{saturating_increment}
use Rattle.std.specs.Vec.{with_items}
use Rattle.std.proofs.lemmas.List.{with_items_is}
use Rattle.edf_serve.specs.Lines.{Coming}
use Rattle.edf_serve.proofs.Feeds.{is-next, slice-front}
use Rattle.edf_serve.proofs.lines.Lines.next.Goals as goal

pub returns : goal.returns
returns g c =
    let mid = with_items c.self.inside.buffer c.to_front-end.new.buffer in
    let mid-are : mid.items ≡ c.to_front-end.new.buffer =
    grind (arith, common_steps, with_items_is) in
    let now-is : c.deref_mut-2.result.now ≡ c.to_front-end.new.buffer =
    c.deref_mut-2.ensures.value ∙ mid-are in
    let F = take c.to_front-end.result c.deref_mut-2.result.now in
    let old = g.R.Input.remaining c.self.inside.input in
    let kept : slice_range c.self.inside.buffer.items c.self.inside.taken c.self.inside.end ≡ F =
    ap (λ (b : List ℕ). slice_range b c.self.inside.taken c.self.inside.end)
    (sym c.deref_mut.ensures.value)
    ∙ sym c.to_front-end.ensures.moved ∙ ap (take c.to_front-end.result) (sym now-is) in
    let left-is : c.args.self.now.left ≡ option_map (λ xs. F ++ xs) old =
    ap (λ (v : Coming). v.left) (sym c.self.view_is)
    ∙ ap (λ (x : List ℕ). option_map (λ xs. x ++ xs) old) kept in
    let failed-is : c.args.self.now.failed ≡ g.R.Input.failures c.self.inside.input =
    ap (λ (v : Coming). v.failed) (sym c.self.view_is) in
    let found = c.gather-found.result in
    let ens = c.gather-found.ensures in
    let B = c.gather-found.new.buffer in
    let new = g.R.Input.remaining c.gather-found.new.input in
    let after = with_items (with_items c.self.inside.buffer c.to_front-end.new.buffer) B in
    let items-are : after.items ≡ B = grind (arith, common_steps, with_items_is) in
    is-next c.args.self.now _ F (slice_range B found.taken found.end) (take found.end B) old new
    found.next left-is
    (ap (λ (b : List ℕ). option_map (λ xs. slice_range b found.taken found.end ++ xs) new)
    items-are) ens.gathered
    (λ is. rw items-are (ens.line is))
    (λ no. ap (λ (n : ℕ). slice_range B n found.end) (ens.none no) ∙ slice-front B found.end)
    (λ is. (ap (λ (n : ℕ). take n B) (ens.ended is).0, (ens.ended is).1))
    (λ is. ens.failed is ∙ ap saturating_increment (sym failed-is))
    (λ no. ens.unfailed no ∙ sym failed-is)
