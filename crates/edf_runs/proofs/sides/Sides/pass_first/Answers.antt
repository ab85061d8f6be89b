use Rattle.std.proofs.Common.{◌≡◌, refl, sym, subst, rules, Some, Option, ◌++◌, ◌∷◌, []}
use Rattle.edf_fragment.specs.Fragment.{DataRecord}
use Rattle.edf_runs.specs.Inside.Comparing.{IsOne, IsPassed}
use Rattle.edf_runs.specs.Inside.Siding.{is_passed}
use Rattle.edf_runs.proofs.ReadOn.{one-some}
use Rattle.edf_runs.proofs.SideBySide.{first-passed}
use Rattle.edf_runs.proofs.sides.Sides.pass_first.Goals as goal

pub returns : goal.returns
returns c = (
  (refl, refl, refl),
  λ f p q next is after was.
      let d = c.args.self.now.duration in
      let one = c.stretch_of-stretch.result in
      let here : c.args.self.now.first ≡ Some c.in-Some.one = search rules in
      let same : c.in-Some.one ≡ f = one-some c.in-Some.one f c.args.self.now.first here is
      in
      let ones = subst (IsOne d one) same c.stretch_of-stretch.ensures.one in
      subst (λ x. IsPassed d x c.add_stretch.new.all.items c.args.self.now.seconds.items
      (p ++ f ∷ []) q next c.args.self.now.second) (sym ones.to)
      (first-passed d c.args.self.now.passed c.args.self.now.firsts.items
      c.args.self.now.seconds.items p q c.args.self.now.lasts f next c.args.self.now.second
      c.add_stretch.new.all.items one
      (subst (λ (o : Option DataRecord). is_passed c.args.self.now p q o c.args.self.now.second) is
      was) after c.in_ok-add_stretch.ensures ones c.stretch_of-stretch.ensures.word),
)
