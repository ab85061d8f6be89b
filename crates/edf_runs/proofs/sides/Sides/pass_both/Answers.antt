use Rattle.std.proofs.Common.{◌≡◌, refl, sym, subst, rules, Some, Option, ◌++◌, ◌∷◌, []}
use Rattle.edf_fragment.specs.Fragment.{DataRecord}
use Rattle.edf_runs.specs.Inside.Comparing.{IsOne, IsMetWord, IsPassed}
use Rattle.edf_runs.specs.Inside.Siding.{is_passed}
use Rattle.edf_runs.specs.declared.stretch.Word.{Word}
use Rattle.edf_runs.proofs.ReadOn.{one-some}
use Rattle.edf_runs.proofs.SideBySide.{both-passed}
use Rattle.edf_runs.proofs.sides.Sides.pass_both.Goals as goal

pub returns : goal.returns
returns c = (
  (refl, refl, refl),
  λ f s p q next next' is is' starts was.
      let d = c.args.self.now.duration in
      let met = c.stretch_of-met.result in
      let stretch = c.stretch_of-stretch.result in
      let one = c.in-Some-Some.one in
      let other = c.in-Some-Some.other in
      let here : c.args.self.now.first ≡ Some one = search rules in
      let here' : c.args.self.now.second ≡ Some other = search rules in
      let same : one ≡ f = one-some one f c.args.self.now.first here is in
      let same' : other ≡ s = one-some other s c.args.self.now.second here' is' in
      let ones = subst (IsOne d met) same c.stretch_of-met.ensures.one in
      let others = subst (IsOne d stretch) same' c.stretch_of-stretch.ensures.one in
      let word : IsMetWord f s stretch.word = subst (λ (w : Word). IsMetWord f s w)
      (sym c.stretch_of-stretch.ensures.word)
      (subst (λ (x : DataRecord). IsMetWord f x c.met_word.result) same'
      (subst (λ (x : DataRecord). IsMetWord x other c.met_word.result) same c.met_word.ensures)) in
      let at-both = subst (λ (o : Option DataRecord). is_passed c.args.self.now p q (Some f) o) is'
      (subst (λ (o : Option DataRecord). is_passed c.args.self.now p q o c.args.self.now.second) is
      was) in
      subst (λ x. IsPassed d x c.add_stretch.new.all.items c.add_stretch-2.new.all.items
      (p ++ f ∷ []) (q ++ s ∷ []) next next') (sym ones.to)
      (both-passed d c.args.self.now.passed c.args.self.now.firsts.items
      c.args.self.now.seconds.items p q c.args.self.now.lasts f s next next'
      c.add_stretch.new.all.items c.add_stretch-2.new.all.items met stretch at-both starts
      c.in_ok-add_stretch.ensures ones c.stretch_of-met.ensures.word
      c.in_ok-add_stretch-2.ensures others word),
)
