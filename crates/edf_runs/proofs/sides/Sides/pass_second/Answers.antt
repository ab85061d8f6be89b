use Rattle.std.proofs.Common.{◌≡◌, refl, sym, subst, rules, Some, Option}
use Rattle.edf_fragment.specs.Fragment.{DataRecord}
use Rattle.edf_runs.specs.Inside.Comparing.{IsOne, IsApartWord}
use Rattle.edf_runs.specs.Inside.Siding.{is_passed}
use Rattle.edf_runs.specs.declared.stretch.Word.{Word}
use Rattle.edf_runs.proofs.ReadOn.{one-some}
use Rattle.edf_runs.proofs.SideBySide.{second-passed}
use Rattle.edf_runs.proofs.sides.Sides.pass_second.Goals as goal

pub returns : goal.returns
returns c = (
  (refl, refl, refl),
  λ s p q next is after was.
      let d = c.args.self.now.duration in
      let one = c.stretch_of-stretch.result in
      let here : c.args.self.now.second ≡ Some c.in-Some.other = search rules in
      let same : c.in-Some.other ≡ s = one-some c.in-Some.other s c.args.self.now.second
      here is in
      second-passed d c.args.self.now.passed c.args.self.now.firsts.items
      c.args.self.now.seconds.items p q c.args.self.now.lasts s c.args.self.now.first next
      c.add_stretch.new.all.items one
      (subst (λ (o : Option DataRecord). is_passed c.args.self.now p q c.args.self.now.first o) is
      was) after c.in_ok-add_stretch.ensures
      (subst (IsOne d one) same c.stretch_of-stretch.ensures.one)
      (subst (λ (w : Word). IsApartWord d c.args.self.now.passed c.args.self.now.first s w)
      (sym c.stretch_of-stretch.ensures.word)
      (subst (λ (x : DataRecord). IsApartWord d c.args.self.now.passed c.args.self.now.first x
      c.apart_word-word.result) same c.apart_word-word.ensures)),
)
