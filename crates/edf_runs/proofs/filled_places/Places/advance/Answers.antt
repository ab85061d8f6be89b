use Rattle.std.proofs.Common.{◌≡◌, ◌+◌, ◌-◌, ◌≤◌, ◌<◌, ℕ, List, ◌∷◌, map, rules, arith, refl, subst}
use Rattle.std.proofs.Common.{◌∙◌, sym, ap}
use Rattle.edf_runs.specs.Filled.{place_of}
use Rattle.edf_runs.specs.Inside.Stretching.{Rise}
use Rattle.edf_runs.proofs.Coming.{flat-comes, first-comes}
use Rattle.edf_runs.proofs.filled_places.Places.advance.Goals as goal

pub returns-then-nth-place_of : goal.returns-then-nth-place_of
returns-then-nth-place_of c =
    let p = c.args.self.now in
    let parts = p.parts.now in
    let g = parts.division.parts in
    let start = c.in-Some.start.now in
    let later = c.in-Some.later.now in
    let later-is : p.later.now ≡ start ∷ later = search rules in
    let none : p.left ≡ 0 = omega arith in
    let far : p.nth < place_of parts.division.unit parts.first start =
    omega (arith, c.if-nth-place_of.true, c.place_of.ensures.value) in
    record {
      parts = refl;
      notes = refl;
      nth = refl;
      part = parts.division.some;
      goes = λ placed.
          let rise = subst (λ (l : List ℕ). Rise g (p.nth + p.left)
          (map (place_of parts.division.unit parts.first) l)) later-is placed.1 in
          let on : (p.nth + 1) + p.left ≤ place_of parts.division.unit parts.first start =
          omega (arith, far, none) in (
            (
              placed.0,
              subst (λ (l : List ℕ). Rise g ((p.nth + 1) + p.left)
                  (map (place_of parts.division.unit parts.first) l)) (sym later-is)
                  (on, rise.1),
            ),
            (
              refl,
              λ last next same. flat-comes parts start later p.nth p.left last next none far
                  (same ∙ later-is),
            ),
          );
    }

pub returns : goal.returns
returns c =
    let p = c.args.self.now in
    let parts = p.parts.now in
    let g = parts.division.parts in
    let u = parts.division.unit in
    let start = c.in-Some.start.now in
    let later = c.in-Some.later.now in
    let later-is : p.later.now ≡ start ∷ later = search rules in
    let none : p.left ≡ 0 = omega arith in
    let some : 1 ≤ g = parts.division.some in
    let low : place_of u parts.first start ≤ p.nth =
    omega (arith, c.if-nth-place_of.false, c.place_of.ensures.value) in
    record {
      parts = refl;
      notes = refl;
      nth = refl;
      part = some;
      goes = λ placed.
          let rise = subst (λ (l : List ℕ). Rise g (p.nth + p.left)
          (map (place_of u parts.first) l))
          later-is placed.1 in
          let here : p.nth ≡ place_of u parts.first start = omega (arith, low, rise.0, none) in
          let on : place_of u parts.first start + g ≡ (p.nth + 1) + (g - 1) =
          omega (arith, here, some) in (
            (
              omega (arith, some),
              subst (λ (n : ℕ). Rise g n (map (place_of u parts.first) later)) on rise.1,
            ),
            (
              later-is,
              λ last r next is same. first-comes parts p.nth p.left last r next none some
                  (here ∙ ap (place_of u parts.first) (sym is)),
            ),
          );
    }
