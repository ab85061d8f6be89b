use Rattle.std.proofs.Common.{◌≡◌, ℕ, [], take, arith, refl, subst, ap, rules}
use Rattle.std.specs.Io.KnownBytes.{Consumes}
use Rattle.edf_fragment.proofs.Steps.{one_byte, none-read}
use Rattle.edf_fragment.proofs.advance.find_end.Goals as goal

pub returns-in-Full : goal.returns-in-Full
returns-in-Full g c = record {
  step = one_byte _ _ c.fill.new.buf (omega arith) (c.in-Full.ensures.full refl);
  counted = search rules;
}

pub returns-in-Cut : goal.returns-in-Cut
returns-in-Cut g c =
    let cut = c.in-Cut.ensures.cut c.in-Cut.at refl in
    let none : c.in-Cut.at ≡ 0 = omega (arith, cut.0) in
    let nil : take c.in-Cut.at c.fill.new.buf ≡ [] = ap (λ (n : ℕ). take n c.fill.new.buf) none in
    record {
      step = (subst (Consumes _ _) nil cut.1, cut.2);
      counted = search rules;
    }

pub returns-in-Failed : goal.returns-in-Failed
returns-in-Failed g c = record {
  step = none-read _ _ _ (omega arith) (c.in-Failed.ensures.stopped refl);
  counted = search rules;
}
