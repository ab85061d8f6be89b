use Rattle.std.proofs.Common.{◌<◌, length, take, arith, refl, inl, rules}
use Rattle.edf_fragment.proofs.HeaderParts.{cut_header, told_first}
use Rattle.std.proofs.lemmas.List.{length-take}
use Rattle.edf_fragment.proofs.Steps.{fewer}
use Rattle.edf_fragment.proofs.opening.read_fixed_part.Goals as goal

pub returns-in-Cut : goal.returns-in-Cut
returns-in-Cut g c =
    let cut = c.in-Cut.ensures.cut c.in-Cut.at refl in
    let few : length (take c.in-Cut.at c.fill.new.buf) < 256 =
    omega (arith, cut.0, length-take c.in-Cut.at c.fill.new.buf) in
    record {
      step = record {
        bytes = take c.in-Cut.at c.fill.new.buf;
        read = cut.1;
        is_fault = cut_header _ few;
        ended = λ _. cut.2;
        no_signals = λ low. omega (arith, few);
        no_records = λ n has. omega (arith, few);
      };
      counted = search rules;
    }

pub returns-in-Err : goal.returns-in-Err
returns-in-Err g c = record {
  step = told_first _ _ c.fill.new.buf _ _ (omega arith) (c.in-Full.ensures.full refl)
      c.header_refusal.ensures.other c.in-Err.ensures;
  counted = search rules;
}

pub returns-in-Failed : goal.returns-in-Failed
returns-in-Failed g c = record {
  step = inl (fewer _ _ _ _ (omega arith) (c.in-Failed.ensures.stopped refl));
  counted = search rules;
}
