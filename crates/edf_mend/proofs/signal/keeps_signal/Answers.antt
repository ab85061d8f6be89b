use Rattle.std.proofs.Common.{inl, inr, sym, ◌∙◌, true≢false}
use Rattle.edf_mend.proofs.signal.keeps_signal.Goals as goal

pub returns-then-is_labelled : goal.returns-then-is_labelled
returns-then-is_labelled c = λ t. record {
  samples = c.in_ok-is_numeral.ensures c.if-not-branch.false;
  kind = inl (c.is_labelled.ensures.label.0 c.if-is_labelled.true, c.in_ok-was_labelled.ensures t);
}

pub returns : goal.returns
returns c = λ t. record {
  samples = c.in_ok-is_numeral.ensures c.if-not-branch.false;
  kind = inr (
    λ l. true≢false (sym (c.is_labelled.ensures.label.1 l) ∙ c.if-is_labelled.false),
    c.in_ok-keeps_ordinary.ensures t,
  );
}
