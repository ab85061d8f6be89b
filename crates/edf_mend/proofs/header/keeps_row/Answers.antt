use Rattle.std.proofs.Common.{true≢false, sym, ◌∙◌}
use Rattle.edf_header.specs.Fields.{label_field}
use Rattle.edf_mend.specs.Signal.{SpeaksOfAnnotations}
use Rattle.edf_mend.proofs.Tests.{is-not, not-both}
use Rattle.edf_mend.proofs.header.keeps_row.Goals as goal

pub returns-then-timed : goal.returns-then-timed
returns-then-timed c = λ t. record {
  kept = c.in_ok-keeps_signal.ensures c.if-not-branch.false;
  plain = λ e. absurd (true≢false (sym c.if-timed.true ∙ e));
  silent = λ e. absurd (true≢false (sym c.if-timed.true ∙ e));
  stays_silent = λ e. absurd (true≢false (sym c.if-timed.true ∙ e));
}

pub returns : goal.returns
returns c = λ t. record {
  kept = c.in_ok-keeps_signal.ensures c.if-not-branch.false;
  plain = λ _ l. true≢false (sym (c.is_labelled.ensures.label.1 l) ∙ c.if-is_labelled.false);
  silent = λ _ s. is-not _ (SpeaksOfAnnotations (label_field c.args.old.now)) c.if-branch.false
      c.in_ok-speaks_of_annotations.ensures s;
  stays_silent = λ _ s. not-both _ t (c.in_ok-still.ensures.1 s);
}
