use Rattle.std.proofs.Common.{◌∙◌}
use Rattle.edfruns_command.proofs.sight.noted.Goals as goal

pub returns : goal.returns
returns c = record {
  onset = c.nanos.ensures.value ∙ c.onset.ensures.value;
  duration = c.duration.ensures.value;
  text = c.in_ok-text.ensures.ok ∙ c.text.ensures.value;
}
