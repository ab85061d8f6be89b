use Rattle.edf_mend.proofs.Labels.{labelled-stays, beside}
use Rattle.edf_mend.proofs.laws.annotations_are_no_samples.Goals as goal

pub returns : goal.returns
returns c = λ w a key rs n i x lt. (
  λ label. labelled-stays _ _ (x.header.signals.each i lt).kept label,
  λ speaks. beside x.timed x.header.n x.second x.h x.header.strict_signals i x.header.signals
      x.header.are_signals lt speaks,
)
