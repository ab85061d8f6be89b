use Rattle.edf_time.proofs.InstantTexts.{one-instant, one-instant_text}
use Rattle.edf_time.proofs.laws.one_instant_text.Goals as goal

pub returns : goal.returns
returns c = record { instant = one-instant; text = one-instant_text }
