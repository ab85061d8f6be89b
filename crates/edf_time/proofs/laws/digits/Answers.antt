use Rattle.edf_time.proofs.Digits.{digit_is, digit_only}
use Rattle.edf_time.proofs.laws.digits.Goals as goal

pub returns : goal.returns
returns c = record { bytes = digit_only; value = digit_is }
