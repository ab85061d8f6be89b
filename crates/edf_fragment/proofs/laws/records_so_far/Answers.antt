use Rattle.edf_fragment.proofs.Sound.{read-key, read-sound, read-begins, read-front}
use Rattle.edf_fragment.proofs.laws.records_so_far.Goals as goal

pub returns : goal.returns
returns c = record { key = read-key; sound = read-sound; begins = read-begins; prefix = read-front }
