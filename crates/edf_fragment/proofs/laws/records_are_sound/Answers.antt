use Rattle.edf_fragment.proofs.Sound.{spelled-key, spelled-lasts, spelled-some, spelled-few}
use Rattle.edf_fragment.proofs.Sound.{spelled-sound, spelled-begins}
use Rattle.edf_fragment.proofs.laws.records_are_sound.Goals as goal

pub returns : goal.returns
returns c = record {
  key = spelled-key;
  lasting = spelled-lasts;
  some = spelled-some;
  few =
      spelled-few;
  sound = spelled-sound;
  begins = spelled-begins;
}
