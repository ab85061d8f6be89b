use Rattle.std.proofs.Common.{sym, subst}
use Rattle.edf_header.specs.Key.{Key}
use Rattle.edf_mend.specs.Laws.{NamesRecording}
use Rattle.edf_mend.proofs.Named.{names-recording}
use Rattle.edf_mend.proofs.laws.nobody_is_merged.Goals as goal

pub returns : goal.returns
returns c = λ w a key rs n asked x. subst (λ (k : Key). NamesRecording x.first k) (sym x.key_is)
    (names-recording w x.first x.second x.timed x.h asked x.header)
