-- What bytes amount to is sound.
use Rattle.edf_fragment.specs.Parsed.{Fragment, Fault}
use Rattle.edf_holdings.specs.Laws.{ParsedIsWellFormed}
use Rattle.edf_fragment.proofs.Sound.{spelled-key, spelled-sound, spelled-begins}

pub parsed_is_well_formed : ParsedIsWellFormed
parsed_is_well_formed bytes (Fragment key records) s = (
  spelled-key bytes key records s,
  spelled-sound bytes key records s,
  spelled-begins bytes key records s,
)
parsed_is_well_formed bytes (Fault fault) s = tt
