use Rattle.edf_holdings.proofs.Added.{add_stays_sound, nothing_is_sound}
use Rattle.edf_holdings.proofs.Sound.{stays_sound}
use Rattle.edf_holdings.proofs.ParsedIsWellFormed.{parsed_is_well_formed}
use Rattle.edf_holdings.proofs.laws.stays_sound.Goals as goal

pub returns-clause-well_formed : goal.returns-clause-well_formed
returns-clause-well_formed c = parsed_is_well_formed

pub returns-clause-none : goal.returns-clause-none
returns-clause-none c = nothing_is_sound

pub returns-clause-after : goal.returns-clause-after
returns-clause-after c = stays_sound

pub returns-clause-add : goal.returns-clause-add
returns-clause-add c = add_stays_sound
