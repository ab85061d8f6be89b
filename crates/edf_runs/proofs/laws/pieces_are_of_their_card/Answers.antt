use Rattle.edf_runs.proofs.Pieces.{pieces-are-of-card}
use Rattle.edf_runs.proofs.laws.pieces_are_of_their_card.Goals as goal

pub returns : goal.returns
returns c = pieces-are-of-card
