use Rattle.edf_runs.proofs.Taken.{pieces-and-card-are-taken}
use Rattle.edf_runs.proofs.laws.pieces_and_card_are_taken.Goals as goal

pub returns : goal.returns
returns c = pieces-and-card-are-taken
