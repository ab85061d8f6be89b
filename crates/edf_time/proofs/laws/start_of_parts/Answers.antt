use Rattle.edf_time.proofs.Startdates.{start-of-dated, start-of-undated}
use Rattle.edf_time.proofs.laws.start_of_parts.Goals as goal

pub returns : goal.returns
returns c = record { dated = start-of-dated; undated = start-of-undated }
