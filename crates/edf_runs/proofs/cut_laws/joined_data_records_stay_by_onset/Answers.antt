use Rattle.edf_runs.proofs.CutLaws.{stay-by-onset}
use Rattle.edf_runs.proofs.cut_laws.joined_data_records_stay_by_onset.Goals as goal

pub returns : goal.returns
returns c = stay-by-onset
