use Rattle.edf_runs.proofs.FilledKeys.{other-recording}
use Rattle.edf_runs.proofs.filled_laws.a_filled_file_is_another_recording.Goals as goal

pub returns : goal.returns
returns c = other-recording
