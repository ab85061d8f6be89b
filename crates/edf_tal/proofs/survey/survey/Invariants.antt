use Rattle.std.proofs.Common.{length}
use Rattle.edf_tal.specs.Inside.Scan.{IsSurvey}
use Rattle.edf_tal.proofs.survey.survey.Given as goal

abbrev pub invariant-loop-tal : goal.invariant-loop-tal
invariant-loop-tal l = IsSurvey l.block l.file_start l.rest l.in_window l.count l.text_bytes

abbrev pub decreases-loop-tal : goal.decreases-loop-tal
decreases-loop-tal l = length l.rest
