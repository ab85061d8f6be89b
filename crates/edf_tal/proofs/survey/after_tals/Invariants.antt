use Rattle.std.proofs.Common.{length}
use Rattle.edf_tal.specs.Inside.Scan.{FollowsTals}
use Rattle.edf_tal.proofs.survey.after_tals.Given as goal

abbrev pub invariant-loop-tal : goal.invariant-loop-tal
invariant-loop-tal l = FollowsTals l.bytes l.rest

abbrev pub decreases-loop-tal : goal.decreases-loop-tal
decreases-loop-tal l = length l.rest
