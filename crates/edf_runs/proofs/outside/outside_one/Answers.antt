use Rattle.std.proofs.Common.{sym, ap, Some, None}
use Rattle.std.specs.Prelude.{cond, not}
use Rattle.edf_runs.proofs.OutsideCounts.{outside-value}
use Rattle.edf_runs.proofs.outside.outside_one.Goals as goal

pub returns-in-Some-clause-value : goal.returns-in-Some-clause-value
returns-in-Some-clause-value c = λ rise.
    sym (ap (λ b. cond (not b) 1 0) (outside-value c.args.duration c.args.onset
    c.args.starts.now (Some c.in-Some.field-0) (c.in-Some.ensures rise)))

pub returns-in-None-clause-value : goal.returns-in-None-clause-value
returns-in-None-clause-value c = λ rise.
    sym (ap (λ b. cond (not b) 1 0) (outside-value c.args.duration c.args.onset
    c.args.starts.now None (c.in-None.ensures rise)))
