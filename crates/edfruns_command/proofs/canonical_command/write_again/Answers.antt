use Rattle.edf_cli.specs.Output.{output_change}
use Rattle.edf_cli.proofs.Opened.{opened-once}
use Rattle.edfruns_command.proofs.Answered.{counts-write}
use Rattle.edfruns_command.proofs.CanonicalOut.{wrote-file, stops-file}
use Rattle.edfruns_command.proofs.canonical_command.write_again.Goals as goal

pub returns-in-Ok-write_canonical-clause-answer : goal.returns-in-Ok-write_canonical-clause-answer
returns-in-Ok-write_canonical-clause-answer g c = λ k ones is.
    wrote-file (output_change g.O.Output c.args.out.now c.write_canonical.new.out) _ _
    c.in-Ok.ensures.reader k ones _ _ (c.in-Ok-write_canonical.ensures.answer k ones is)
    c.in-Ok-write_canonical.ensures.counted.1

pub returns-clause-answer : goal.returns-clause-answer
returns-clause-answer g c = λ k ones is.
    let why = c.in-Err.fault in
    let w = output_change g.O.Output c.args.out.now c.write_canonical.new.out in
    stops-file w _ _ c.in-Ok.ensures.reader k ones why (c.in-Err.ensures.answer k ones is)
    (counts-write w _ _ why c.in-Err.ensures.counted)

pub returns-clause-opened : goal.returns-clause-opened
returns-clause-opened g c = opened-once _ _ _ c.in-Ok.ensures.names
