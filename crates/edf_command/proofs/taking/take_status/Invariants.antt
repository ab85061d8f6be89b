use Rattle.std.proofs.Common.{◌≡◌, fold, take}
use Rattle.edf_cli.specs.Status.{worse}
use Rattle.edf_command.specs.Lines.{answer_status}
use Rattle.edf_cli.specs.declared.status.Status.TheVariants.{Done}
use Rattle.edf_command.proofs.taking.take_status.Given as goal

abbrev pub invariant-loop-answer : goal.invariant-loop-answer
invariant-loop-answer l = l.status ≡ fold (λ status answer. worse status (answer_status answer))
    Done (take l.answer-index l.answers)
