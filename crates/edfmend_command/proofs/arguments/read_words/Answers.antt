use Rattle.std.proofs.lemmas.Result.{IfOk-weaker}
use Rattle.edfmend_command.proofs.arguments.read_words.Goals as goal

pub returns-in-Ok : goal.returns-in-Ok
returns-in-Ok c =
    IfOk-weaker c.command_of.result _ _ (λ command h. (_, h)) c.command_of.ensures.mean
