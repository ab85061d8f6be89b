use Rattle.std.proofs.Common.{inl, inr, refl}
use Rattle.edf_cli.proofs.Opened.{opened-once}
use Rattle.edfmend_command.proofs.Readings.{troubled}
use Rattle.edfmend_command.proofs.planning.write_again.Goals as goal

pub returns-in-Ok-clause-opened : goal.returns-in-Ok-clause-opened
returns-in-Ok-clause-opened g c = opened-once _ _ _ c.in-Ok.ensures.names

pub returns-in-Err-clause-answer : goal.returns-in-Err-clause-answer
returns-in-Err-clause-answer g c = λ planned. troubled _ _ _ (inr (inl refl))
