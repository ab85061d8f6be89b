use Rattle.edf_cli.proofs.words.fault_by.Goals as goal

pub returns-in-Ok-clause-usage : goal.returns-in-Ok-clause-usage
returns-in-Ok-clause-usage c = λ mistake. tt

pub returns-in-Ok-2-clause-help : goal.returns-in-Ok-2-clause-help
returns-in-Ok-2-clause-help c = λ asked. tt
