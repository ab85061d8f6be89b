use Rattle.edfstore_open.proofs.opening.open_standing.Goals as goal

pub returns-in-Ok-keep : goal.returns-in-Ok-keep
returns-in-Ok-keep g c = c.in-Ok-settled.ensures.opening _ c.in-Ok.ensures
