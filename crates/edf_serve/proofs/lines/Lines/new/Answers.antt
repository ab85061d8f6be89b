use Rattle.edf_serve.proofs.Feeds.{nothing-yet}
use Rattle.edf_serve.proofs.lines.Lines.new.Goals as goal

pub returns-clause-left : goal.returns-clause-left
returns-clause-left g c = nothing-yet c.in_ok-vec.field-0.items (g.R.Input.remaining c.args.input)
