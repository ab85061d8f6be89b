use Rattle.std.proofs.Common.{List, ℕ, subst}
use Rattle.std.specs.Prelude.{Option}
use Rattle.std.proofs.lemmas.Result.{IfOk-weaker}
use Rattle.edf_cli.proofs.Opened.{opened-either}
use Rattle.edf_runs.specs.Twice.{IsFilledOut}
use Rattle.edfruns_command.proofs.fill_command.write_again.Goals as goal

pub returns-in-Ok-clause-written : goal.returns-in-Ok-clause-written
returns-in-Ok-clause-written g c =
    let bytes = g.I.Inputs.bytes c.args.inputs.now c.args.file.now in
    let before = g.O.Output.contents c.args.out.now in
    let after = g.O.Output.contents c.write_filled.new.out in
    IfOk-weaker c.write_filled.result _ _
    (λ none filled limits rest outline is keeps.
    subst (λ (b : Option (List ℕ)). IsFilledOut limits bytes b before
    after)
    c.in-Ok.ensures.reader (filled limits bytes rest outline is keeps)) c.write_filled.ensures.written

pub returns-in-Ok-clause-opened : goal.returns-in-Ok-clause-opened
returns-in-Ok-clause-opened g c =
    opened-either c.write_filled.result _ _ _ c.in-Ok.ensures.names
