use Rattle.std.proofs.Common.{◌∷◌, []}
use Rattle.std.proofs.lemmas.Result.{IfOk-weaker}
use Rattle.edfruns_command.specs.Run.Asked.{list}
use Rattle.edf_page.specs.Inside.{recording_name}
use Rattle.edf_page.proofs.Files.{lists-file}
use Rattle.edf_page.proofs.running.list_runs_of.Goals as goal

pub returns : goal.returns
returns c = IfOk-weaker c.written_of.result _ _
    (λ text done. lists-file done.out done.err c.args.bytes.now text.items recording_name
    done.is_text.empty done.is_text.is done.done)
    (c.written_of.ensures (list (recording_name ∷ [])) c.list_of.ensures)
