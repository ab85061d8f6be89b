use Rattle.std.proofs.Common.{true}
use Rattle.std.proofs.lemmas.Result.{IfOk-weaker}
use Rattle.edfruns_command.specs.Run.Asked.{picture}
use Rattle.edf_page.specs.Inside.{recording_name}
use Rattle.edf_page.proofs.Files.{draws-file}
use Rattle.edf_page.proofs.running.draw.Goals as goal

pub returns : goal.returns
returns c = IfOk-weaker c.written_of.result _ _
    (λ text done. draws-file done.out done.err c.args.bytes.now text.items recording_name
    done.is_text.empty done.is_text.is done.done)
    (c.written_of.ensures (picture recording_name true) c.picture_of.ensures)
