use Rattle.std.proofs.Common.{◌∙◌, refl, inr}
use Rattle.edf_cli.specs.Made.{finished, unnamed}
use Rattle.edf_cli.proofs.Filled.{filled}
use Rattle.edfruns_command.proofs.making.make_file.Goals as goal

pub returns-in-Ok-finish-clause-answer : goal.returns-in-Ok-finish-clause-answer
returns-in-Ok-finish-clause-answer g c =
    let w = c.in-Ok-write_run.ensures.written in
    let before = g.P.Writer.Output.contents c.in-Ok.writer in
    let after = g.P.Writer.Output.contents c.write_run.new.out in
    let name = c.args.name.now in
    record {
      records = w.records;
      read = w.read;
      listed = w.listed;
      file = finished name after;
      made = c.in-Ok-finish.ensures.made (g.P.NewFiles.made c.args.outputs.now) name
          c.in-Ok.ensures.made;
      named = refl;
      held = record {
        finished = refl;
        is_whole = refl;
        file = w.file;
        is_file = w.is_file;
        held = λ known. filled before after w.file (c.in-Ok.ensures.empty known) w.wrote;
      };
      unfailed = c.in-Ok-finish.ensures.failed ∙ c.in-Ok.ensures.failed;
    }

pub returns-in-Err-finish-clause-answer : goal.returns-in-Err-finish-clause-answer
returns-in-Err-finish-clause-answer g c =
    let ended = c.in-Err-finish.ensures.made (g.P.NewFiles.made c.args.outputs.now)
    c.args.name.now c.in-Ok.ensures.made in
    inr (record {
      part = unnamed c.args.name.now _ (g.P.Writer.Output.contents c.write_run.new.out) ended.0;
      behind = ended.1;
      named = refl;
      is_half = refl;
    })

pub returns-in-Err-clause-answer : goal.returns-in-Err-clause-answer
returns-in-Err-clause-answer g c = inr (c.drop_half.ensures.half
    (g.P.NewFiles.made c.args.outputs.now) c.args.name.now c.in-Ok.ensures.made)
