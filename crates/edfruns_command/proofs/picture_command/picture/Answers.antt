use Rattle.std.proofs.Common.{ℕ, List, ◌∙◌, inl, inr, subst, string_bytes, Option}
use Rattle.edf_cli.specs.Output.{output_change}
use Rattle.edf_cli.proofs.Puts.{nothing-gets}
use Rattle.edf_cli.proofs.Undone.{trouble-undone}
use Rattle.edfruns_command.specs.Lines.{unwritten_line, standard_output}
use Rattle.edfruns_command.specs.Picturing.{SendsPicture, StopsAgain}
use Rattle.edfruns_command.proofs.Answered.{file-undone, opened-again, opened-refused, opened-twice}
use Rattle.edfruns_command.proofs.Answered.{refused}
use Rattle.edfruns_command.proofs.picture_command.picture.Goals as goal

pub returns-in-Err-clause-pictured : goal.returns-in-Err-clause-pictured
returns-in-Err-clause-pictured g c =
    inr (inr (refused (output_change g.O.Output c.args.out.now c.args.out.now)
    (output_change g.F.Output c.args.err.now c.refuse.new.err)
    (g.I.Inputs.bytes c.args.inputs.now c.args.file.now) c.args.file.now c.in-Err.fault
    c.refuse.result
    (nothing-gets (g.O.Output.contents c.args.out.now) (g.O.Output.failures c.args.out.now))
    c.in-Err.ensures.answer c.refuse.ensures))

pub returns-in-Err-clause-opened : goal.returns-in-Err-clause-opened
returns-in-Err-clause-opened g c = opened-refused _ _ _ _ c.in-Err.ensures.opened
    (file-undone _ _ _ _ c.refuse.ensures)

pub returns-in-Ok-draw_file-clause-pictured : goal.returns-in-Ok-draw_file-clause-pictured
returns-in-Ok-draw_file-clause-pictured g c = inl (record {
  listing = c.in-Ok.listing;
  has = c.in-Ok.ensures.answer;
  picture = string_bytes c.in-Ok-draw_file.picture;
  is_picture = c.in-Ok-draw_file.ensures.answer;
  sent = subst (λ (bytes : List ℕ). SendsPicture
      (output_change g.O.Output c.args.out.now c.send_picture.new.out)
      (output_change g.F.Output c.args.err.now c.send_picture.new.err) bytes
      (unwritten_line standard_output) c.send_picture.result) c.as_str.ensures.value
      c.send_picture.ensures;
})

pub returns-in-Ok-draw_file-clause-opened : goal.returns-in-Ok-draw_file-clause-opened
returns-in-Ok-draw_file-clause-opened g c =
    opened-twice _ _ _ _ _ c.in-Ok.ensures.opened c.in-Ok-draw_file.ensures.opened

pub returns-in-Ok-draw_file-clause-same : goal.returns-in-Ok-draw_file-clause-same
returns-in-Ok-draw_file-clause-same g c =
    λ name. c.in-Ok-draw_file.ensures.same name ∙ c.in-Ok.ensures.same name

pub returns-clause-pictured : goal.returns-clause-pictured
returns-clause-pictured g c = inr (inl (record {
  listing = c.in-Ok.listing;
  has = c.in-Ok.ensures.answer;
  why = c.in-Err-draw_file.fault;
  stops = subst (λ (bytes : Option (List ℕ)). StopsAgain bytes c.in-Ok.listing
      c.in-Err-draw_file.fault) (c.in-Ok.ensures.same c.args.file.now)
      c.in-Err-draw_file.ensures.answer;
  said = (
    nothing-gets (g.O.Output.contents c.args.out.now) (g.O.Output.failures c.args.out.now),
    c.print_reread.ensures,
  );
}))

pub returns-clause-opened : goal.returns-clause-opened
returns-clause-opened g c = opened-again _ _ _ _ _ c.in-Ok.ensures.opened
    c.in-Err-draw_file.ensures.opened (trouble-undone _ _ _ c.print_reread.ensures)

pub returns-clause-same : goal.returns-clause-same
returns-clause-same g c =
    λ name. c.in-Err-draw_file.ensures.same name ∙ c.in-Ok.ensures.same name
