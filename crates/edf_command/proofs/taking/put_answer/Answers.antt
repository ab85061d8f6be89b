use Rattle.std.proofs.Common.{true}
use Rattle.std.proofs.lemmas.Result.{IfOk-weaker}
use Rattle.edf_command.specs.Lines.{take_line}
use Rattle.edf_cli.specs.Output.{IsLineWritten}
use Rattle.edf_cli.proofs.Puts.{remarked}
use Rattle.edf_command.proofs.taking.put_answer.Goals as goal

pub returns-then-not-put_line : goal.returns-then-not-put_line
returns-then-not-put_line g c spell is =
    c.if-not-put_line.ensures.put (take_line spell c.args.name.now c.args.answer.now)
    (IfOk-weaker c.take_line.result _ _ (λ r p. p spell is) c.take_line.ensures)

pub returns-in-Ok : goal.returns-in-Ok
returns-in-Ok g c spell is =
    c.if-not-put_line.ensures.put (take_line spell c.args.name.now c.args.answer.now)
    (IfOk-weaker c.take_line.result _ _ (λ r p. p spell is) c.take_line.ensures)

pub returns-in-Err : goal.returns-in-Err
returns-in-Err g c spell is =
    let line = take_line spell c.args.name.now c.args.answer.now in
    remarked (g.O.Output) c.args.out.now c.put_line.new.out c.remark.new.self
    (λ w. IsLineWritten w line true) c.remark.ensures.contents c.remark.ensures.failures
    (c.if-not-put_line.ensures.put line
    (IfOk-weaker c.take_line.result _ _ (λ r p. p spell is) c.take_line.ensures))
