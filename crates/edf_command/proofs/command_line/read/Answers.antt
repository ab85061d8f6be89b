use Rattle.std.proofs.Common.{◌∙◌, arith, sym}
use Rattle.std.proofs.lemmas.Result.{err_from_is_err_and}
use Rattle.clap.specs.Simple.{app_of}
use Rattle.edf_command.proofs.Answers.{fails_asked, fails_mistaken, matches_asked}
use Rattle.edf_command.proofs.Answers.{request_answers, request_fails, lacks_memory}
use Rattle.edf_command.proofs.command_line.read.Goals as goal

pub returns-in-Err : goal.returns-in-Err
returns-in-Err c = record {
  reads = λ v. tt;
  refuses = λ v other.
      fails_asked (app_of c.in_ok-command.command) c.args.words.now c.in-Err.error
      c.in_ok-command.ensures.0 v c.requires.some (omega arith) c.in-Err.ensures.kinds
      (λ oom. other (c.fault_by.ensures.memory oom));
  usage = λ v.
      c.fault_by.ensures.usage (fails_mistaken (app_of c.in_ok-command.command) c.args.words.now
      c.in-Err.error c.in_ok-command.ensures.0 v c.requires.some (omega arith)
      c.in-Err.ensures.kinds);
  help = λ v.
      request_answers (app_of c.in_ok-command.command) c.args.words.now c.in-Err.error
      c.fault_by.result c.in_ok-command.ensures.0 v c.in-Err.ensures.kinds
      c.fault_by.ensures.memory c.fault_by.ensures.help;
}

pub returns : goal.returns
returns c = record {
  reads = λ v.
      c.in_ok-order_in.ensures
      ∙ sym (matches_asked (app_of c.in_ok-command.command) c.args.words.now c.in-Ok.matches
      c.in_ok-command.ensures.0 v c.requires.some (omega arith) c.in-Ok.ensures.kinds
      c.in-Ok.ensures.ok.2);
  refuses = λ v. tt;
  usage = λ v. tt;
  help = λ v. absurd (request_fails (app_of c.in_ok-command.command) c.args.words.now
      c.in_ok-command.ensures.0 v c.in-Ok.ensures.kinds);
}

pub returns-in_err-order_in : goal.returns-in_err-order_in
returns-in_err-order_in c =
    let e = c.from_residual-in_err-order_in in
    let p = err_from_is_err_and e.result e.ensures.1 in
    rw p.1 (lacks_memory c.args.words.now p.0 p.2)
