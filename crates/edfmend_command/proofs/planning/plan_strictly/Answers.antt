use Rattle.std.proofs.Common.{rules, ◌≡◌, List, ℕ, length, Option, subst}
use Rattle.std.specs.Prelude.{IfSome}
use Rattle.edf_cli.proofs.Opened.{opened-once}
use Rattle.edfmend_command.specs.Inside.{PlansStrictly}
use Rattle.edfmend_command.specs.Run.{IsGood}
use Rattle.edfmend_command.proofs.Readings.{no-good, planned}
use Rattle.edfmend_command.proofs.planning.plan_strictly.Goals as goal

pub returns-in-Ok-read_outline_of-clause-plan : goal.returns-in-Ok-read_outline_of-clause-plan
returns-in-Ok-read_outline_of-clause-plan g c =
    let found = c.in-Ok-read_outline_of.found in
    subst (λ (b : Option (List ℕ)). IfSome c.length-bytes.result
    (λ n. IfSome b (λ file. length file ≡ n)) → PlansStrictly b found) c.in-Ok.ensures.reader
    (λ told. planned _ _ c.length-bytes.result found told c.in-Ok-read_outline_of.ensures.answer)
    c.length-bytes.ensures

pub returns-in-Err-Memory-clause-opened : goal.returns-in-Err-Memory-clause-opened
returns-in-Err-Memory-clause-opened g c =
    opened-once (g.I.Inputs.opened c.args.inputs.now) (g.I.Inputs.opened c.open.new.self)
    c.args.file.now c.in-Ok.ensures.names

pub returns : goal.returns
returns g c = record {
  plan = subst (λ (b : Option (List ℕ)). IfSome b (λ file. ¬ IsGood file))
      c.in-Ok.ensures.reader
      (no-good _ _ c.in-Err.field-0 c.in-Err.ensures.answer (search rules)
      (search rules));
  trouble = tt;
  opened = c.in-Ok.ensures.names;
  same = c.in-Ok.ensures.same;
}
