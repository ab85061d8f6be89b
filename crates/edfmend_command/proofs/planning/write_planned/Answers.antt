use Rattle.std.proofs.Common.{subst, refl, sym}
use Rattle.std.specs.Prelude.{MatchResult}
use Rattle.edf_mend.specs.declared.mending.Mended.{Mended}
use Rattle.edfmend_command.specs.Inside.{Plans, MendsAs, is_good}
use Rattle.edfmend_command.specs.Run.{IsNotMended}
use Rattle.edfmend_command.specs.declared.planning.Plan.{Plan}
use Rattle.edfmend_command.proofs.Readings.{strictly, not-strictly, leniently}
use Rattle.edfmend_command.proofs.planning.write_planned.Goals as goal

pub returns-in-Ok : goal.returns-in-Ok
returns-in-Ok g c =
    let left = g.R.Input.remaining c.args.input.now in
    let w = c.args.wanted.now in
    let before = g.W.Output.contents c.args.out.now in
    let after = g.W.Output.contents c.write_canonical.new.out in
    let mended : Mended = record { changes = c.new.result; left_out = 0 } in
    record {
      answer = λ planned.
          let p = subst (λ (plan : Plan). Plans left w plan) c.in-Strict.is planned in
          let one = p.1.1 in
          subst (λ (plan : Plan). MendsAs left w (is_good plan) before after mended)
          (sym c.in-Strict.is) (strictly c.in-Strict.outline _ before after c.in-Ok.field-0 left w
          p.0 p.1 mended c.new.ensures.items refl
          (c.in-Ok.ensures.answer one.layout.key one.records one.is_outline));
    }

pub returns-in-Err : goal.returns-in-Err
returns-in-Err g c = record {
  answer = λ planned.
      let p = subst (λ (plan : Plan). Plans (g.R.Input.remaining c.args.input.now)
      c.args.wanted.now plan) c.in-Strict.is planned in
      let one = p.1.1 in
      not-strictly (g.R.Input.remaining c.args.input.now) _ _ c.args.wanted.now
      c.in-Strict.outline c.in-Err.fault c.fault_of.result p.1
      (c.in-Err.ensures.answer one.layout.key one.records one.is_outline) c.fault_of.ensures;
}

pub returns-in-Lenient : goal.returns-in-Lenient
returns-in-Lenient g c =
    let left = g.R.Input.remaining c.args.input.now in
    let w = c.args.wanted.now in
    let before = g.W.Output.contents c.args.out.now in
    let after = g.W.Output.contents c.write_mended.new.out in
    record {
      answer = λ planned.
          let p = subst (λ (plan : Plan). Plans left w plan) c.in-Lenient.is planned in
          subst (λ (plan : Plan). MatchResult c.write_mended.result
          (MendsAs left w (is_good plan) before after) (IsNotMended left w)) (sym c.in-Lenient.is)
          (leniently left _ before after w c.write_mended.result c.write_mended.ensures p);
    }
