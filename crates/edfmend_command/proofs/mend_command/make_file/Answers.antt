use Rattle.std.proofs.Common.{refl, sym, inl, inr, []}
use Rattle.edf_mend.specs.declared.fault.MendFault.TheVariants.{Write}
use Rattle.edfmend_command.proofs.Readings.{troubled, part-removed}
use Rattle.edfmend_command.proofs.mend_command.make_file.Goals as goal

pub returns-in-Err-finish-clause-answer : goal.returns-in-Err-finish-clause-answer
returns-in-Err-finish-clause-answer g c = λ planned.
    let before = g.M.NewFiles.made c.args.maker.now in
    let e = c.in-Err-finish.ensures.made before c.args.name.now c.in-Ok.ensures.made in
    record {
      stops = troubled (g.I.Inputs.bytes c.args.inputs.now c.args.file.now) c.args.wanted.now Write
          (inr (inr refl));
      leaves = part-removed before _ _ _ c.remove-is_left.result e.1 refl
          (c.remove-is_left.ensures.made before [] _ e.1 (sym c.count-place.ensures));
    }

pub returns-in-Err-clause-answer : goal.returns-in-Err-clause-answer
returns-in-Err-clause-answer g c = λ planned.
    let before = g.M.NewFiles.made c.args.maker.now in
    let e = c.abandon.ensures.made before c.args.name.now c.in-Ok.ensures.made in
    record {
      stops = c.in-Err.ensures.answer planned;
      leaves = part-removed before _ _ _ c.remove-is_left-in-Err.result e refl
          (c.remove-is_left-in-Err.ensures.made before [] _ e (sym c.count-place.ensures));
    }

pub returns-in_default-clause-answer : goal.returns-in_default-clause-answer
returns-in_default-clause-answer g c = λ planned. record {
  stops = troubled (g.I.Inputs.bytes c.args.inputs.now c.args.file.now) c.args.wanted.now Write
      (inr (inr refl));
  leaves = inl (c.in_default.ensures.made, refl);
}
