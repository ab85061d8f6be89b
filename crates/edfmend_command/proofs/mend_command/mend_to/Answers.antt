use Rattle.std.proofs.Common.{inl, inr, false, refl, arith, Bool, subst, sym}
use Rattle.edf_cli.proofs.Filled.{filled}
use Rattle.edf_cli.proofs.Puts.{nothing-gets}
use Rattle.edfmend_command.specs.Run.{IsMendedFile}
use Rattle.edfmend_command.proofs.Opened.{at-most, then-more}
use Rattle.edfmend_command.proofs.mend_command.mend_to.Goals as goal

pub returns-in-Ok-make_file-clause-done : goal.returns-in-Ok-make_file-clause-done
returns-in-Ok-make_file-clause-done g c =
    let makes = (rw (
      c.is_there.ensures.known,
      c.is_there.ensures.made,
      c.in-Ok.ensures.same c.args.file.now,
    ) at c.in-Ok-make_file.ensures.answer)
    c.in-Ok.ensures.plan in
    inr (inl (record {
      new = makes.mends.new;
      is_mended = record {
        is_good = c.is_good.result;
        mended = c.in-Ok-make_file.mended;
        is_mended = subst (λ (b : Bool). IsMendedFile
            (g.I.Inputs.bytes c.args.inputs.now c.args.file.now) c.args.wanted.now b
            c.in-Ok-make_file.mended makes.mends.new) (sym c.is_good.ensures)
            makes.mends.is_mended;
        printed = c.print_ledger.ensures;
      };
      free = c.if-is_there.ensures.answer;
      held = makes.held;
      made = makes.made;
      holds = λ known. filled makes.start makes.held makes.mends.new (makes.empty known)
          makes.mends.wrote;
    }))

pub returns-clause-done : goal.returns-clause-done
returns-clause-done g c =
    let stops = (rw (c.is_there.ensures.made, c.in-Ok.ensures.same c.args.file.now) at
    c.in-Err-make_file.ensures.answer) c.in-Ok.ensures.plan in
    inr (inr (record {
      is_left = c.in-Err-make_file.stop.is_left;
      is_refused = record {
        why = c.in-Err-make_file.stop.fault;
        is_why = stops.stops;
        unsaid = nothing-gets (g.O.Output.contents c.args.out.now)
            (g.O.Output.failures c.args.out.now);
        said = c.refuse-in-Err-make_file.ensures;
      };
      free = c.if-is_there.ensures.answer;
      leaves = stops.leaves;
    }))

pub returns-in-Err-clause-done : goal.returns-in-Err-clause-done
returns-in-Err-clause-done g c = inr (inr (record {
  is_left = false;
  is_refused = record {
    why = c.in-Err.fault;
    is_why = c.in-Err.ensures.trouble;
    unsaid = nothing-gets (g.O.Output.contents c.args.out.now)
        (g.O.Output.failures c.args.out.now);
    said = c.refuse.ensures;
  };
  free = c.if-is_there.ensures.answer;
  leaves = inl (c.is_there.ensures.made, refl);
}))

pub returns-in-Ok-make_file-clause-opened : goal.returns-in-Ok-make_file-clause-opened
returns-in-Ok-make_file-clause-opened g c = then-more _ _ _ c.args.file.now 2 1 3 (omega arith)
    c.in-Ok.ensures.opened c.in-Ok-make_file.ensures.opened

pub returns-clause-opened : goal.returns-clause-opened
returns-clause-opened g c = then-more _ _ _ c.args.file.now 2 1 3 (omega arith)
    c.in-Ok.ensures.opened c.in-Err-make_file.ensures.opened

pub returns-in-Err-clause-opened : goal.returns-in-Err-clause-opened
returns-in-Err-clause-opened g c =
    at-most _ _ c.args.file.now 2 3 (omega arith) c.in-Err.ensures.opened
