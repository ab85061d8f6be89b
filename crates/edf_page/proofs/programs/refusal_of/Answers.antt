use Rattle.std.proofs.Common.{subst, sym}
use Rattle.std.proofs.lemmas.Result.{IfOk-weaker}
use Rattle.edf_page.specs.Programs.{TellsUsage}
use Rattle.edf_page.proofs.Outcome.{from-empty, text_change}
use Rattle.edf_page.proofs.programs.refusal_of.Goals as goal

pub returns : goal.returns
returns c =
    let now = c.print_fault-status.new in
    IfOk-weaker c.ran_of.result _ _ (λ ran is. subst (TellsUsage c.args.text) (sym is.0) (record {
      out = text_change c.new-out.result now.out;
      err = text_change c.new-err.result now.err;
      says = c.print_fault-status.ensures;
      unfailed = is.3;
      written = from-empty c.new-out.result now.out c.new-out.ensures.empty c.new-out.ensures.counted;
      told = from-empty c.new-err.result now.err c.new-err.ensures.empty c.new-err.ensures.counted;
      none = c.new.ensures.items;
    })) c.ran_of.ensures
