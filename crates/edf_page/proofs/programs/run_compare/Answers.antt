use Rattle.std.proofs.Common.{List, ℕ, subst, sym}
use Rattle.std.proofs.lemmas.Result.{IfOk-weaker}
use Rattle.edfruns_command.specs.Run.{Asked, IsDone}
use Rattle.edfruns_command.specs.Run.Asked.{compare}
use Rattle.edf_page.specs.InsideFolder.{first_name, second_name, two_files}
use Rattle.edf_page.specs.Programs.{CompareDone}
use Rattle.edf_page.proofs.Outcome.{folder_change, from-empty, text_change}
use Rattle.edf_page.proofs.programs.run_compare.Goals as goal

pub returns : goal.returns
returns c =
    let now = c.run_runs-status.new in
    let inputs = c.new-inputs.result in
    let status = c.run_runs-status.result in
    let made = folder_change c.in_ok-none.none now.outputs in
    let out = text_change c.new-out.result now.out in
    let err = text_change c.new-err.result now.err in
    IfOk-weaker c.ran_of.result _ _ (λ ran is.
    subst (CompareDone c.args.first.now c.args.second.now) (sym is.0) (record {
      made = made;
      out = out;
      err = err;
      done = subst (λ (one : List ℕ). IsDone (two_files one c.args.second.now) made out err
          (compare first_name second_name) status) c.new-inputs.ensures.first
          (subst (λ (other : List ℕ). IsDone (two_files inputs.first.now other) made out err
          (compare first_name second_name) status) c.new-inputs.ensures.second
          (subst (λ (asked : Asked). IsDone (two_files inputs.first.now inputs.second.now) made out
          err asked status) c.in_ok-command.ensures c.run_runs-status.ensures.done));
      unfailed = (is.2, is.3);
      written = from-empty c.new-out.result now.out c.new-out.ensures.empty c.new-out.ensures.counted;
      told = from-empty c.new-err.result now.err c.new-err.ensures.empty c.new-err.ensures.counted;
      none = c.new-2.ensures.items;
    })) c.ran_of.ensures
