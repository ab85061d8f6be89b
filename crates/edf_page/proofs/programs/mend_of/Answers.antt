use Rattle.std.proofs.Common.{List, ℕ, Some, subst, sym}
use Rattle.std.proofs.lemmas.Result.{IfOk-weaker}
use Rattle.edfmend_command.specs.Run.{IsMendDone, meaning}
use Rattle.edf_page.specs.Programs.{MendDone}
use Rattle.edf_page.proofs.Outcome.{folder_change, from-empty, made-in-memory, text_change}
use Rattle.edf_page.proofs.programs.mend_of.Goals as goal

pub returns : goal.returns
returns c =
    let file = c.args.file.now in
    let asked = meaning c.args.command.now in
    let folder = c.in_ok-folder.folder in
    let now = c.run_mend-status.new in
    let made = folder_change folder now.maker in
    let out = text_change c.new-out.result now.out in
    let err = text_change c.new-err.result now.err in
    IfOk-weaker c.ran_of.result _ _ (λ ran is.
    subst (MendDone file.name.now file.bytes.now asked) (sym is.0) (record {
      made = made;
      out = out;
      err = err;
      done = subst (λ (b : List ℕ). IsMendDone made out err (Some b) asked c.run_mend-status.result)
          c.new-input.ensures.bytes c.run_mend-status.ensures.done;
      files = made-in-memory file folder now.maker c.in_ok-files.files.items
          c.in_ok-folder.ensures.given c.in_ok-folder.ensures.named c.in_ok-folder.ensures.none
          c.in_ok-folder.ensures.unfailed c.in_ok-files.ensures.given_back
          c.in_ok-files.ensures.gone;
      unfailed = (is.1, is.2, is.3);
      written = from-empty c.new-out.result now.out c.new-out.ensures.empty c.new-out.ensures.counted;
      told = from-empty c.new-err.result now.err c.new-err.ensures.empty c.new-err.ensures.counted;
    })) c.ran_of.ensures
