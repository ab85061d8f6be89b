use Rattle.std.proofs.Common.{◌≡◌, Some, refl, ap}
use Rattle.std.proofs.lemmas.Result.{IfOk-at_ok}
use Rattle.edfruns_command.specs.Run.{meaning}
use Rattle.edf_page.proofs.Files.{written-of}
use Rattle.edf_page.proofs.running.written_of.Goals as goal

pub returns-in-Done : goal.returns-in-Done
returns-in-Done c asked is = written-of asked (meaning c.in-Ok.command) c.new-input.result.bytes.now
    c.args.bytes.now c.run_runs.new.out.bytes.items _ _ _
    (IfOk-at_ok (λ k. meaning k ≡ asked) c.in-Ok.is is) c.new-input.ensures.bytes
    c.in-Done.ensures.done (record {
      empty = ap Some c.new-out.ensures.empty;
      unfailed = c.new-out.ensures.counted;
      is = refl;
    })
