use Rattle.std.proofs.Common.{refl, subst}
use Rattle.sqlite_wal.specs.Files.{image_at}
use Rattle.edf_cli.proofs.Puts.{nothing-gets}
use Rattle.edfstore_files.specs.ProgramRun.{IsOpening}
use Rattle.edfstore_files.proofs.opened.run_opened.Goals as goal

pub returns-in-Ok-clause-ran : goal.returns-in-Ok-clause-ran
returns-in-Ok-clause-ran g c = c.run_over.ensures.ran (image_at g.S.Start)
    (subst (IsOpening (image_at g.S.Start)) c.in-Ok.is c.requires)

pub returns-in-Err-clause-unopened : goal.returns-in-Err-clause-unopened
returns-in-Err-clause-unopened g c = let out = c.args.outputs.now.out in (
  c.in-Err.error,
  c.in-Err.is,
  (
    c.from.result,
    c.from.ensures,
    record {
      line = c.refuse.ensures.said;
      noticed = c.refuse.ensures.noticed;
      untouched = (refl, nothing-gets (g.O.Output.contents out) (g.O.Output.failures out));
    },
  ),
)
