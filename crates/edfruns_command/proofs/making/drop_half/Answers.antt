use Rattle.std.proofs.Common.{◌≡◌, ◌∷◌, [], List, arith, ap, length, length-append}
use Rattle.edf_cli.specs.Made.{MadeFile, half}
use Rattle.edfruns_command.proofs.MakingFiles.{dropped}
use Rattle.edfruns_command.proofs.making.drop_half.Goals as goal

pub returns-clause-half : goal.returns-clause-half
returns-clause-half g c files name is =
    let held = g.P.Writer.Output.contents c.args.writer in
    let made = c.abandon.ensures.made files name is in
    let last : length files ≡ c.saturating_sub-last.result = omega (
      arith,
      c.count.ensures,
      ap (λ (fs : List MadeFile). length fs) made,
      length-append files (half name held ∷ []),
    ) in
    dropped files name held (g.P.NewFiles.made c.remove-is_gone.new.self) c.remove-is_gone.result
    (c.remove-is_gone.ensures.made files [] (half name held) made last)
