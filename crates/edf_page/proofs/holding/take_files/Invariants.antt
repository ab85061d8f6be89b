use Rattle.std.proofs.Common.{map, take}
use Rattle.edf_page.specs.Inside.{TakesGiven}
use Rattle.edf_page.proofs.holding.take_files.Given as goal

abbrev pub invariant-loop-file : goal.invariant-loop-file
invariant-loop-file l = TakesGiven l.fn.store l.store (map (λ line. line.items) l.lines.items)
    (take l.file-index l.files)
