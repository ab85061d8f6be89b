use Rattle.std.proofs.Common.{◌≡◌, map, length}
use Rattle.edf_mend.specs.Texts.{by_rows, letter_row}
use Rattle.edf_mend.proofs.letters.by_rows.Given as goal

abbrev pub invariant-loop-left : goal.invariant-loop-left
invariant-loop-left l =
    by_rows (map letter_row l.left) l.code ≡ by_rows (map letter_row l.rows) l.code

abbrev pub decreases-loop-left : goal.decreases-loop-left
decreases-loop-left l = length l.left
