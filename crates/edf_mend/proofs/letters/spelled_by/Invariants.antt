use Rattle.std.proofs.Common.{◌≡◌, map, take}
use Rattle.std.specs.List.{flat_map}
use Rattle.edf_mend.specs.Texts.{letters, letter_row}
use Rattle.edf_mend.proofs.letters.spelled_by.Given as goal

abbrev pub invariant-loop-code : goal.invariant-loop-code
invariant-loop-code l =
    l.spelled.items ≡ flat_map (letters (map letter_row l.rows)) (take l.code-index l.code-items)
