use Rattle.std.proofs.Common.{◌≡◌, ℕ, List, ◌+◌, ◌++◌, drop}
use Rattle.edfruns_command.specs.Lines.{IsInstantFormat, run_lines}
use Rattle.edfruns_command.proofs.lines.list_text.Given as goal

abbrev pub invariant-loop-at : goal.invariant-loop-at
invariant-loop-at l = (spell : ℕ → List ℕ) → IsInstantFormat spell →
    l.text.items ++ run_lines spell l.fn.listing.identity l.fn.label (l.at + 1) (drop l.at l.runs)
    ≡ run_lines spell l.fn.listing.identity l.fn.label 1 l.runs
