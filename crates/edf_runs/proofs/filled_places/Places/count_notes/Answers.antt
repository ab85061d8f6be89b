use Rattle.std.proofs.Common.{◌≡◌, ◌+◌, ◌≤◌, length, rules, arith, ◌∙◌, inl, inr}
use Rattle.std.proofs.lemmas.Bool.{cases_lt}
use Rattle.std.proofs.lemmas.List.{nil_from_length}
use Rattle.edf_runs.proofs.Coming.{count-here, count-last}
use Rattle.edf_runs.proofs.filled_places.Places.count_notes.Goals as goal

pub returns-then-is_over-clause-value : goal.returns-then-is_over-clause-value
returns-then-is_over-clause-value c placed last next same =
    let p = c.args.self.now in
    let over : (p.left ≡ 0) × (length p.later.now ≡ 0) = search rules in
    count-last p.parts.now p.notes.now c.args.end p.nth p.left last p.later.now next over.0
    (nil_from_length p.later.now over.1) same

pub returns-clause-value : goal.returns-clause-value
returns-clause-value c placed last next same =
    let p = c.args.self.now in
    let no : ¬ ((p.left ≡ 0) × (length p.later.now ≡ 0)) = search rules in
    let some : 1 ≤ p.left + length p.later.now = elim (cases_lt 0 (p.left + length p.later.now)) [
      | inl lt ↦ lt
      | inr le ↦ absurd (no (omega (arith, le), omega (arith, le)))
    ] in
    c.count_earlier.ensures.value
    ∙ count-here p.parts.now p.notes.now c.args.end p.nth p.left last p.later.now next
    p.parts.now.division.some some placed.1 same
