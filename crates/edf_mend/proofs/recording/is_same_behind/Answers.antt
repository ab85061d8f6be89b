use Rattle.std.proofs.Common.{ℕ, List, [], ◌∷◌, ◌++◌, ap, sym, ◌∙◌}
use Rattle.edf_field.specs.Text.{subfields}
use Rattle.edf_mend.proofs.Parts.{one-more}
use Rattle.edf_mend.proofs.recording.is_same_behind.Goals as goal

pub loop-preserved : goal.loop-preserved
loop-preserved c =
    let one = c.in-Some-Some.one.now in
    let same = c.is_same.ensures.0 c.if-not-is_same.false in
    let inv = c.loop.invariant in (
      inv.0 ++ one ∷ [],
      one-more _ _ _ _ _ inv.1 c.in-Some-Some.ensures,
      one-more _ _ _ _ _ inv.2 (c.in-Some-Some.ensures'
          ∙ ap (λ (l : List ℕ). l ∷ subfields c.in-Some-Some.rest.now) (sym same)),
    )
