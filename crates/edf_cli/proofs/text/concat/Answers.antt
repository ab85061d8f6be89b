use Rattle.std.proofs.Common.{◌≡◌, ap, sym, ◌∙◌, arith, List, ℕ, ◌+◌, ◌<◌, ◌++◌, length, take}
use Rattle.std.proofs.Common.{get_or}
use Rattle.std.specs.List.{flat_map}
use Rattle.std.proofs.lemmas.List.{take_all}
use Rattle.edf_cli.proofs.Parts.{lines-more}
use Rattle.edf_cli.proofs.text.concat.Goals as goal

-- one part more
one_more : {X : Type 0} (f : X → List ℕ) (xs : List X) (i : ℕ) (d : X) (was now : List ℕ) →
    i < length xs → was ≡ flat_map f (take i xs) → now ≡ was ++ f (get_or xs i d) →
    now ≡ flat_map f (take (i + 1) xs)
one_more f xs i d was now lt before put =
    put ∙ ap (λ (t : List ℕ). t ++ f (get_or xs i d)) before ∙ sym (lines-more f xs i d lt)

pub loop-part-preserved : goal.loop-part-preserved
loop-part-preserved c = one_more (λ part. part.now) c.args.parts.now c.loop-part.part-index _ _ _
    c.loop-part-test.true c.loop-part.invariant c.in_ok-extend_from_slice.ensures.items

pub returns : goal.returns
returns c = c.loop-part.invariant ∙ ap (flat_map (λ part. part.now))
    (take_all c.loop-part.part-index c.args.parts.now (omega (arith, c.loop-part-test.false)))
