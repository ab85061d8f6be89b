use Rattle.std.proofs.Common.{subst, sym, arith, List, ℕ, All}
use Rattle.std.specs.Prelude.{IsTrue}
use Rattle.std.specs.Char.{is_ascii_digit}
use Rattle.edf_mend.specs.Body.{TimeReadsAs}
use Rattle.edf_mend.proofs.Blocks.{cut-off}
use Rattle.edf_mend.proofs.block.cut_time.Goals as goal

pub returns-then-are_digits : goal.returns-then-are_digits
returns-then-are_digits c = subst (λ (l : List ℕ). TimeReadsAs c.args.text.now l)
    (sym c.split_at.ensures.front)
    (cut-off c.args.text.now c.loop-i.i (omega arith) c.if-b-eq46.true
    (subst (All (λ b. IsTrue (is_ascii_digit b))) c.split_at.ensures.back
    (c.are_digits.ensures.0 c.if-are_digits.true)))
