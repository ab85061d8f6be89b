use Rattle.std.proofs.Common.{Bool, ℕ, List, subst, sym, ◌≡◌, ◌++◌}
use Rattle.std.specs.Prelude.{OnOk}
use Rattle.edf_mend.specs.Body.{PartReadsAs}
use Rattle.edf_mend.proofs.block.push_part.Goals as goal

pub returns-then-are_times : goal.returns-then-are_times
returns-then-are_times c = subst (λ (b : Bool). OnOk c.push_times.result ((x : List ℕ)
    × PartReadsAs b c.args.text.now x × (c.push_times.new.out.items ≡ c.args.out.now.items ++ x)))
    (sym c.if-are_times.true) c.push_times.ensures

pub returns-else-are_times : goal.returns-else-are_times
returns-else-are_times c = subst (λ (b : Bool). OnOk c.push_text.result ((x : List ℕ)
    × PartReadsAs b c.args.text.now x × (c.push_text.new.out.items ≡ c.args.out.now.items ++ x)))
    (sym c.if-are_times.false) c.push_text.ensures
