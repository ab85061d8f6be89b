use Rattle.std.proofs.Common.{◌≡◌, ◌≢◌, ◌<◌, length, None, sym, ◌∙◌, arith}
use Rattle.std.proofs.lemmas.Bool.{both_ways}
use Rattle.std.proofs.lemmas.Bool.Decides.{nat_tests}
use Rattle.edf_holdings.specs.Clash.{first_other}
use Rattle.edf_intake.proofs.Passed.{other_here, same_here, none_left, held_of_near}
use Rattle.edf_intake.proofs.data_records.verdict_of.Goals as goal

pub returns-then-not-same : goal.returns-then-not-same
returns-then-not-same c =
    let differs : c.args.data_record.now ≢ c.stored-item.result =
    λ p. both_ways _ c.if-not-same.true (c.same.ensures.1 p) in (
      c.stored-item.result,
      sym c.loop-stored.invariant
          ∙ other_here _ _ _ _ c.loop-stored-test.true c.stored-item.is differs,
      c.start.ensures.value,
    )

pub loop-stored-preserved : goal.loop-stored-preserved
loop-stored-preserved c = sym (same_here _ _ _ _ c.loop-stored-test.true c.stored-item.is
    (c.same.ensures.0 c.if-not-same.false)) ∙ c.loop-stored.invariant

pub returns-else-is_empty : goal.returns-else-is_empty
returns-else-is_empty c =
    let none : first_other c.args.data_record.now c.args.near.now
    ≡ None = sym c.loop-stored.invariant ∙ none_left _ _ _ c.loop-stored-test.false in
    let some : 0 < length c.args.near.now = grind (arith, nat_tests) in
    (none, held_of_near _ _ some none)
