use Rattle.std.proofs.Common.{◌≡◌, ◌<◌, ℕ, List, sym, ◌∙◌, subst, arith, All, length, map}
use Rattle.std.proofs.Common.{string_bytes}
use Rattle.std.proofs.Common.{◌≢◌, Option, None, IfSome}
use Rattle.std.specs.Prelude.{Contains}
use Rattle.std.proofs.lemmas.List.{take_all, length-map}
use Rattle.edf_cli.specs.There.{Entry, IsVacant, MayBeThere}
use Rattle.edfruns_command.proofs.Walking.{all-more, mapped}
use Rattle.edfruns_command.proofs.split_command.taken_name.Goals as goal

-- of what is known of a name
abbrev MayHave : Option Entry → Type 0
MayHave known = IfSome known (λ found. found ≢ None)

abbrev HasNone : Option Entry → Type 0
HasNone known = IfSome known (λ found. found ≡ None)

pub returns-then-is_there-clause-answer : goal.returns-then-is_there-clause-answer
returns-then-is_there-clause-answer g c =
    let all = c.args.names.now in
    let names = map string_bytes all in
    let at = c.loop-name.name-index in
    let name = string_bytes c.name-item.result in
    let lt : at < length names = omega (arith, c.loop-name-test.true, length-map all string_bytes)
    in
    let is = mapped all at c.name-item.result c.loop-name-test.true c.name-item.is string_bytes in
    let there = g.P.NewFiles.there c.args.outputs.now in
    let same = subst (λ (n : List ℕ). g.P.NewFiles.there c.loop-name.outputs n ≡ there name)
    (sym c.as_str.ensures.value) (c.loop-name.invariant.there name) in
    let taken : MayBeThere there name = subst MayHave same c.if-is_there.ensures.answer in
    let value = c.as_str-then-is_there.ensures.value in
    subst (λ (n : List ℕ). Contains names n × MayBeThere there n) (sym value)
    ((at, lt, sym is), taken)

pub loop-name-preserved : goal.loop-name-preserved
loop-name-preserved g c =
    let all = c.args.names.now in
    let names = map string_bytes all in
    let at = c.loop-name.name-index in
    let name = string_bytes c.name-item.result in
    let lt : at < length names = omega (arith, c.loop-name-test.true, length-map all string_bytes)
    in
    let is = mapped all at c.name-item.result c.loop-name-test.true c.name-item.is string_bytes in
    let there = g.P.NewFiles.there c.args.outputs.now in
    let same = subst (λ (n : List ℕ). g.P.NewFiles.there c.loop-name.outputs n ≡ there name)
    (sym c.as_str.ensures.value) (c.loop-name.invariant.there name) in
    let free : IsVacant there name = subst HasNone same c.if-is_there.ensures.answer in
    record {
      free = all-more names at name lt is (IsVacant there) c.loop-name.invariant.free free;
      there = λ other. c.is_there.ensures.there other ∙ c.loop-name.invariant.there other;
      made = c.is_there.ensures.made ∙ c.loop-name.invariant.made;
      failed = c.is_there.ensures.failed ∙ c.loop-name.invariant.failed;
      known = c.is_there.ensures.known ∙ c.loop-name.invariant.known;
    }

pub returns-clause-answer : goal.returns-clause-answer
returns-clause-answer g c =
    let all = c.args.names.now in
    let names = map string_bytes all in
    subst (All (IsVacant (g.P.NewFiles.there c.args.outputs.now)))
    (take_all c.loop-name.name-index names
    (omega (arith, c.loop-name-test.false, length-map all string_bytes)))
    c.loop-name.invariant.free
