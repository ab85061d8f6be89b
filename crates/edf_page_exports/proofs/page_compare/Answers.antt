use Rattle.std.proofs.Common.{◌≤◌, length, refl, rules}
use Rattle.edf_page.specs.Programs.{CompareDone}
use Rattle.edf_page_exports.specs.Laid.{ComeOfCompare, IsMemory}
use Rattle.edf_page_exports.proofs.Answering.{ran-gives}
use Rattle.edf_page_exports.proofs.page_compare.Goals as goal

pub returns : goal.returns
returns c =
    let two : 2 ≤ length c.args.parts.now = search rules in
    let first = c.args.first.now in
    let second = c.args.second.now in
    ran-gives c.args.out.now c.give_ran.new.out c.args.parts.now c.give_ran.new.parts (Unit {0})
    (ComeOfCompare first second) IsMemory c.give_ran.result (CompareDone first second)
    c.run_compare-ran.result two refl c.run_compare-ran.ensures
    (λ r is. record { ran = r; is_ran = is; are_pieces = refl }) c.give_ran.ensures
