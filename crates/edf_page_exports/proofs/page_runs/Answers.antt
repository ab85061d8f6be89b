use Rattle.std.proofs.Common.{◌≡◌, ◌≤◌, ℕ, List, IfOk, length, refl, subst, rules}
use Rattle.edf_page.specs.Programs.{RunsDone}
use Rattle.edf_page_exports.specs.Asked.{Asks, asked_by}
use Rattle.edf_page_exports.specs.Laid.{LieRuns, ComeOfRuns, IsMemory}
use Rattle.edf_page_exports.proofs.Answering.{ran-gives}
use Rattle.edf_page_exports.proofs.page_runs.Goals as goal

pub returns : goal.returns
returns c =
    let two : 2 ≤ length c.args.parts.now = search rules in
    let which = c.args.which in
    let from = c.args.from in
    let to = c.args.to in
    let prefix = c.args.prefix.now in
    let name = c.args.name.now in
    let bytes = c.args.bytes.now in
    let ran = c.runs_by-ran.result in
    let asks : Asks which = search rules in
    let lie : LieRuns which prefix name =
    (asks, c.in-Ok.ensures.cases.1, c.in-Ok-from_utf8.ensures.cases.1) in
    ran-gives c.args.out.now c.give_ran.new.out c.args.parts.now c.give_ran.new.parts
    (LieRuns which prefix name) (ComeOfRuns which from to prefix name bytes) IsMemory
    c.give_ran.result
    (RunsDone name bytes (asked_by which name prefix from to)) ran two refl
    (subst (λ (p : List ℕ). IfOk ran (RunsDone name bytes (asked_by which name p from to)))
    c.in-Ok.ensures.cases.0
    (subst (λ (n : List ℕ). IfOk ran (RunsDone n bytes
    (asked_by which n c.in-Ok.prefix.now from to)))
    c.in-Ok-from_utf8.ensures.cases.0 c.runs_by-ran.ensures))
    (λ r is. record { lie = lie; ran = r; is_ran = is; are_pieces = refl }) c.give_ran.ensures
