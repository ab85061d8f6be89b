use Rattle.std.proofs.Common.{◌≡◌, ◌<◌, List, ap, ◌∙◌, subst, sym, arith, All, get_or, length}
use Rattle.std.proofs.Common.{rules}
use Rattle.std.proofs.lemmas.List.{take_all}
use Rattle.edf_header.specs.Key.{MayStart}
use Rattle.edf_runs.specs.declared.run.Run.{Run}
use Rattle.edfruns_command.proofs.Walking.{all-more}
use Rattle.edfruns_command.proofs.split_command.undated_run.Goals as goal

pub returns-then-not-may_start : goal.returns-then-not-may_start
returns-then-not-may_start c =
    let runs = c.args.listing.now.runs.items in
    let at = c.loop-at.at in
    let run = c.run-item.result in
    let within = ap (λ (rs : List Run). length rs) c.deref-run-items.ensures.value in
    let lt : at < length runs = omega (arith, c.loop-at-test.true, within) in
    let is : run ≡ get_or runs at run = c.run-item.is
    ∙ ap (λ (rs : List Run). get_or rs at run) c.deref-run-items.ensures.value in
    λ dated.
    let first = c.first.ensures in let told = c.if-not-may_start.ensures in
    let may : MayStart c.args.listing.now.identity run.first =
    subst (λ (r : Run). MayStart c.args.listing.now.identity r.first) (sym is) (dated at run lt) in
    search rules

pub loop-at-preserved : goal.loop-at-preserved
loop-at-preserved c =
    let runs = c.args.listing.now.runs.items in
    let at = c.loop-at.at in
    let run = c.run-item.result in
    let within = ap (λ (rs : List Run). length rs) c.deref-run-items.ensures.value in
    let lt : at < length runs = omega (arith, c.loop-at-test.true, within) in
    let is : run ≡ get_or runs at run = c.run-item.is
    ∙ ap (λ (rs : List Run). get_or rs at run) c.deref-run-items.ensures.value in
    let may : MayStart c.args.listing.now.identity run.first =
    let first = c.first.ensures in let told = c.if-not-may_start.ensures in search rules in
    all-more runs at run lt is (λ (r : Run). MayStart c.args.listing.now.identity r.first)
    c.loop-at.invariant may

pub returns : goal.returns
returns c =
    let runs = c.args.listing.now.runs.items in
    let within = ap (λ (rs : List Run). length rs) c.deref-run-items.ensures.value in
    subst (All (λ (r : Run). MayStart c.args.listing.now.identity r.first))
    (take_all c.loop-at.at runs (omega (arith, c.loop-at-test.false, within)))
    c.loop-at.invariant
