use Rattle.std.proofs.Common.{◌+◌, ◌*◌, ◌≤◌, List, ℕ, length, rules, sym, ap, ◌∙◌, subst}
use Rattle.edf_header.specs.declared.limits.TheConstants.{MOST_SIGNALS}
use Rattle.edf_header.specs.Canonical.{IsCanonicalHeader}
use Rattle.edf_runs.specs.File.{marked_continuous}
use Rattle.edf_runs.proofs.Sending.{header_long, marked_short}
use Rattle.edf_runs.proofs.writing.run_header.Goals as goal

pub marked_continuous-requires : goal.marked_continuous-requires
marked_continuous-requires c =
    let is : IsCanonicalHeader c.in_ok-plain.plain.items c.args.identity.now c.args.run.now.first
    c.args.run.now.records c.args.run.now.block_samples = search rules in
    let long = header_long c.in_ok-plain.plain.items c.args.identity.now c.args.run.now
    c.identity_is_key.ensures c.requires is in
    subst (λ (l : List ℕ). 197 ≤ length l) (sym c.as_slice.ensures.value) long

pub returns-clause-short : goal.returns-clause-short
returns-clause-short c =
    let is : IsCanonicalHeader c.in_ok-plain.plain.items c.args.identity.now c.args.run.now.first
    c.args.run.now.records c.args.run.now.block_samples = search rules in
    let short = marked_short c.in_ok-plain.plain.items c.args.identity.now c.args.run.now
    c.identity_is_key.ensures c.requires is in
    subst (λ (l : List ℕ). length l ≤ 256 * (MOST_SIGNALS + 1))
    (sym (c.in_ok-header.ensures ∙ ap (λ (x : List ℕ). marked_continuous x)
    c.as_slice.ensures.value)) short
