use Rattle.std.proofs.Common.{◌≤◌, List, ℕ, length, rules, sym, ap, ◌∙◌, subst, arith}
use Rattle.edf_header.specs.Canonical.{IsCanonicalHeader}
use Rattle.edf_header.proofs.Cited.{canonical-header-reads}
use Rattle.edf_runs.specs.File.{marked_continuous}
use Rattle.edf_runs.proofs.writing_filled.continuous_header.Goals as goal

pub marked_continuous-requires : goal.marked_continuous-requires
marked_continuous-requires c =
    let m = c.args.measure in
    let is : IsCanonicalHeader c.in_ok-plain.plain.items c.args.identity.now m.first m.records
    m.block_samples = search rules in
    let reads = canonical-header-reads c.in_ok-plain.plain.items c.args.identity.now m.first
    m.records
    m.block_samples c.identity_is_key.ensures c.requires m.records_some m.records_few m.block_some
    (omega (arith, m.block_few)) is in
    subst (λ (l : List ℕ). 197 ≤ length l) (sym c.as_slice.ensures.value) (omega (arith, reads.len))

pub returns : goal.returns
returns c = record {
  plain = c.in_ok-plain.plain.items;
  is_plain = search rules;
  marked = c.in_ok-header.ensures
      ∙ ap (λ (l : List ℕ). marked_continuous l) c.as_slice.ensures.value;
}
