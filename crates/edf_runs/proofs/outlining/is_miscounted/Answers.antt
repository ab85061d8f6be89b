use Rattle.std.proofs.Common.{◌≡◌, ℕ, length, ◌+◌, ◌*◌, ◌≤◌, arith, ap, ap₂, sym, ◌∙◌, subst}
use Rattle.std.proofs.Common.{Option, Bool, true, not, eq-eqb}
use Rattle.std.proofs.lemmas.Bool.{false≢true}
use Rattle.std.proofs.lemmas.Nat.{mul-le}
use Rattle.edf_header.specs.Key.{Key}
use Rattle.edf_header.specs.Header.{most_records}
use Rattle.edf_header.specs.declared.limits.TheConstants.{MOST_RECORDS, MOST_RECORD_BYTES}
use Rattle.edf_runs.proofs.Counted.{two-each}
use Rattle.edf_runs.proofs.outlining.is_miscounted.Goals as goal

pub overflow_mul-expected : goal.overflow_mul-expected
overflow_mul-expected g =
    let layout = g.blocks-2.ensures.layout in
    omega (
      arith,
      g.signals.ensures.count,
      g.signals.ensures.key.signals_to,
      ap length g.blocks-2.ensures.value,
      two-each _ layout.blocks_bytes,
      layout.block_size,
    )

pub overflow_add-expected-2 : goal.overflow_add-expected-2
overflow_add-expected-2 g =
    let layout = g.blocks-2.ensures.layout in
    let few = subst (λ (n : Option ℕ). most_records n ≤ MOST_RECORDS)
    (sym g.count.ensures.value ∙ g.in-Some-Some.is-0) layout.count.1 in
    omega (
      arith,
      g.signals.ensures.count,
      g.signals.ensures.key.signals_to,
      ap length g.blocks-2.ensures.value,
      two-each _ layout.blocks_bytes,
      layout.block_size,
      mul-le g.from.result g.record_bytes.result MOST_RECORDS MOST_RECORD_BYTES
          (omega (arith, g.from.ensures, few))
          (omega (arith, g.record_bytes.ensures.value, layout.record_size)),
    )

pub returns : goal.returns
returns g c = λ input remaining reads.
    let header = g.args.header.now in
    let expected = 256 * (1 + (g.signals.result + length g.blocks-2.result.now))
    + g.from.result * g.record_bytes.result in
    record {
      layout = header;
      read = reads;
      size = g.in-Some-Some.bytes;
      is_known = g.in-Some-Some.is-1;
      count = g.in-Some-Some.count;
      is_counted = sym g.count.ensures.value ∙ g.in-Some-Some.is-0;
      differs = λ same. let e : g.in-Some-Some.bytes ≡ expected = omega (
        arith,
        same,
        g.signals.ensures.count,
        ap (λ (k : Key). length k.signals) g.identity.ensures,
        ap length g.blocks-2.ensures.value,
        ap₂ (λ (n : ℕ) (m : ℕ). n * m) g.from.ensures g.record_bytes.ensures.value,
      ) in
          false≢true (subst (λ (b : Bool). not b ≡ true) (eq-eqb g.in-Some-Some.bytes expected e) c);
    }
