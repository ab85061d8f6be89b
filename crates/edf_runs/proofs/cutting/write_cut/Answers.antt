use Rattle.std.proofs.Common.{◌≡◌, ℕ, ◌+◌, ◌*◌, ◌≤◌, List, [], Option, length, refl, sym, ap}
use Rattle.std.proofs.Common.{◌∙◌, subst, arith, inl, rules}
use Rattle.std.proofs.KnownBytes.{Keeps-refl, Appends-nil}
use Rattle.std.proofs.lemmas.Result.{err_from_is_err_and}
use Rattle.std.proofs.lemmas.Nat.{mul-le}
use Rattle.edf_header.specs.Canonical.{IsCanonicalHeader}
use Rattle.edf_header.specs.Key.{IsKey, MayStart}
use Rattle.edf_header.specs.Signal.{samples_in_all}
use Rattle.edf_header.specs.declared.limits.TheConstants.{MOST_RECORDS, MOST_BLOCK_BYTES}
use Rattle.edf_tal.specs.declared.limits.TheConstants.{MOST_CANONICAL_BLOCK_SAMPLES}
use Rattle.edf_fragment.proofs.Sound.{read-key}
use Rattle.edf_canonical.specs.Source.{at}
use Rattle.edf_runs.specs.Again.{IsNotReopened}
use Rattle.edf_runs.specs.declared.fault.WriteFault.{WriteFault}
use Rattle.edf_runs.specs.declared.fault.WriteFault.TheVariants.{Undated, Changed, Memory}
use Rattle.edf_runs.proofs.CutFiles.{Begins, all-cut, stops-cut, all-counted, stops-counted}
use Rattle.edf_runs.proofs.Sending.{reread_counts}
use Rattle.edf_runs.proofs.Reopened.{header-unchanged}
use Rattle.edf_runs.proofs.cutting.write_cut.Goals as goal

pub returns-then-not-may_start-clause-refused : goal.returns-then-not-may_start-clause-refused
returns-then-not-may_start-clause-refused g c =
    let not : ¬ MayStart c.args.cut.now.outline.now.identity c.args.cut.now.measure.first =
    search rules in
    record {
      grows = ([], Appends-nil _);
      undated = λ same. (Keeps-refl _, not);
      unchanged = λ bytes k ones others records known spells is joined plan. (
        λ same. let e : ◌≡◌ {A = WriteFault} Undated Changed = same in cc,
        inl (Keeps-refl _),
      );
    }

pub returns-in_err-fragment-clause-refused : goal.returns-in_err-fragment-clause-refused
returns-in_err-fragment-clause-refused g c =
    let p = err_from_is_err_and c.from_residual.result c.from_residual.ensures.1 in
    let fault = c.in_err-fragment.field-0.0 in
    let counts = reread_counts _ _ 0 fault c.in_err-fragment.ensures.counted in
    let answer = c.in_err-fragment.ensures.answer in
    let cut = c.args.cut.now in
    rw (p.1, p.2) (record {
      grows = ([], Appends-nil _);
      undated = λ same. absurd (counts.1 same);
      unchanged = λ bytes k ones others records known spells is joined plan. (
        header-unchanged bytes (g.R.Input.remaining c.open_again.new.input) k
            cut.outline.now.identity others fault spells is.identity
            (subst (λ (x : Option (List ℕ)). IsNotReopened x
            (g.R.Input.remaining c.open_again.new.input) cut.outline.now.identity fault) known
            answer),
        inl (Keeps-refl _),
      );
    })

pub returns-in_default-clause-refused : goal.returns-in_default-clause-refused
returns-in_default-clause-refused g c = record {
  grows = ([], Appends-nil _);
  undated = λ same. let e : ◌≡◌ {A = WriteFault} Memory Undated = same in cc;
  unchanged = λ bytes k ones others records known spells is joined plan. (
    λ same. let e : ◌≡◌ {A = WriteFault} Memory Changed = same in cc,
    inl (Keeps-refl _),
  );
}

pub returns-in_err-send-clause-refused : goal.returns-in_err-send-clause-refused
returns-in_err-send-clause-refused g c =
    let a = c.in_ok-fragment.ensures.answer in
    let cut = c.args.cut.now in
    let m = cut.measure in
    let text = c.as_slice.result.now in
    let e = c.in_err-send.ensures in
    let p = err_from_is_err_and c.from_residual-in_err-send.result
    c.from_residual-in_err-send.ensures.1 in
    let may : MayStart cut.outline.now.identity m.first = search rules in
    let b : Begins g.R.Input (g.R.Input.remaining c.args.input.now) cut (at (record {
      alloc = c.args.alloc;
      window = cut.window;
      spots = c.of.result;
    }) c.in_ok-fragment.fragment c.open_again.new.input) text =
    record {
      window = refl;
      starts = c.of.ensures.starts;
      counts = c.of.ensures.counts;
      notes = c.of.ensures.notes;
      initial = a.1;
      opens = a.0;
      same = a.2;
      key = subst IsKey a.2 (read-key _ _ _ a.0);
      begins = may;
      is_header = subst (λ (t : List ℕ). IsCanonicalHeader t cut.outline.now.identity m.first
          m.records m.block_samples) (sym c.as_slice.ensures.value) c.in-Ok.ensures;
    } in
    let counts = stops-counted g.R.Input _ _ m _ _ e.0 _ _ e.1 in
    rw (p.1, p.2) (record {
      grows = (e.0.prefix.prefix, e.0.prefix.wrote);
      undated = λ same. absurd (counts.1 same);
      unchanged = stops-cut b _ _ _ _ e.0;
    })

pub returns-in_err-send-clause-counted : goal.returns-in_err-send-clause-counted
returns-in_err-send-clause-counted g c =
    let e = c.in_err-send.ensures in
    let p = err_from_is_err_and c.from_residual-in_err-send.result
    c.from_residual-in_err-send.ensures.1 in
    let counts = stops-counted g.R.Input _ _ c.args.cut.now.measure _ _ e.0 _ _ e.1 in
    rw (p.1, p.2, ← c.in_ok-fragment.ensures.counted) counts.0

pub overflow_add-result : goal.overflow_add-result
overflow_add-result g c =
    let m = c.args.cut.now.measure in
    let bytes : c.ordinary_bytes.result + 2 * m.block_samples ≤ MOST_BLOCK_BYTES
    + 2 * MOST_CANONICAL_BLOCK_SAMPLES =
    omega (arith, c.ordinary_bytes.ensures.bound, m.block_few) in
    let all : m.records * (c.ordinary_bytes.result + 2 * m.block_samples) ≤ MOST_RECORDS
    * (MOST_BLOCK_BYTES + 2 * MOST_CANONICAL_BLOCK_SAMPLES) =
    mul-le _ _ _ _ m.records_few bytes in
    omega (arith, c.len.ensures, c.in-Ok.header.ok.0, c.in-Ok.header.small, all)

pub returns-clause-written : goal.returns-clause-written
returns-clause-written g c = λ k ones is.
    let a = c.in_ok-fragment.ensures.answer in
    let cut = c.args.cut.now in
    let m = cut.measure in
    let text = c.as_slice.result.now in
    let may : MayStart cut.outline.now.identity m.first = search rules in
    let b : Begins g.R.Input (g.R.Input.remaining c.args.input.now) cut (at (record {
      alloc = c.args.alloc;
      window = cut.window;
      spots = c.of.result;
    }) c.in_ok-fragment.fragment c.open_again.new.input) text =
    record {
      window = refl;
      starts = c.of.ensures.starts;
      counts = c.of.ensures.counts;
      notes = c.of.ensures.notes;
      initial = a.1;
      opens = a.0;
      same = a.2;
      key = subst IsKey a.2 (read-key _ _ _ a.0);
      begins = may;
      is_header = subst (λ (t : List ℕ). IsCanonicalHeader t cut.outline.now.identity m.first
          m.records m.block_samples) (sym c.as_slice.ensures.value) c.in-Ok.ensures;
    } in
    let len : c.len.result ≡ length text =
    omega (
      arith,
      c.len.ensures,
      c.in-Ok.header.ok.0,
      ap (λ (t : List ℕ). length t) c.as_slice.ensures.value,
    ) in
    let whole : c.len.result + m.records * (c.ordinary_bytes.result + 2 * m.block_samples)
    ≡ length text + m.records * (2 * samples_in_all cut.outline.now.identity.signals
    + 2 * m.block_samples) =
    ap (λ n. n + m.records * (c.ordinary_bytes.result + 2 * m.block_samples)) len
    ∙ ap (λ n. length text + m.records * (n + 2 * m.block_samples))
    c.ordinary_bytes.ensures.value in
    all-cut b k ones _ _ _ _ is whole c.in_ok-send.ensures.0

pub returns-clause-counted : goal.returns-clause-counted
returns-clause-counted g c = (
  all-counted g.R.Input _ _ c.args.cut.now.measure _ c.in_ok-send.ensures.0
      ∙ c.in_ok-fragment.ensures.counted,
  c.in_ok-send.ensures.1,
)
