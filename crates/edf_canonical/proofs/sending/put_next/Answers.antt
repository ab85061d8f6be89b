use Rattle.std.proofs.Common.{◌≡◌, ◌≤◌, ◌*◌, [], ◌∷◌, length, length-append, true, false}
use Rattle.std.proofs.Common.{refl, sym, ◌∙◌, subst, ap, arith}
use Rattle.std.proofs.lemmas.Result.{err_from_is_err_and}
use Rattle.edf_canonical.specs.File.{block_of, record_text}
use Rattle.edf_canonical.specs.Measure.{IsWithinMeasure}
use Rattle.edf_canonical.specs.Output.{buffered, Writes}
use Rattle.edf_canonical.proofs.Measures.{may_come, first-no-more}
use Rattle.edf_canonical.proofs.PutNext.{block-held}
use Rattle.edf_canonical.proofs.sending.put_next.Goals as goal

pub put_record-requires : goal.put_record-requires
put_record-requires g c =
    let whole = c.args.plan.now.measure in
    let r = c.args.data_record.now in
    let few : IsWithinMeasure c.after-measure.result whole =
    c.is_within_measure.ensures.0 c.if-not-is_within_measure.false in
    subst (λ n. length (block_of n r) ≤ 2 * whole.block_samples) (sym c.second-base.ensures)
    (block-held c.after-measure.result whole r c.after-measure.ensures.holds few)

pub returns-then-nth-whole : goal.returns-then-nth-whole
returns-then-nth-whole g c records before = (
  refl,
  λ may. omega (
    arith,
    c.if-nth-whole.true,
    may.within,
    c.count-nth.ensures records before,
    length-append records (c.args.data_record.now ∷ []),
  ),
)

pub returns-then-not-is_within_measure : goal.returns-then-not-is_within_measure
returns-then-not-is_within_measure g c records before = (
  refl,
  λ may.
      let whole = c.args.plan.now.measure in
      let measured = c.after-measure.ensures.measured records before
      (omega (arith, c.if-nth-whole.false, whole.records_few, c.count-nth.ensures records before))
      in
      let e : false ≡ true = sym c.if-not-is_within_measure.true
      ∙ c.is_within_measure.ensures.1 (first-no-more _ c.after-measure.result whole measured
      may) in
      absurd (let f = e in cc),
)

pub returns-in_err-put_record : goal.returns-in_err-put_record
returns-in_err-put_record g c records before =
    let r = c.args.data_record.now in
    let whole = c.args.plan.now.measure in
    let b = buffered g.W.Output c.args.out.now c.args.held.now.bytes.items in
    let d = buffered g.W.Output c.put_record.new.out c.put_record.new.held.bytes.items in
    let measured = c.after-measure.ensures.measured records before
    (omega (arith, c.if-nth-whole.false, whole.records_few, c.count-nth.ensures records before)) in
    let text = ap (λ n. record_text n (2 * whole.block_samples) r) c.second-base.ensures in
    let e = c.in_err-put_record.ensures in
    let err = err_from_is_err_and c.from_residual.result c.from_residual.ensures.1 in
    rw (err.1, err.2) (
      record {
        first = may_come _ c.after-measure.result whole measured
            (c.is_within_measure.ensures.0 c.if-not-is_within_measure.false);
        remaining = e.0.0;
        wrote = subst (λ x. Writes b d x e.0.0) text e.0.1;
      },
      e.1,
    )

pub returns : goal.returns
returns g c records before =
    let r = c.args.data_record.now in
    let whole = c.args.plan.now.measure in
    let b = buffered g.W.Output c.args.out.now c.args.held.now.bytes.items in
    let d = buffered g.W.Output c.put_record.new.out c.put_record.new.held.bytes.items in
    let measured = c.after-measure.ensures.measured records before
    (omega (arith, c.if-nth-whole.false, whole.records_few, c.count-nth.ensures records before)) in
    let text = ap (λ n. record_text n (2 * whole.block_samples) r) c.second-base.ensures in
    record {
      measured = measured;
      no_more = c.is_within_measure.ensures.0 c.if-not-is_within_measure.false;
      wrote = subst (λ x. Writes b d x d.held) text c.in_ok-put_record.ensures.0;
      counted = c.in_ok-put_record.ensures.1;
    }
