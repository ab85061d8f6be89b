use Rattle.std.proofs.Common.{[], refl, ◌∙◌, inl, inr}
use Rattle.std.proofs.lemmas.Result.{err_from_is_err_and}
use Rattle.edf_canonical.specs.Measure.{records_text}
use Rattle.edf_canonical.proofs.Measures.{all_first, none_first}
use Rattle.edf_canonical.proofs.Sent.{header_stops, body_stops, flush_stops, all_sent}
use Rattle.edf_canonical.proofs.Sourced.{sends-then, stops-then, counts-after}
use Rattle.edf_canonical.proofs.sending.send.Goals as goal

pub returns-in_err-put : goal.returns-in_err-put
returns-in_err-put g c =
    let whole = c.args.plan.now.measure in
    let header = c.args.plan.now.header.now in
    let e = c.in_err-put.ensures in
    let p = err_from_is_err_and c.from_residual.result c.from_residual.ensures.1 in
    rw (p.1, p.2) (
      record {
        records = [];
        mid = _;
        gave = refl;
        first = none_first whole;
        why = inl refl;
        prefix = header_stops _ _ header (records_text whole []) c.new-held.ensures e.0.0 e.0.1;
      },
      e.1,
    )

pub returns-in_err-put_all : goal.returns-in_err-put_all
returns-in_err-put_all g c =
    let plan = c.args.plan.now in
    let e = c.in_err-put_all.ensures in
    let p = err_from_is_err_and c.from_residual-in_err-put_all.result
    c.from_residual-in_err-put_all.ensures.1 in
    rw (p.1, p.2) (
      stops-then g.S.Source.answers _ _ plan.measure _ _
          (λ rs front. body_stops _ _ plan.header.now (records_text plan.measure rs)
          c.new-held.ensures _ c.in_ok-put.ensures.0 front.0 front.1) _ e.0,
      counts-after _ _ _ c.in_err-put_all.field-0.0 c.in_ok-put.ensures.1 e.1,
    )

pub returns-in_err-flush : goal.returns-in_err-flush
returns-in_err-flush g c =
    let whole = c.args.plan.now.measure in
    let header = c.args.plan.now.header.now in
    let all = c.in_ok-put_all.ensures in
    let e = c.in_err-flush.ensures in
    let p = err_from_is_err_and c.from_residual-in_err-flush.result
    c.from_residual-in_err-flush.ensures.1 in
    rw (p.1, p.2, e.1) (
      record {
        records = all.0.records;
        mid = all.0.mid;
        gave = all.0.gave;
        first = all_first all.0.records whole all.0.measured;
        why = inr (all.0.end, all.0.measured, refl);
        prefix = flush_stops _ _ header (records_text whole all.0.records) c.new-held.ensures _
            c.in_ok-put.ensures.0 _ all.0.wrote e.0.0 e.0.1;
      },
      rw (← c.in_ok-put.ensures.1, ← all.1) e.2,
    )

pub returns : goal.returns
returns g c =
    let plan = c.args.plan.now in
    let all = c.in_ok-put_all.ensures in (
      sends-then g.S.Source.answers _ _ plan.measure _ _
          (λ rs wrote. all_sent _ _ plan.header.now (records_text plan.measure rs)
          c.new-held.ensures _ c.in_ok-put.ensures.0 _ wrote c.in_ok-flush.ensures.0) all.0,
      c.in_ok-flush.ensures.2 ∙ all.1 ∙ c.in_ok-put.ensures.1,
    )
