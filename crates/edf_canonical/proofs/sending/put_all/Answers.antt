use Rattle.std.proofs.Common.{◌≡◌, ◌∙◌, Option, Ok, true, false, sym, subst, inr}
use Rattle.std.proofs.lemmas.Result.{err_from_is_err_and}
use Rattle.edf_canonical.specs.Output.{buffered}
use Rattle.edf_canonical.specs.Sending.{PutsNext}
use Rattle.edf_canonical.specs.Source.{at}
use Rattle.edf_canonical.specs.declared.measure.Measure.{Measure}
use Rattle.edf_canonical.specs.declared.fault.SendFault.TheVariants.{Unlike}
use Rattle.edf_canonical.proofs.PutNext.{none-so-put, goes-on, smaller, stops-unlike, stops-in-next}
use Rattle.edf_canonical.proofs.PutNext.{stops-before, none-is-less, is-less, is-all}
use Rattle.edf_canonical.proofs.sending.put_all.Goals as goal

pub records-init : goal.records-init
records-init g c = record {
  ready = c.requires;
  put = none-so-put g.S.Source.answers _ _ c.args.plan.now.measure;
}

pub returns-in_err-put-in-Ok-Some : goal.returns-in_err-put-in-Ok-Some
returns-in_err-put-in-Ok-Some g c =
    let i = c.records.invariant.put in
    let plan = c.args.plan.now in
    let step = rw c.in-Ok-Some.field-0-is at c.in-Ok-Some.ensures.answers in
    let put = c.in_err-put-in-Ok-Some.ensures i.records i.measured in
    let p = err_from_is_err_and c.from_residual.result c.from_residual.ensures.1 in
    rw (p.1, p.2) (
      stops-in-next g.S.Source.answers _ _ plan.measure _ _ _ c.records.so_far i
          c.in-Ok-Some.data_record step _ c.in_err-put-in-Ok-Some.field-0.0 put,
      rw (← i.counted) put.1,
    )

pub returns-in_default : goal.returns-in_default
returns-in_default g c =
    let i = c.records.invariant.put in
    let plan = c.args.plan.now in
    let step = rw c.in-Ok-Some.field-0-is at c.in-Ok-Some.ensures.answers in
    let b = buffered g.W.Output c.records.out c.records.held.bytes.items in
    let d = buffered g.W.Output c.put_next.new.out c.put_next.new.held.bytes.items in
    let r = c.in-Ok-Some.data_record in
    let put = subst (λ (x : Option Measure). PutsNext b d plan.measure i.records r (Ok x))
    c.in_default.is (c.in_ok-put-in-Ok-Some.ensures i.records i.measured) in
    stops-unlike g.S.Source.answers _ _ plan.measure _ _ b c.records.so_far i r step d put

pub records-smaller : goal.records-smaller
records-smaller g c =
    let i = c.records.invariant.put in
    let plan = c.args.plan.now in
    let step = rw c.in-Ok-Some.field-0-is at c.in-Ok-Some.ensures.answers in
    let b = buffered g.W.Output c.records.out c.records.held.bytes.items in
    let d = buffered g.W.Output c.put_next.new.out c.put_next.new.held.bytes.items in
    let r = c.in-Ok-Some.data_record in
    let m = c.in-Some.measure in
    let put = subst (λ (x : Option Measure). PutsNext b d plan.measure i.records r (Ok x))
    c.in-Some.is (c.in_ok-put-in-Ok-Some.ensures i.records i.measured) in
    smaller g.S.Source.answers _ _ plan.measure _ _ b c.records.so_far i r step d m put

pub records-preserved : goal.records-preserved
records-preserved g c =
    let i = c.records.invariant.put in
    let plan = c.args.plan.now in
    let step = rw c.in-Ok-Some.field-0-is at c.in-Ok-Some.ensures.answers in
    let b = buffered g.W.Output c.records.out c.records.held.bytes.items in
    let d = buffered g.W.Output c.put_next.new.out c.put_next.new.held.bytes.items in
    let r = c.in-Ok-Some.data_record in
    let m = c.in-Some.measure in
    let put = subst (λ (x : Option Measure). PutsNext b d plan.measure i.records r (Ok x))
    c.in-Some.is (c.in_ok-put-in-Ok-Some.ensures i.records i.measured) in
    record {
      ready = c.next.ensures.ready;
      put = goes-on g.S.Source.answers _ _ plan.measure _ _ b c.records.so_far i r step d m
          put;
    }

pub returns-in_default-so_far : goal.returns-in_default-so_far
returns-in_default-so_far g c =
    let i = c.records.invariant.put in
    let plan = c.args.plan.now in
    let now = at c.records.source c.records.file c.records.input in
    let end = rw c.in-Ok-None.field-0-is at c.in-Ok-None.ensures.answers in (
      stops-before g.S.Source.answers _ _ plan.measure _ _ _ c.records.so_far i Unlike (inr (
        end,
        none-is-less g.S.Source.answers _ _ plan.measure _ now _ c.records.so_far i
            c.in_default-so_far.is,
      )),
      i.counted,
    )

pub returns-then-not-is_whole : goal.returns-then-not-is_whole
returns-then-not-is_whole g c =
    let i = c.records.invariant.put in
    let plan = c.args.plan.now in
    let now = at c.records.source c.records.file c.records.input in
    let end = rw c.in-Ok-None.field-0-is at c.in-Ok-None.ensures.answers in
    let less = is-less g.S.Source.answers _ _ plan.measure _ now _ c.records.so_far i
    c.in-Some-so_far.measure c.in-Some-so_far.is
    (λ same.
    let e : false ≡ true = sym c.if-not-is_whole.true ∙ c.is_whole.ensures.1 same in
    absurd (let f = e in cc)) in (
      stops-before g.S.Source.answers _ _ plan.measure _ _ _ c.records.so_far i Unlike
          (inr (end, less)),
      i.counted,
    )

pub returns-in-Ok-None : goal.returns-in-Ok-None
returns-in-Ok-None g c =
    let i = c.records.invariant.put in
    let plan = c.args.plan.now in
    let end = rw c.in-Ok-None.field-0-is at c.in-Ok-None.ensures.answers in
    let same = c.is_whole.ensures.0 c.if-not-is_whole.false in (
      is-all g.S.Source.answers _ _ plan.measure _ _ _ c.records.so_far i
          c.in-Some-so_far.measure c.in-Some-so_far.is end same.0 same.1,
      i.counted,
    )
