use Rattle.std.proofs.Common.{◌≡◌, ◌∷◌, sym, ap, ◌∙◌, subst, [], ℕ, rules}
use Rattle.std.proofs.lemmas.Result.{err_from_is_err_and}
use Rattle.edf_tal.specs.Block.{IsWithinLimits}
use Rattle.edf_fragment.specs.Fragment.{DataRecord}
use Rattle.edf_runs.specs.Inside.Selecting.{TakesFirst, TakesSpot}
use Rattle.edf_runs.proofs.Selecting.{no-more, first-limits}
use Rattle.edf_runs.proofs.StillThere.{still-next}
use Rattle.edf_runs.proofs.cut_source.CutSource.next_noted.Goals as goal

pub returns-in_default-spot : goal.returns-in_default-spot
returns-in_default-spot g c =
    let none : c.args.self.now.spots.starts.now ≡ [] = search rules in
    no-more g.R.Input _ _ c.read_no_more.result none c.read_no_more.ensures.end
    c.read_no_more.ensures.counted

pub returns-in_err-data_record : goal.returns-in_err-data_record
returns-in_err-data_record g c =
    let p = err_from_is_err_and c.from_residual.result c.from_residual.ensures.1 in
    let taken : TakesFirst c.args.self.now.spots c.take.new.self c.in-Some.slot =
    subst (TakesSpot c.args.self.now.spots c.take.new.self) c.in-Some.is c.in-Ok.ensures in
    let instant : c.in-Some.slot.start ≡ c.nanos.result =
    ap (λ (r : DataRecord). r.start) (sym c.slot.view_is) ∙ sym c.nanos.ensures.value in
    rw (p.1, p.2) (record {
      counted = c.in_err-data_record.ensures.counted;
      unchanged = λ begin before has still limits. still-next _ begin _ _ before _ _ _ has still
          c.nanos.result c.take.new.self.starts.now c.in_err-data_record.field-0.0
          (taken.starts ∙ ap (λ (n : ℕ). n ∷ c.take.new.self.starts.now) instant)
          c.in_err-data_record.ensures.step;
    })

pub returns-in-None : goal.returns-in-None
returns-in-None g c =
    let taken : TakesFirst c.args.self.now.spots c.take.new.self c.in-Some.slot =
    subst (TakesSpot c.args.self.now.spots c.take.new.self) c.in-Some.is c.in-Ok.ensures in
    record {
      counted = c.in_ok-data_record.ensures.counted;
      unchanged = λ begin before has still limits same. c.in-None.ensures
          (subst IsWithinLimits (ap (λ (r : DataRecord). r.annotations) (sym c.slot.view_is))
          (first-limits c.args.self.now.spots c.take.new.self c.in-Some.slot still.later taken
          still.starts_are limits));
    }
