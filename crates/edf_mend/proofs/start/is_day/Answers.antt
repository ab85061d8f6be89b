use Rattle.std.proofs.Common.{Bool, sym, subst}
use Rattle.std.specs.Prelude.{IsTrue, ◌↔◌, Some, ℕ}
use Rattle.edf_time.specs.Civil.{AreStartdates}
use Rattle.edf_mend.proofs.Starts.{day-of-field}
use Rattle.edf_mend.proofs.start.is_day.Goals as goal

pub returns : goal.returns
returns c =
    subst (λ (r : Bool). IsTrue r
    ↔ ((days : ℕ) × AreStartdates c.args.date.now (Some c.args.day) days))
    (sym c.is_ok.ensures.value)
    (day-of-field c.args.date.now c.args.day c.start_of.result c.start_of.ensures)
