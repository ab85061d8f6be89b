use Rattle.std.proofs.Common.{◌≡◌, ℕ, arith, sym, subst}
use Rattle.std.proofs.lemmas.Bool.Decides.{not_from_Decides}
use Rattle.std.proofs.lemmas.Slice.Eq.{bytes_eq-Decides}
use Rattle.edf_time.specs.Civil.{IsDateField, day_of}
use Rattle.edf_time.proofs.Startdates.{not-in-window, other-day}
use Rattle.edf_time.proofs.start.named_day.Goals as goal

pub returns-in_err-days : goal.returns-in_err-days
returns-in_err-days c = rw (
  c.from_residual.ensures,
  c.in-Some.is,
) (not-in-window c.args.date.now c.in-Some.day c.in_err-days.ensures)

pub returns-else-eq : goal.returns-else-eq
returns-else-eq c =
    let day : day_of c.from_parts.result ≡ c.in_ok-days.days =
    omega (arith, c.from_parts.ensures) in
    rw (c.in-Some.is) (other-day c.args.date.now c.date_field.result c.in-Some.day c.in_ok-days.days
    c.in_ok-days.ensures.0
    (subst (λ (n : ℕ). IsDateField c.date_field.result n) day c.date_field.ensures)
    (not_from_Decides _ (bytes_eq-Decides c.date_field.result c.args.date.now)
    (sym c.if-eq.ensures)))
