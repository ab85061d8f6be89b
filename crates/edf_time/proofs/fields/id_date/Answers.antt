use Rattle.std.proofs.Common.{arith, rules, ◌≡◌, ◌≤◌, ◌+◌, ◌*◌, w32, FitsSigned, to_z-of_z, ◌∙◌}
use Rattle.edf_time.proofs.IdDates.{id_text, id_text-reads, IsDay-id_text, IsIdDate-is}
use Rattle.edf_time.proofs.fields.id_date.Goals as goal
use Rattle.edf_time.proofs.fields.id_date.Goals.{After-day_number}

-- the text has these parts
reads : (c : After-day_number) → c.args.text.now ≡ id_text (c.from.result * 100 + c.from-2.result)
    c.in_ok-month.month c.in_ok-day.day
reads c =
    id_text-reads c.args.text.now c.in_ok-century.century c.in_ok-short.short
    (c.from.result * 100 + c.from-2.result) c.in_ok-month.month c.in_ok-day.day
    c.if-text-ne11.false c.if-text-ne45.false c.if-text-ne45-2.false
    c.in_ok-month.ensures.0 c.in_ok-month.ensures.1
    (omega (arith, c.from.ensures, c.from-2.ensures)) c.in_ok-short.ensures.0
    c.in_ok-day.ensures.1 c.in_ok-month.ensures.2 c.in_ok-century.ensures.1 c.in_ok-short.ensures.1

year-to : (c : After-day_number) → c.from.result * 100 + c.from-2.result ≤ 9999
year-to c = omega (
  arith,
  c.from.ensures,
  c.from-2.ensures,
  c.in_ok-century.ensures,
  c.in_ok-short.ensures,
)

pub returns-in_err-days : goal.returns-in_err-days
returns-in_err-days c =
    let a = (goal.at.returns-in_err-days c).After-day_number in
    rw (c.from_residual-in_err-days.ensures) (λ days t. c.in_err-days.ensures days
    (IsDay-id_text c.args.text.now (c.from.result * 100 + c.from-2.result) c.in_ok-month.month
    c.in_ok-day.day days (year-to a) c.in_ok-month.ensures.0 c.in_ok-month.ensures.1
    c.in_ok-day.ensures.0 (reads a) t))

pub returns : goal.returns
returns c =
    let a = (goal.at.returns c).After-day_number in
    let fits : FitsSigned w32 c.in_ok-days.days = search rules in
    rw (c.from_days.ensures ∙ to_z-of_z fits)
    (IsIdDate-is c.args.text.now (c.from.result * 100 + c.from-2.result) c.in_ok-month.month
    c.in_ok-day.day c.in_ok-days.days (year-to a) (reads a) c.in_ok-days.ensures)
