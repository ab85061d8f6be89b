use Rattle.std.proofs.Common.{arith, w16, to_z, of_z, unsigned_abs}
use Rattle.edf_time.proofs.Days.{IsInYears, in-years, year-back, IsDay-date}
use Rattle.jiff_core.proofs.SignedLemmas.{signed_arith}
use Rattle.edf_time.proofs.calendar.date_of.Goals as goal
use Rattle.edf_time.proofs.calendar.date_of.Goals.{After-from_days_since_min-date}

years : (c : After-from_days_since_min-date) →
    IsInYears c.from_days_since_min-date.result c.args.days
years c = in-years c.from_days_since_min-date.result c.args.days c.requires
    c.from_days_since_min-date.ensures

pub overflow_cast-result : goal.overflow_cast-result
overflow_cast-result c =
    let y = years (goal.at.overflow_cast-result c).After-from_days_since_min-date in
    (omega (arith, signed_arith, y.from), omega (arith, signed_arith, year-back _ _ y, y.to))

pub returns-clause-is_day : goal.returns-clause-is_day
returns-clause-is_day c =
    let date = c.from_days_since_min-date.result in
    let y = years (goal.at.returns-clause-is_day c).After-from_days_since_min-date in
    IsDay-date date (unsigned_abs (to_z w16 (of_z w16 date.year))) c.args.days (year-back _ _ y)
    y.number

pub returns-clause-from : goal.returns-clause-from
returns-clause-from c =
    let y = years (goal.at.returns-clause-from c).After-from_days_since_min-date in
    omega (arith, signed_arith, year-back _ _ y, y.from)

pub returns-clause-to : goal.returns-clause-to
returns-clause-to c =
    let y = years (goal.at.returns-clause-to c).After-from_days_since_min-date in
    omega (arith, signed_arith, year-back _ _ y, y.to)

pub returns-clause-two_digits : goal.returns-clause-two_digits
returns-clause-two_digits c below =
    let y = years (goal.at.returns-clause-two_digits c).After-from_days_since_min-date in
    omega (arith, signed_arith, year-back _ _ y, y.two_digits below)

pub returns-clause-late : goal.returns-clause-late
returns-clause-late c above =
    let y = years (goal.at.returns-clause-late c).After-from_days_since_min-date in
    omega (arith, signed_arith, year-back _ _ y, y.late above)
