use Rattle.std.proofs.Common.{arith, w32, rules}
use Rattle.edf_time.proofs.Days.{number-in-window, back-unsigned}
use Rattle.jiff_core.proofs.SignedLemmas.{signed_arith}
use Rattle.edf_time.proofs.calendar.two_digit_day.Goals as goal

pub overflow_cast-result : goal.overflow_cast-result
overflow_cast-result c =
    let b = number-in-window c.args.year c.args.month c.args.day c.in_ok-days.days c.requires.from
    c.requires.to c.in_ok-days.ensures in
    let e = back-unsigned w32 c.in_ok-days.days (search rules) b.0 in
    (omega (arith, signed_arith, e, b), omega (arith, signed_arith, e, b))

pub returns : goal.returns
returns c =
    let b = number-in-window c.args.year c.args.month c.args.day c.in_ok-days.days c.requires.from
    c.requires.to c.in_ok-days.ensures in
    let e = back-unsigned w32 c.in_ok-days.days (search rules) b.0 in
    (rw e c.in_ok-days.ensures, omega (arith, signed_arith, e, b.1))
