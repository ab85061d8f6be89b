use Rattle.std.proofs.Common.{false, true, ◌≡◌}
use Rattle.edf_tal.proofs.Totals.{duration-tells, duration-told}
use Rattle.edf_tal.proofs.survey.is_in_window.Goals as goal

pub returns-in-None : goal.returns-in-None
returns-in-None c = λ t o d. (
  λ h. absurd (let e : false ≡ true = h in cc),
  λ w. absurd (c.in-None.ensures t.onset o w.onset),
)

pub returns-in-Some : goal.returns-in-Some
returns-in-Some c = λ t o d. (
  λ ok. record {
    onset = (c.in-Some.ensures t.onset o).0;
    duration =
        duration-tells c.args.times.duration t.duration d (c.is_duration.ensures.0 ok);
  },
  λ w. c.is_duration.ensures.1 (duration-told c.args.times.duration t.duration d w.duration),
)
