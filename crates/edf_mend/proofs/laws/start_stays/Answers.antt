use Rattle.std.proofs.Common.{◌≡◌, ℕ, ◌+◌, ◌*◌, ◌^◌, ap, sym, ◌∙◌}
use Rattle.edf_time.proofs.Cited.{one-time_second}
use Rattle.edf_time.proofs.Startdates.{digits-whatever}
use Rattle.edf_mend.proofs.Starts.{startdate-dotted, keeps-time, keeps-date}
use Rattle.edf_mend.proofs.laws.start_stays.Goals as goal

pub returns : goal.returns
returns c = λ w a key rs n days seconds x date time.
    let start = x.header.is_fixed.start in
    let fixed = x.header.fixed.kept in
    let new-date = keeps-date w.startdate _ _ _ days date fixed.date
    (startdate-dotted _ _ start.0 start.2) in
    let same-days : days ≡ start.0 = digits-whatever _ _ days start.0 new-date start.2 in
    let same-seconds : seconds ≡ start.1 = one-time_second _ seconds start.1
    (keeps-time w.starttime _ _ seconds time fixed.time) start.3 in
    start.4 ∙ ap (λ (k : ℕ). (k * 86_400 + start.1) * 10 ^ 9) (sym same-days)
    ∙ ap (λ (k : ℕ). (days * 86_400 + k) * 10 ^ 9) (sym same-seconds)
