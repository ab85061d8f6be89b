use Rattle.std.proofs.Common.{ℤ, ℕ, Some, refl, subst}
use Rattle.edf_time.proofs.Cited.{one-id_day}
use Rattle.edf_time.specs.Civil.{AreStartdates}
use Rattle.edf_mend.specs.Header.{AgreesWithDay, HasDay}
use Rattle.edf_mend.proofs.Tests.{says-no}
use Rattle.edf_mend.proofs.start.agrees.Goals as goal

pub returns-in-Some : goal.returns-in-Some
returns-in-Some c =
    let has : HasDay c.args.recording.now c.in-Some.day =
    rw c.in-Some.is at c.in_ok-day.ensures in (
      λ t. (c.in-Some.day, has, c.is_day.ensures.0 t),
      λ a. c.is_day.ensures.1 (subst (λ (d : ℤ). (days : ℕ)
          × AreStartdates c.args.date.now (Some d) days)
          (one-id_day _ a.0 c.in-Some.day a.1.1 has.1)
          a.2),
    )

pub returns-in-None : goal.returns-in-None
returns-in-None c = says-no _ (AgreesWithDay c.args.recording.now c.args.date.now) refl
    (λ a. (rw c.in-None.is at c.in_ok-day.ensures) a.0 a.1)
