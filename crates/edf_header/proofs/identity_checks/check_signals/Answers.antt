use Rattle.std.proofs.Common.{arith, subst, refl}
use Rattle.edf_header.specs.Identity.{IsCleanKey, signals_at}
use Rattle.edf_header.specs.Inside.Shape.{check_order}
use Rattle.edf_header.specs.Signal.{IsFirstBad, Passes}
use Rattle.edf_header.proofs.Faults.{all-passed, bad-at, at-small}
use Rattle.edf_header.proofs.identity_checks.check_signals.Goals as goal

pub returns-in_default : goal.returns-in_default
returns-in_default c = all-passed c.args.check c.args.bytes.now c.requires.clean
    c.in_default.ensures

pub overflow_cast-signal : goal.overflow_cast-signal
overflow_cast-signal c = omega (
  arith,
  at-small c.args.check c.args.bytes.now c.in-Some.at c.requires.length c.in-Some.ensures,
)

pub overflow_add-signal : goal.overflow_add-signal
overflow_add-signal c = omega (
  arith,
  at-small c.args.check c.args.bytes.now c.in-Some.at c.requires.length c.in-Some.ensures,
)

pub returns-in-Label : goal.returns-in-Label
returns-in-Label c =
    let b = c.args.bytes.now in (
      (
        c.in-Some.at,
        subst (λ k. IsFirstBad (Passes k) (signals_at b) c.in-Some.at) c.in-Label.is
            (bad-at c.args.check b c.in-Some.at c.in-Some.ensures),
        refl,
      ),
      subst (λ k. IsCleanKey b (check_order k)) c.in-Label.is c.requires.clean,
    )

pub returns-in-Physical : goal.returns-in-Physical
returns-in-Physical c =
    let b = c.args.bytes.now in (
      (
        c.in-Some.at,
        subst (λ k. IsFirstBad (Passes k) (signals_at b) c.in-Some.at) c.in-Physical.is
            (bad-at c.args.check b c.in-Some.at c.in-Some.ensures),
        refl,
      ),
      subst (λ k. IsCleanKey b (check_order k)) c.in-Physical.is c.requires.clean,
    )

pub returns-in-Digital : goal.returns-in-Digital
returns-in-Digital c =
    let b = c.args.bytes.now in (
      (
        c.in-Some.at,
        subst (λ k. IsFirstBad (Passes k) (signals_at b) c.in-Some.at) c.in-Digital.is
            (bad-at c.args.check b c.in-Some.at c.in-Some.ensures),
        refl,
      ),
      subst (λ k. IsCleanKey b (check_order k)) c.in-Digital.is c.requires.clean,
    )

pub returns-in-Samples : goal.returns-in-Samples
returns-in-Samples c =
    let b = c.args.bytes.now in (
      (
        c.in-Some.at,
        subst (λ k. IsFirstBad (Passes k) (signals_at b) c.in-Some.at) c.in-Samples.is
            (bad-at c.args.check b c.in-Some.at c.in-Some.ensures),
        refl,
      ),
      subst (λ k. IsCleanKey b (check_order k)) c.in-Samples.is c.requires.clean,
    )
