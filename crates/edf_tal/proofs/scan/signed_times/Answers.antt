use Rattle.std.proofs.Common.{refl, ℕ, ◌∷◌, pos, neg_ℤ, subst, sym}
use Rattle.edf_tal.specs.Inside.Scan.{IsOnsetAndDuration}
use Rattle.edf_tal.proofs.Heads.{head-signed, head-plus, head-minus}
use Rattle.edf_tal.proofs.scan.signed_times.Goals as goal

pub returns-in_err-onset : goal.returns-in_err-onset
returns-in_err-onset c =
    rw (c.from_residual.ensures) (λ z d h. let s =
    head-signed c.args.sign c.args.unsigned.now z d h in c.in_err-onset.ensures s.n d s.times)

pub returns-in-43 : goal.returns-in-43
returns-in-43 c =
    let e = c.in_ok-onset.ensures in (
      pos e.0,
      e.1,
      subst (λ (b : ℕ). IsOnsetAndDuration (b ∷ c.args.unsigned.now) (pos e.0) e.1)
          (sym c.in-43.is) (head-plus c.args.unsigned.now e.0 e.1 e.2),
      (e.0, e.3, refl),
      e.4,
    )

pub returns-in-45 : goal.returns-in-45
returns-in-45 c =
    let e = c.in_ok-onset.ensures in (
      neg_ℤ (pos e.0),
      e.1,
      subst (λ (b : ℕ). IsOnsetAndDuration (b ∷ c.args.unsigned.now) (neg_ℤ (pos e.0)) e.1)
          (sym c.in-45.is) (head-minus c.args.unsigned.now e.0 e.1 e.2),
      (e.0, e.3, refl),
      e.4,
    )
