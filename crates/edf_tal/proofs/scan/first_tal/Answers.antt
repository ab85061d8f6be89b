use Rattle.std.proofs.Common.{refl, arith, sym, subst}
use Rattle.edf_tal.specs.Inside.Scan.{IsEmptyOrEndsWith20}
use Rattle.edf_tal.proofs.Heads.{no-twenty, front-sides, front-made, IsEnded-ended}
use Rattle.edf_tal.proofs.scan.first_tal.Goals as goal

pub returns-in_err-head : goal.returns-in_err-head
returns-in_err-head c =
    rw (c.from_residual-in_err-head.ensures) (no-twenty c.args.bytes.now c.in_ok-body.body.now
    c.in_ok-body.rest.now c.in_ok-body.ensures.0 c.in_ok-body.ensures.1 c.in_err-head.ensures)

pub returns-then-not-is_ended : goal.returns-then-not-is_ended
returns-then-not-is_ended c = λ front rest t e s.
    let sides = front-sides c.args.bytes.now c.in_ok-body.body.now c.in_ok-body.rest.now
    c.in_ok-head.head.now c.in_ok-head.texts.now front rest t c.in_ok-body.ensures.0
    c.in_ok-body.ensures.1 c.in_ok-head.ensures.0 c.in_ok-head.ensures.1 e s in
    let ends : IsEmptyOrEndsWith20 c.in_ok-head.texts.now =
    subst IsEmptyOrEndsWith20 (sym sides.texts) (IsEnded-ended t.texts) in
    absurd (grind (arith, c.is_ended.ensures.1 ends, c.if-not-is_ended.true))

pub returns-in_err-times : goal.returns-in_err-times
returns-in_err-times c =
    rw (c.from_residual-in_err-times.ensures) (λ front rest t e s.
    let sides = front-sides c.args.bytes.now c.in_ok-body.body.now c.in_ok-body.rest.now
    c.in_ok-head.head.now c.in_ok-head.texts.now front rest t c.in_ok-body.ensures.0
    c.in_ok-body.ensures.1 c.in_ok-head.ensures.0 c.in_ok-head.ensures.1 e s in
    c.in_err-times.ensures t.onset t.duration sides.head)

pub returns : goal.returns
returns c =
    let e = c.in_ok-times.ensures in
    let made = front-made c.args.bytes.now c.in_ok-body.body.now c.in_ok-body.rest.now
    c.in_ok-head.head.now c.in_ok-head.texts.now e.0 e.1 c.in_ok-body.ensures.0
    c.in_ok-body.ensures.1 c.in_ok-head.ensures.1 e.2 (c.if-not-is_ended.ensures.0 refl) in
    (record { onset = e.0; duration = e.1; texts = made.0.texts }, made.1, e.3, e.4)
