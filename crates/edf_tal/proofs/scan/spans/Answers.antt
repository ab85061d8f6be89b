use Rattle.edf_tal.proofs.Heads.{from-alone, both, from-both}
use Rattle.std.proofs.Common.{Some}
use Rattle.edf_tal.proofs.scan.spans.Goals as goal

pub returns-in_err-onset-in-None : goal.returns-in_err-onset-in-None
returns-in_err-onset-in-None c =
    rw (c.from_residual.ensures) (λ n d t. let s =
    from-alone c.args.bytes.now n d c.in-None.ensures t in
    c.in_err-onset-in-None.ensures s.0 s.1)

pub returns-in_err-onset-in-Some : goal.returns-in_err-onset-in-Some
returns-in_err-onset-in-Some c =
    rw (c.from_residual-in_err-onset-in-Some.ensures) (λ n d t.
    let s = (from-both c.args.bytes.now c.in-Some.prefix.now c.in-Some.suffix.now n d
    c.in-Some.ensures.0 c.in-Some.ensures.1 t).onset in
    c.in_err-onset-in-Some.ensures s.0 s.1)

pub returns-in_err-duration-in-Some : goal.returns-in_err-duration-in-Some
returns-in_err-duration-in-Some c =
    rw (c.from_residual-in_err-duration-in-Some.ensures) (λ n d t.
    let s = (from-both c.args.bytes.now c.in-Some.prefix.now c.in-Some.suffix.now n d
    c.in-Some.ensures.0 c.in-Some.ensures.1 t).duration in
    c.in_err-duration-in-Some.ensures s.0 s.1)

pub returns-in_ok-duration-in-Some : goal.returns-in_ok-duration-in-Some
returns-in_ok-duration-in-Some c =
    let o = c.in_ok-onset-in-Some.ensures in
    let d = c.in_ok-duration-in-Some.ensures in (
      o.0,
      Some d.0,
      both c.args.bytes.now c.in-Some.prefix.now c.in-Some.suffix.now o.0 d.0
          c.in-Some.ensures.1 o.1 d.1,
      o.2,
      d.2,
    )
