use Rattle.std.proofs.Common.{refl, rules, ℕ, List, take, subst}
use Rattle.std.specs.Io.KnownBytes.{Appends}
use Rattle.edf_canonical.proofs.Puts.{flushed, flush-failed}
use Rattle.edf_canonical.proofs.output.flush.Goals as goal

pub returns-then-not-send : goal.returns-then-not-send
returns-then-not-send g c =
    let e = c.if-not-send.ensures in
    let before = g.W.Output.contents c.args.out.now in
    let after = g.W.Output.contents c.send.new.out in (
      flush-failed _ _ e.0 (subst (λ (l : List ℕ). Appends before after (take e.0 l))
          c.as_slice.ensures.value e.2),
      refl,
      e.3,
    )

pub returns : goal.returns
returns g c =
    let e = c.if-not-send.ensures in
    let before = g.W.Output.contents c.args.out.now in
    let after = g.W.Output.contents c.send.new.out in (
      flushed _ _ (subst (λ (l : List ℕ). Appends before after l) c.as_slice.ensures.value e.0),
      search rules,
      e.1,
    )
