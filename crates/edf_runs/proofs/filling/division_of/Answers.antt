use Rattle.std.proofs.Common.{ℕ, List, subst, sym, ◌∙◌}
use Rattle.edf_field.specs.Number.{duration_of}
use Rattle.edf_runs.specs.Inside.Dividing.{DividesSizes}
use Rattle.edf_runs.proofs.KeyDivides.{some-sizes, one-divides}
use Rattle.edf_runs.proofs.filling.division_of.Goals as goal

pub divide-requires-clause-sized : goal.divide-requires-clause-sized
divide-requires-clause-sized c =
    let k = c.args.identity.now in
    let some = some-sizes k.signals c.identity_is_key.ensures.signals_from
    c.identity_is_key.ensures.each_samples in
    (some.0, some.1, c.requires ∙ some.2, some.3)

pub divide-requires-clause-whole : goal.divide-requires-clause-whole
divide-requires-clause-whole c =
    let k = c.args.identity.now in
    subst (λ (d : ℕ). DividesSizes d c.args.sizes.now 1) (sym c.duration-duration.ensures.value)
    (subst (λ (l : List ℕ). DividesSizes (duration_of k.duration) l 1) (sym c.requires)
    (one-divides k c.identity_is_key.ensures))
