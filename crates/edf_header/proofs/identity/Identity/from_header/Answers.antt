use Rattle.std.proofs.Common.{◌∙◌, ◌*◌, sym, ap}
use Rattle.edf_field.specs.Number.{duration_of}
use Rattle.edf_header.specs.Key.{Key}
use Rattle.edf_header.specs.Inside.Shape.{key_from}
use Rattle.edf_header.specs.Signal.{ordinary, samples_in_all}
use Rattle.edf_header.proofs.Held.{held, keeps}
use Rattle.edf_header.proofs.identity.Identity.from_header.Goals as goal

pub invariant_of-result : goal.invariant_of-result
invariant_of-result c =
    let k = key_from c.args.fixed.now (ordinary c.args.signals.now) in
    let e = held k c.in_ok-bytes.bytes.items c.in_ok-bytes.ensures c.requires.key in
    let is = keeps k c.in_ok-bytes.bytes.items c.in_ok-bytes.ensures c.requires.key in
    record {
      back = is.0;
      key = is.1;
      duration_is = c.nanos-duration.ensures ∙ ap (λ (k : Key). duration_of k.duration) (sym e);
      ordinary_is = c.requires.ordinary ∙ ap (λ (k : Key). 2 * samples_in_all k.signals) (sym e);
    }

pub returns : goal.returns
returns c = held (key_from c.args.fixed.now (ordinary c.args.signals.now))
    c.in_ok-bytes.bytes.items c.in_ok-bytes.ensures c.requires.key
