use Rattle.std.proofs.Common.{◌≡◌, ◌<◌, ◌*◌, Some, take}
use Rattle.edf_picture.specs.Bands.{IsRange, levels}
use Rattle.edf_picture.proofs.bands.range_of.Given as goal

abbrev pub invariant-loop-nth : goal.invariant-loop-nth
invariant-loop-nth l = record {
  starts : l.nth ≡ 0 → (l.least ≡ 65535) × (l.greatest ≡ 0);
  range : 0 < l.nth → IsRange (levels (take (2 * l.nth) l.bytes))
      (Some (record { least = l.least; greatest = l.greatest }));
}
