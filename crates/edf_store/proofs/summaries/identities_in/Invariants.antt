use Rattle.std.proofs.Common.{◌≡◌, map, take}
use Rattle.std.specs.List.{AllByRecursion}
use Rattle.edf_header.specs.Key.{IsKey, key_bytes}
use Rattle.edf_store.proofs.summaries.identities_in.Given as goal

abbrev pub invariant-loop-bytes : goal.invariant-loop-bytes
invariant-loop-bytes l =
    (map key_bytes l.found.items ≡ map (λ b. b.items) (take l.bytes-index l.bytes-items))
    × AllByRecursion IsKey l.found.items
