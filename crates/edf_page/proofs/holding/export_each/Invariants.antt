use Rattle.std.proofs.Common.{map, take}
use Rattle.std.specs.List.{AllZip}
use Rattle.edf_holdings.specs.Holdings.{Holdings}
use Rattle.edf_export.specs.Headline.{IsOnlyCanonicalFile}
use Rattle.edf_page.specs.Inside.{HasIn, HoldsStill}
use Rattle.edf_page.proofs.holding.export_each.Given as goal

abbrev pub invariant-loop-identity : goal.invariant-loop-identity
invariant-loop-identity l = record {
  each : (h : Holdings) → HasIn l.fn.store h → AllZip (λ k file. IsOnlyCanonicalFile file k (h k))
      (take l.identity-index l.identity-items) (map (λ file. file.items) l.files.items);
  stays : HoldsStill l.fn.store l.store;
}
