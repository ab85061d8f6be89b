use Rattle.std.proofs.Common.{arith, take, ◌+◌, ◌≡◌, ◌++◌, ◌∷◌, [], List, ℕ, map, subst, sym, rules}
use Rattle.std.proofs.Common.{ap, ◌∙◌}
use Rattle.std.specs.List.{AllZip}
use Rattle.std.proofs.lemmas.List.{take_all, map_push}
use Rattle.std.proofs.lemmas.Slice.Zip.{all_zipped_more}
use Rattle.std.proofs.lemmas.Grind.{common_steps}
use Rattle.edf_header.specs.Key.{Key}
use Rattle.edf_holdings.specs.Keys.{AreKeysOf}
use Rattle.edf_export.specs.Headline.{IsOnlyCanonicalFile}
use Rattle.edf_page.proofs.holding.export_each.Goals as goal

pub returns-in_err-file-clause-stays : goal.returns-in_err-file-clause-stays
returns-in_err-file-clause-stays c h has =
    c.export_one.ensures.stays h (c.loop-identity.invariant.stays h has)

pub returns-then-is_err-clause-stays : goal.returns-then-is_err-clause-stays
returns-then-is_err-clause-stays c h has =
    c.export_one.ensures.stays h (c.loop-identity.invariant.stays h has)

pub loop-identity-preserved : goal.loop-identity-preserved
loop-identity-preserved c = record {
  each = λ h has.
      let Fits : Key → List ℕ → Type 0 = λ k file. IsOnlyCanonicalFile file k (h k) in
      let keys : take (c.loop-identity.identity-index + 1) c.as_slice-identity-items.result.now
      ≡ take c.loop-identity.identity-index c.as_slice-identity-items.result.now ++
      c.identity-item.result ∷ []
      = grind (arith, common_steps) in
      let pushed : c.push.new.self.items ≡ c.loop-identity.files.items ++ c.in_ok-file.file ∷ []
      = search rules in
      let files = ap (map (λ file. file.items)) pushed
      ∙ map_push (λ file. file.items) c.loop-identity.files.items c.in_ok-file.file in
      subst (λ (ks : List Key). AllZip Fits ks (map (λ file. file.items) c.push.new.self.items))
      (sym keys) (subst (AllZip Fits _) (sym files) (all_zipped_more Fits _ _ _ _
      (c.loop-identity.invariant.each h has)
      (c.in_ok-file.ensures.exports h (c.loop-identity.invariant.stays h has))));
  stays = λ h has. c.export_one.ensures.stays h (c.loop-identity.invariant.stays h has);
}

pub returns-clause-exports : goal.returns-clause-exports
returns-clause-exports c h has = record {
  keys = c.as_slice-identity-items.result.now;
  are_keys = subst (AreKeysOf h) (sym c.as_slice-identity-items.ensures.value)
      (c.in_ok-recordings.ensures.keys h has);
  each = subst (λ (ks : List Key). AllZip (λ k file. IsOnlyCanonicalFile file k (h k)) ks
      (map (λ file. file.items) c.loop-identity.files.items))
      (take_all c.loop-identity.identity-index c.as_slice-identity-items.result.now
      c.loop-identity-test.false) (c.loop-identity.invariant.each h has);
}
