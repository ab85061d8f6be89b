use Rattle.std.proofs.Common.{subst, sym, List, ℕ}
use Rattle.edf_header.specs.Canonical.{IsCanonicalHeader}
use Rattle.edf_header.specs.Key.{Key, MayStart}
use Rattle.edf_mend.proofs.Written.{mends}
use Rattle.edf_mend.proofs.mending.write_mended.Goals as goal

pub returns : goal.returns
returns g c =
    let m = c.args.measure.now in
    let made = c.in_ok-header.ensures in
    let key = c.identity.ensures in
    mends g.R.Input c.args.wanted.now _ _ _ c.in_ok-opened.opened _ _ _ m _ _ _
    c.in_ok-opened.ensures c.header_is_layout.ensures
    (subst (λ (k : Key). MayStart k m.first) key made.0)
    (subst
    (λ (k : Key). IsCanonicalHeader c.as_slice.result.now k m.first m.records m.block_samples)
    key (subst (λ (l : List ℕ). IsCanonicalHeader l c.identity.result.now m.first m.records
    m.block_samples) (sym c.as_slice.ensures.value) made.1))
    c.in_ok-send.ensures.0 c.in_ok-check_body.ensures _ c.in_ok-push_count.ensures
