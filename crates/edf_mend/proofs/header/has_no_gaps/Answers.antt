use Rattle.std.proofs.Common.{◌≡◌, Bool, true, not, sym, ◌∙◌, subst, arith, drop}
use Rattle.std.proofs.lemmas.Bool.{false≢true}
use Rattle.std.proofs.lemmas.List.{take-take}
use Rattle.edf_mend.proofs.header.has_no_gaps.Goals as goal

pub returns : goal.returns
returns c = λ t e.
    let same : c.is_same.result ≡ true = c.is_same.ensures.1
    (sym (take-take 5 44 (drop 192 c.args.first.now) (omega arith)) ∙ e) in
    false≢true (subst (λ (b : Bool). not b ≡ true) same t)
