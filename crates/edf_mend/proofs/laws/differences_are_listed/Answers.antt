use Rattle.std.proofs.Common.{List, ◌++◌, length, sym, subst, ◌≡◌}
use Rattle.std.specs.Prelude.{Contains}
use Rattle.std.proofs.lemmas.List.Elements.{Contains-append_left, Contains-append_right}
use Rattle.edf_mend.specs.Changes.{FieldChange, changes_of_count}
use Rattle.edf_mend.proofs.Listed.{listed-fixed, listed-signals, in-changed}
use Rattle.edf_mend.proofs.laws.differences_are_listed.Goals as goal

there : (xs ys zs : List FieldChange) (c : FieldChange) → xs ≡ zs → Contains zs c →
    Contains (xs ++ ys) c
there xs ys zs c same has = Contains-append_left xs ys c
    (subst (λ (l : List FieldChange). Contains l c) (sym same) has)

pub returns : goal.returns
returns c = λ w a key rs n x changes lists.
    let h = x.header in
    let count = changes_of_count x.first (length rs) in
    let notes = x.records_are.changes in
    let new = h.strict_signals in
    let k = x.h.fixed.signal_count in
    record {
      fixed = λ f is differ. there changes (notes ++ count) _ _ lists
          (listed-fixed h.n x.first x.second k h.strict new f is differ);
      signals = λ i f lt is differ. there changes (notes ++ count) _ _ lists
          (listed-signals h.n x.first x.second k h.strict new i f lt is differ);
      count = λ differ. Contains-append_right changes (notes ++ count) _
          (Contains-append_right notes count _ (in-changed 236 0 236 _ _ differ));
    }
