-- A look at one of the records that are near, after those before it are passed over.
use Rattle.std.proofs.Common.{◌≡◌, ℕ, zero, suc, refl, ◌+◌, ◌<◌, ◌≤◌, ◌≢◌, true, not, List, [], ◌∷◌}
use Rattle.std.proofs.Common.{length, drop, get_or, Some, None, sym, ap, subst, ◌∙◌, arith}
use Rattle.std.proofs.Common.{drop-cons, add-one}
use Rattle.std.proofs.lemmas.Bool.{cond-true, cond-false, not_from_false, not_from_true}
use Rattle.edf_fragment.specs.Fragment.{DataRecord}
use Rattle.edf_holdings.specs.Same.{same_record}
use Rattle.edf_holdings.specs.Clash.{first_other}
use Rattle.edf_holdings.specs.Rising.{contains_record}
use Rattle.edf_holdings.proofs.Same.{same_record-refl, same_record_no}
use Rattle.edf_holdings.proofs.Near.{held_where_near}

pub other_here : (r x : DataRecord) (ns : List DataRecord) (i : ℕ) → i < length ns →
    x ≡ get_or ns i x → r ≢ x → first_other r (drop i ns) ≡ Some x
other_here r x ns i l e n = rw (drop-cons ns i x)
    (cond-true (not (same_record r (get_or ns i x))) (Some (get_or ns i x))
    (first_other r (drop (suc i) ns)) (subst (λ (u : DataRecord). not (same_record r u) ≡ true) e
    (not_from_false _ (same_record_no r x n))) ∙ ap Some (sym e))

pub same_here : (r x : DataRecord) (ns : List DataRecord) (i : ℕ) → i < length ns →
    x ≡ get_or ns i x → r ≡ x → first_other r (drop i ns) ≡ first_other r (drop (i + 1) ns)
same_here r x ns i l e n = rw (add-one, drop-cons ns i x)
    (cond-false (not (same_record r (get_or ns i x))) (Some (get_or ns i x))
    (first_other r (drop (suc i) ns)) (not_from_true _
    (subst (λ (u : DataRecord). same_record r u ≡ true) (n ∙ e) (same_record-refl r))))

pub none_left : (r : DataRecord) (ns : List DataRecord) (i : ℕ) → length ns ≤ i →
    first_other r (drop i ns) ≡ None
none_left r [] zero l = refl
none_left r [] (suc i) l = refl
none_left r (n ∷ ns) zero l = absurd (omega arith)
none_left r (n ∷ ns) (suc i) l = none_left r ns i (omega arith)

pub held_of_near : (r : DataRecord) (ns : List DataRecord) → 0 < length ns →
    first_other r ns ≡ None → contains_record ns r ≡ true
held_of_near r [] l o = absurd (omega arith)
held_of_near r (n ∷ ns) l o = held_where_near r n ns o
