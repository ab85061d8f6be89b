-- The ordinary signals and the annotations signals of a list, one after another.
use Rattle.std.proofs.Common.{◌≡◌, ℕ, ◌+◌, ◌≤◌, ◌<◌, List, [], ◌∷◌, ◌++◌, length, get_or, take}
use Rattle.std.proofs.Common.{cond, Bool, true, false, not, arith, sym, ap, ◌∙◌, subst}
use Rattle.std.proofs.lemmas.List.{take_all, append-nil, flat_map_more}
use Rattle.std.proofs.lemmas.List.Elements.{filter_more}
use Rattle.std.proofs.lemmas.List.Sums.{sum_by_push}
use Rattle.std.specs.Prelude.{All}
use Rattle.std.specs.List.{flat_map}
use Rattle.edf_header.specs.Signal.{has_label, labelled, ordinary, samples, samples_in_all}

ordinary-more : (ss : List (List ℕ)) (i : ℕ) (r : List ℕ) (b : Bool) → i < length ss →
    r ≡ get_or ss i [] → b ≡ has_label r
    → ordinary (take (i + 1) ss) ≡ ordinary (take i ss) ++ cond (not b) (r ∷ []) []
ordinary-more ss i r b lt at is = rw (is, at) (filter_more (λ s. not (has_label s)) ss i [] lt)

labelled-more : (ss : List (List ℕ)) (i : ℕ) (r : List ℕ) (b : Bool) → i < length ss →
    r ≡ get_or ss i [] → b ≡ has_label r
    → labelled (take (i + 1) ss) ≡ labelled (take i ss) ++ cond b (r ∷ []) []
labelled-more ss i r b lt at is = rw (is, at) (filter_more has_label ss i [] lt)

pub labelled-kept : (ss : List (List ℕ)) (i : ℕ) (r : List ℕ) (b : Bool) → i < length ss →
    r ≡ get_or ss i [] → b ≡ has_label r → b ≡ true
    → labelled (take (i + 1) ss) ≡ labelled (take i ss) ++ r ∷ []
labelled-kept ss i r b lt at is on = labelled-more ss i r b lt at is
    ∙ ap (λ t. labelled (take i ss) ++ cond t (r ∷ []) []) on

pub labelled-left : (ss : List (List ℕ)) (i : ℕ) (r : List ℕ) (b : Bool) → i < length ss →
    r ≡ get_or ss i [] → b ≡ has_label r → b ≡ false
    → labelled (take (i + 1) ss) ≡ labelled (take i ss)
labelled-left ss i r b lt at is off = labelled-more ss i r b lt at is
    ∙ ap (λ t. labelled (take i ss) ++ cond t (r ∷ []) []) off ∙ append-nil (labelled (take i ss))

pub ordinary-left : (ss : List (List ℕ)) (i : ℕ) (r : List ℕ) (b : Bool) → i < length ss →
    r ≡ get_or ss i [] → b ≡ has_label r → b ≡ true
    → ordinary (take (i + 1) ss) ≡ ordinary (take i ss)
ordinary-left ss i r b lt at is on = ordinary-more ss i r b lt at is
    ∙ ap (λ t. ordinary (take i ss) ++ cond (not t) (r ∷ []) []) on
    ∙ append-nil (ordinary (take i ss))

pub skip-labelled : {X : Type 0} (F : List (List ℕ) → X) (ss : List (List ℕ)) (i : ℕ) (r : List ℕ)
    (b : Bool) (x : X) → i < length ss → r ≡ get_or ss i [] → b ≡ has_label r → b ≡ true
    → x ≡ F (ordinary (take i ss)) → x ≡ F (ordinary (take (i + 1) ss))
skip-labelled F ss i r b x lt at is on was = was ∙ ap F (sym (ordinary-left ss i r b lt at is on))

pub push-more : (ss : List (List ℕ)) (i : ℕ) (r : List ℕ) (b : Bool) → i < length ss →
    r ≡ get_or ss i [] → b ≡ has_label r → b ≡ false
    → ordinary (take (i + 1) ss) ≡ ordinary (take i ss) ++ r ∷ []
push-more ss i r b lt at is off = ordinary-more ss i r b lt at is
    ∙ ap (λ t. ordinary (take i ss) ++ cond (not t) (r ∷ []) []) off

pub copy-ordinary : (ss : List (List ℕ)) (start old new : List ℕ) (i : ℕ) (r : List ℕ) (b : Bool) →
    i < length ss → r ≡ get_or ss i [] → b ≡ has_label r → b ≡ false
    → old ≡ start ++ flat_map (λ s. s) (ordinary (take i ss)) → new ≡ old ++ r
    → new ≡ start ++ flat_map (λ s. s) (ordinary (take (i + 1) ss))
copy-ordinary ss start old new i r b lt at is off was step =
    step ∙ ap (λ (l : List ℕ). l ++ r) was
    ∙ flat_map_more (λ (s : List ℕ). s) start (ordinary (take i ss)) r
    ∙ ap (λ (l : List (List ℕ)). start ++ flat_map (λ (s : List ℕ). s) l)
    (sym (push-more ss i r b lt at is off))

pub add-ordinary : (ss : List (List ℕ)) (i : ℕ) (r : List ℕ) (n old : ℕ) (b : Bool) →
    i < length ss → r ≡ get_or ss i [] → b ≡ has_label r → b ≡ false → n ≡ samples r
    → old ≡ samples_in_all (ordinary (take i ss)) →
    old + n ≡ samples_in_all (ordinary (take (i + 1) ss))
add-ordinary ss i r n old b lt at is off here was =
    let e : samples_in_all (ordinary (take (i + 1) ss)) ≡ samples_in_all
    (ordinary (take i ss)) + samples r =
    ap samples_in_all (push-more ss i r b lt at is off)
    ∙ sum_by_push samples (ordinary (take i ss)) r in
    omega (arith, e)

pub ended : {X : Type 0} (F : List (List ℕ) → X) (ss : List (List ℕ)) (i : ℕ) (x : X) →
    length ss ≤ i → x ≡ F (ordinary (take i ss)) → x ≡ F (ordinary ss)
ended F ss i x past was = was ∙ ap (λ l. F (ordinary l)) (take_all i ss past)

pub ordinary-all : (ss : List (List ℕ)) (i : ℕ) → length ss ≤ i → ordinary (take i ss) ≡ ordinary ss
ordinary-all ss i past = ap (λ (l : List (List ℕ)). ordinary l) (take_all i ss past)

pub labelled-all : (ss : List (List ℕ)) (i : ℕ) → length ss ≤ i → labelled (take i ss) ≡ labelled ss
labelled-all ss i past = ap (λ (l : List (List ℕ)). labelled l) (take_all i ss past)

-- a member meets what all members meet
pub member-meets : (P : List ℕ → Type 0) (ss : List (List ℕ)) (i : ℕ) (r : List ℕ) → i < length ss →
    r ≡ get_or ss i [] → All P ss → P r
member-meets P ss i r lt at all = subst P (sym at) (all i [] lt)
