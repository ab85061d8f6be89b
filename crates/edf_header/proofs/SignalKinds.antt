-- The annotations signals and the ordinary ones of a list of signals.
use Rattle.std.proofs.Common.{◌≡◌, ℕ, ◌+◌, ◌≤◌, ◌<◌, List, [], ◌∷◌, ◌++◌, length, cond, not, Bool}
use Rattle.std.proofs.Common.{true, false, arith, refl, ap, ◌∙◌, subst, inl, inr}
use Rattle.std.proofs.lemmas.Bool.{cases_Bool, false≢true}
use Rattle.std.proofs.lemmas.List.{append-nil}
use Rattle.std.proofs.lemmas.List.Elements.{All-nil, All-cons, All-head, All-tail, All-filter}
use Rattle.std.proofs.lemmas.List.Elements.{filter-append, filter_passes}
use Rattle.std.proofs.lemmas.List.Filters.{length-filter_both, sum_by-filter_both}
use Rattle.std.proofs.lemmas.Slice.Eq.{bytes_eq-Decides}
use Rattle.std.specs.Prelude.{All, codes, filter}
use Rattle.edf_field.specs.Number.{field}
use Rattle.edf_header.specs.Signal.{IsAnnotationsSignal, IsLabelled, IsOrdinary, Passes, has_label}
use Rattle.edf_header.specs.Signal.{labelled, ordinary, samples, samples_in_all}
use Rattle.edf_header.specs.Condition.{HasAnnotations}
use Rattle.edf_header.specs.declared.signal_checks.Check.TheVariants.{Label, Annotations, Physical}
use Rattle.edf_header.specs.declared.signal_checks.Check.TheVariants.{Digital}

pub is-labelled : (s : List ℕ) → has_label s ≡ true → IsLabelled s
is-labelled s = (bytes_eq-Decides (field s 0 16) (codes "EDF Annotations ")).0

pub has-label : (s : List ℕ) → IsLabelled s → has_label s ≡ true
has-label s = (bytes_eq-Decides (field s 0 16) (codes "EDF Annotations ")).1

pub no-label : (s : List ℕ) → ¬ IsLabelled s → has_label s ≡ false
no-label s h =
    elim (cases_Bool (has_label s)) [
      | inl t ↦ absurd (h (is-labelled s t))
      | inr f ↦ f
    ]

-- each signal is of one kind
pub kinds-count : (ss : List (List ℕ)) → length (labelled ss) + length (ordinary ss) ≡ length ss
kinds-count ss = length-filter_both has_label (λ s. not (has_label s)) (λ s. refl) ss

pub kinds-samples : (ss : List (List ℕ)) →
    samples_in_all (labelled ss) + samples_in_all (ordinary ss) ≡ samples_in_all ss
kinds-samples ss = sum_by-filter_both has_label (λ s. not (has_label s)) (λ s. refl) samples ss

-- what all members have that a filter keeps
all-kept : {X : Type 0} (p : X → Bool) (P : X → Type 0) (xs : List X) →
    All (λ x. p x ≡ true → P x) xs → All P (filter p xs)
all-kept p P xs all = λ k d lt. All-filter p (λ x. p x ≡ true →
    P x) xs all k d lt (filter_passes p xs k d lt)

kept-parts : {X : Type 0} (p : X → Bool) (P : X → Type 0) (x : X) (xs : List X) (b : Bool) →
    p x ≡ b → All P (filter p (x ∷ xs)) → (p x ≡ true → P x) × All P (filter p xs)
kept-parts p P x xs true is all =
    let here = subst (λ (b : Bool). All P (cond b (x ∷ filter p xs) (filter p xs))) is all in
    (λ _. All-head P x (filter p xs) here, All-tail P x (filter p xs) here)
kept-parts p P x xs false is all =
    (λ passes. cc, subst (λ (b : Bool). All P (cond b (x ∷ filter p xs) (filter p xs))) is all)

kept-all : {X : Type 0} (p : X → Bool) (P : X → Type 0) (xs : List X) → All P (filter p xs) →
    All (λ x. p x ≡ true → P x) xs
kept-all p P [] all = All-nil (λ x. p x ≡ true → P x)
kept-all p P (x ∷ xs) all =
    let parts = kept-parts p P x xs (p x) refl all in
    All-cons (λ x. p x ≡ true → P x) x xs parts.0 (kept-all p P xs parts.1)

-- the annotations signals, and the checks of them
are-annotations : (ss : List (List ℕ)) → All (Passes Annotations) ss →
    All IsAnnotationsSignal (labelled ss)
are-annotations ss all = all-kept has_label IsAnnotationsSignal ss
    (λ k d lt is. all k d lt (is-labelled _ is))

pub annotations-pass : (ss : List (List ℕ)) → All IsAnnotationsSignal (labelled ss) →
    All (Passes Annotations) ss
annotations-pass ss all = λ k d lt label.
    kept-all has_label IsAnnotationsSignal ss all k d lt (has-label _ label)

pub has-annotations : (ss : List (List ℕ)) → 1 ≤ length (labelled ss) →
    length (labelled ss) < length ss → All (Passes Annotations) ss → HasAnnotations ss
has-annotations ss some more all = record {
  annotations_some = some;
  annotations = are-annotations ss all;
  ordinary_some = omega (arith, kinds-count ss);
}

-- the ordinary signals, and the checks of them
unlabelled : (s : List ℕ) → not (has_label s) ≡ true → ¬ IsLabelled s
unlabelled s is label = false≢true (subst (λ (b : Bool). not b ≡ true) (has-label s label) is)

passes-not : (s : List ℕ) → ¬ IsLabelled s → not (has_label s) ≡ true
passes-not s h = ap not (no-label s h)

pub are-ordinary : (ss : List (List ℕ)) → All (Passes Physical) ss → All (Passes Digital) ss →
    All IsOrdinary (ordinary ss)
are-ordinary ss physical digital =
    all-kept (λ s. not (has_label s)) IsOrdinary ss
    (λ k d lt is. let label = unlabelled _ is in
    record { label = label; physical = physical k d lt label; digital = digital k d lt label })

pub physical-pass : (ss : List (List ℕ)) → All IsOrdinary (ordinary ss) → All (Passes Physical) ss
physical-pass ss all = λ k d lt label.
    (kept-all (λ s. not (has_label s)) IsOrdinary ss all k d lt (passes-not _ label)).physical

pub digital-pass : (ss : List (List ℕ)) → All IsOrdinary (ordinary ss) → All (Passes Digital) ss
digital-pass ss all = λ k d lt label.
    (kept-all (λ s. not (has_label s)) IsOrdinary ss all k d lt (passes-not _ label)).digital

-- signals that are all ordinary
pub all-ordinary : (ss : List (List ℕ)) → All (Passes Label) ss → ordinary ss ≡ ss
all-ordinary [] all = refl
all-ordinary (s ∷ ss) all =
    rw (no-label s (All-head (Passes Label) s ss all))
    (ap (λ (l : List (List ℕ)). s ∷ l) (all-ordinary ss (All-tail (Passes Label) s ss all)))

pub none-labelled : (ss : List (List ℕ)) → All (Passes Label) ss → labelled ss ≡ []
none-labelled [] all = refl
none-labelled (s ∷ ss) all = rw (no-label s (All-head (Passes Label) s ss all))
    (none-labelled ss (All-tail (Passes Label) s ss all))

-- ordinary signals, and after them an annotations signal
pub ordinary-front : (ss : List (List ℕ)) (row : List ℕ) → All (Passes Label) ss → IsLabelled row →
    ordinary (ss ++ row ∷ []) ≡ ss
ordinary-front ss row all is =
    filter-append (λ s. not (has_label s)) ss (row ∷ [])
    ∙ ap (λ (b : Bool). ordinary ss ++ cond (not b) (row ∷ []) []) (has-label row is)
    ∙ append-nil (ordinary ss) ∙ all-ordinary ss all

pub labelled-last : (ss : List (List ℕ)) (row : List ℕ) → All (Passes Label) ss → IsLabelled row →
    labelled (ss ++ row ∷ []) ≡ row ∷ []
labelled-last ss row all is =
    filter-append has_label ss (row ∷ [])
    ∙ ap (λ (b : Bool). labelled ss ++ cond b (row ∷ []) []) (has-label row is)
    ∙ ap (λ (l : List (List ℕ)). l ++ row ∷ []) (none-labelled ss all)
