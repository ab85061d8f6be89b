-- Data records by onset have each annotation once, where its onset lies.
use Rattle.std.proofs.Common.{◌≡◌, ℕ, ◌+◌, ◌≤◌, ◌<◌, ◌⊎◌, ◌↔◌, List, [], ◌∷◌, ◌++◌, Contains, All}
use Rattle.std.proofs.Common.{refl, sym, ap, ◌∙◌, subst, arith, inl, inr, append-nil}
use Rattle.std.specs.Prelude.{Bool, true, false, not, ◌&&◌, nat_le, nat_lt, filter, IsPermutation}
use Rattle.std.specs.List.{AllZip}
use Rattle.std.proofs.lemmas.Bool.{leb-true, le-leb, lt-leb, ltb-true, lt-ltb}
use Rattle.std.proofs.lemmas.Bool.{le-ltb, and_parts, and_from, cases_lt}
use Rattle.std.proofs.lemmas.List.Elements.{All-nil, All-cons, All-head, filter_agree}
use Rattle.std.proofs.lemmas.List.Sorted.{IsPermutation-refl, IsPermutation-sym}
use Rattle.std.proofs.lemmas.List.Sorted.{IsPermutation-trans, IsPermutation-append_right}
use Rattle.std.proofs.lemmas.List.Sorted.{IsPermutation-filter_both, Contains-permutation, ranks_by}
use Rattle.std.proofs.lemmas.List.Kept.{IsSortedBy-filter}
use Rattle.std.specs.Ordering.{is_lt}
use Rattle.edf_field.specs.Number.{duration_of}
use Rattle.edf_header.specs.Key.{Key}
use Rattle.edf_tal.specs.Tal.{Annotation}
use Rattle.edf_fragment.specs.Fragment.{DataRecord}
use Rattle.edf_fragment.specs.Sound.{AreSoundFrom}
use Rattle.edf_runs.specs.ByOnset.{annotations_of, is_before, is_between, assigned, each_assigned}
use Rattle.edf_runs.specs.ByOnset.{all_assigned, by_onset, IsLastStarted, EachWhereStarted}
use Rattle.edf_runs.specs.ByOnset.{StayInOrder, StayAlike, AreAlike}
use Rattle.edf_canonical.specs.File.{IsCanonicalFile}
use Rattle.edf_canonical.proofs.Files.{one-file}
use Rattle.edf_runs.specs.OneByOnset.{AreOneHoweverSpread}
use Rattle.edf_runs.specs.Inside.Spaced.{Spaced}
use Rattle.edf_runs.specs.Order.{annotation_cmp, AreInOrder, in_order}
use Rattle.edf_runs.proofs.Order.{order-moves, order-sorted, one-order, total}
use Rattle.edf_runs.proofs.Members.{contains-kept, kept-contains, filter-both}

-- ---- starts that rise

pub spaced-sound : (k : Key) (low : ℕ) (rs : List DataRecord) → AreSoundFrom k low rs →
    Spaced (duration_of k.duration) low rs
spaced-sound k low [] sound = tt
spaced-sound k low (r ∷ rs) sound =
    (sound.1, spaced-sound k (r.start + duration_of k.duration) rs sound.2)

pub spaced-lower : (d low lower : ℕ) (rs : List DataRecord) → lower ≤ low → Spaced d low rs →
    Spaced d lower rs
spaced-lower d low lower [] le spaced = tt
spaced-lower d low lower (r ∷ rs) le spaced = (omega (arith, spaced.0), spaced.1)

-- those of `all` are spaced as their data records are
pub spaced-each : (all : List Annotation) (d low : ℕ) (rs : List DataRecord) → Spaced d low rs →
    Spaced d low (each_assigned all rs)
spaced-each all d low [] spaced = tt
spaced-each all d low (r ∷ rs) spaced =
    (spaced.0, spaced-each all d (r.start + d) rs spaced.1)

pub spaced-all : (all : List Annotation) (d low : ℕ) (rs : List DataRecord) → Spaced d low rs →
    Spaced d low (all_assigned all rs)
spaced-all all d low [] spaced = tt
spaced-all all d low (r ∷ rs) spaced =
    (spaced.0, spaced-each all d (r.start + d) rs spaced.1)

-- an instant before the first of them is before each
pub before-each : (instant d low : ℕ) (rs : List DataRecord) → Spaced d low rs → instant < low →
    All (λ r. instant < r.start) rs
before-each instant d low [] spaced lt = All-nil (λ r. instant < r.start)
before-each instant d low (r ∷ rs) spaced lt =
    All-cons (λ x. instant < x.start) r rs (omega (arith, spaced.0))
    (before-each instant d (r.start + d) rs spaced.1 (omega (arith, spaced.0)))

before-all : (all : List Annotation) (instant d low : ℕ) (rs : List DataRecord) → Spaced d low rs →
    is_before rs instant ≡ true → All (λ r. instant < r.start) (each_assigned all rs)
before-all all instant d low [] spaced is = All-nil (λ r. instant < r.start)
before-all all instant d low (r ∷ rs) spaced is =
    let lt = ltb-true instant r.start is in
    All-cons (λ x. instant < x.start) (assigned all r.start r rs) (each_assigned all rs) lt
    (before-each instant d (r.start + d) (each_assigned all rs)
    (spaced-each all d (r.start + d) rs spaced.1) (omega (arith, lt)))

is-before : (all : List Annotation) (instant : ℕ) (rs : List DataRecord) →
    All (λ r. instant < r.start) (each_assigned all rs) → is_before rs instant ≡ true
is-before all instant [] later = refl
is-before all instant (r ∷ rs) later =
    lt-ltb instant r.start
    (All-head (λ x. instant < x.start) (assigned all r.start r rs) (each_assigned all rs) later)

-- ---- each annotation once

-- those from an instant on
abbrev from_on : ℕ → Annotation → Bool
from_on low a = nat_le low a.onset

no-more : (b : Bool) → b ≡ (b && true)
no-more true = refl
no-more false = refl

-- those from an instant on that a later instant parts
apart-below : (low next onset : ℕ) → low ≤ next → (nat_le low onset && not (nat_lt onset next))
    ≡ nat_le next onset
apart-below low next onset le = elim (cases_lt onset next) [
  | inl lt ↦ rw (lt-ltb onset next lt, lt-leb next onset lt) (and-not (nat_le low onset))
  | inr ge ↦ rw (le-ltb onset next ge, le-leb next onset ge, le-leb low onset (omega arith)) refl
]
  where
    and-not : (b : Bool) → (b && false) ≡ false
    and-not true = refl
    and-not false = refl

once-each : (all : List Annotation) (d low : ℕ) (r : DataRecord) (rs : List DataRecord) →
    low ≤ r.start → Spaced d r.start rs →
    IsPermutation (filter (from_on low) all)
    (annotations_of (assigned all low r rs ∷ each_assigned all rs))
once-each all d low r [] le spaced =
    subst (IsPermutation (filter (from_on low) all))
    (filter_agree (from_on low) (is_between low []) (λ a. no-more (nat_le low a.onset)) all
    ∙ sym (append-nil (filter (is_between low []) all)))
    (IsPermutation-refl (filter (from_on low) all))
once-each all d low r (s ∷ ss) le spaced =
    let next = s.start in
    let p : Annotation → Bool = λ a. nat_lt a.onset next in
    let q : Annotation → Bool = λ a. not (nat_lt a.onset next) in
    let mine : filter p (filter (from_on low) all) ≡ filter (is_between low (s ∷ ss)) all =
    filter-both p (from_on low) all in
    let later : filter q (filter (from_on low) all) ≡ filter (from_on next) all =
    filter-both q (from_on low) all
    ∙ filter_agree (λ a. from_on low a && q a) (from_on next)
    (λ a. apart-below low next a.onset (omega (arith, spaced.0))) all in
    let parts : IsPermutation (filter (from_on low) all) (filter p (filter (from_on low) all)
    ++ filter q (filter (from_on low) all)) =
    IsPermutation-filter_both p q (λ a. refl) (filter (from_on low) all) in
    let both : IsPermutation (filter (from_on low) all) (filter (is_between low (s ∷ ss)) all
    ++ filter (from_on next) all) =
    subst (λ l. IsPermutation (filter (from_on low) all) (l ++ filter (from_on next) all)) mine
    (subst (λ l. IsPermutation (filter (from_on low) all) (filter p (filter (from_on low) all)
    ++ l)) later parts) in
    IsPermutation-trans (filter (from_on low) all) (filter (is_between low (s ∷ ss)) all
    ++ filter (from_on next) all) _ both
    (IsPermutation-append_right (filter (is_between low (s ∷ ss)) all) _ _
    (once-each all d next s ss (omega arith)
    (spaced-lower d (s.start + d) s.start ss (omega arith) spaced.1)))

every-one : (all : List Annotation) → filter (from_on 0) all ≡ all
every-one [] = refl
every-one (a ∷ more) =
    rw (le-leb 0 a.onset (omega arith)) (ap (λ l. a ∷ l) (every-one more))

pub once : (d : ℕ) (records : List DataRecord) → Spaced d 0 records →
    IsPermutation (annotations_of records) (annotations_of (by_onset records))
once d [] spaced = IsPermutation-refl []
once d (r ∷ rs) spaced =
    let given = annotations_of (r ∷ rs) in
    let all = in_order given in
    IsPermutation-trans given all (annotations_of (by_onset (r ∷ rs))) (order-moves given)
    (subst (λ l. IsPermutation l (annotations_of (by_onset (r ∷ rs)))) (every-one all)
    (once-each all d 0 r rs (omega arith) (spaced-lower d (r.start + d) r.start rs (omega arith)
    spaced.1)))

-- ---- each where its onset lies

pub record Placed (all : List Annotation) (low : ℕ) (before : List DataRecord) (g : DataRecord)
    (after : List DataRecord) (a : Annotation) : Type 0 where
  pub is_one : Contains all a
  pub started : ((before ≡ []) × (low ≤ a.onset)) ⊎ (g.start ≤ a.onset)
  pub last : All (λ r. a.onset < r.start) after

-- the first of a list, and the others
pub head-is : {X : Type 0} (x y : X) (xs ys : List X) → x ∷ xs ≡ y ∷ ys → x ≡ y
head-is x y xs ys same = cc

pub tail-is : {X : Type 0} (x y : X) (xs ys : List X) → x ∷ xs ≡ y ∷ ys → xs ≡ ys
tail-is x y xs ys same = cc

cons-is-not-nil : {X : Type 0} (x : X) (xs : List X) → ¬ (x ∷ xs ≡ [])
cons-is-not-nil x xs same = cc

placed : (all : List Annotation) (d low : ℕ) (r : DataRecord) (rs before : List DataRecord)
    (g : DataRecord) (after : List DataRecord) (a : Annotation) → low ≤ r.start →
    Spaced d r.start rs →
    assigned all low r rs ∷ each_assigned all rs ≡ before ++ g ∷ after →
    Contains g.annotations a ↔ Placed all low before g after a
placed all d low r rs [] g after a le spaced same =
    let first : assigned all low r rs ≡ g = head-is _ _ _ _ same in
    let others : each_assigned all rs ≡ after = tail-is _ _ _ _ same in (
      λ c.
          let kept = contains-kept (is_between low rs) all a
          (subst (λ (x : DataRecord). Contains x.annotations a) (sym first) c) in
          let both = and_parts (nat_le low a.onset) (is_before rs a.onset) kept.1 in
          record {
            is_one = kept.0;
            started = inl (refl, leb-true low a.onset both.0);
            last = subst (λ l. All (λ x. a.onset < x.start) l) others
                (before-all all a.onset d r.start rs spaced both.1);
          },
      λ p.
          let from : low ≤ a.onset = elim p.started [
            | inl here ↦ here.1
            | inr by ↦ omega (arith, ap (λ (x : DataRecord). x.start) first)
          ] in
          let until : is_before rs a.onset ≡ true = is-before all a.onset rs
          (subst (λ l. All (λ x. a.onset < x.start) l) (sym others) p.last) in
          subst (λ (x : DataRecord). Contains x.annotations a) first
          (kept-contains (is_between low rs) all a p.is_one
          (and_from (nat_le low a.onset) (is_before rs a.onset) (le-leb low a.onset from) until)),
    )
placed all d low r [] (b ∷ bs) g after a le spaced same =
    let none : [] ≡ bs ++ g ∷ after = tail-is _ _ _ _ same in absurd (nothing bs none)
  where
    nothing : (xs : List DataRecord) → ¬ ([] ≡ xs ++ g ∷ after)
    nothing [] e = cons-is-not-nil g after (sym e)
    nothing (x ∷ xs) e = cons-is-not-nil x (xs ++ g ∷ after) (sym e)
placed all d low r (s ∷ ss) (b ∷ bs) g after a le spaced same =
    let others : assigned all s.start s ss ∷ each_assigned all ss ≡ bs ++ g ∷ after =
    tail-is _ _ _ _ same in
    let later = placed all d s.start s ss bs g after a (omega arith)
    (spaced-lower d (s.start + d) s.start ss (omega arith) spaced.1) others in
    let starts : bs ≡ [] → g.start ≡ s.start = λ e.
    ap (λ (x : DataRecord). x.start) (sym (head-is (assigned all s.start s ss) g
    (each_assigned all ss) after (subst (λ l. assigned all s.start s ss
    ∷ each_assigned all ss ≡ l ++ g ∷ after) e others))) in (
      λ c.
          let p = later.0 c in
          record {
            is_one = p.is_one;
            started = elim p.started [
              | inl here ↦ inr (omega (arith, starts here.0, here.1))
              | inr by ↦ inr by
            ];
            last = p.last;
          },
      λ p.
          later.1 (record {
            is_one = p.is_one;
            started = elim p.started [
              | inl here ↦ absurd (cons-is-not-nil b bs here.0)
              | inr by ↦ inr by
            ];
            last = p.last;
          }),
    )

pub placed-by_onset : (d : ℕ) (records before : List DataRecord) (g : DataRecord)
    (after : List DataRecord) (a : Annotation) → Spaced d 0 records →
    by_onset records ≡ before ++ g ∷ after →
    Contains g.annotations a
    ↔ (Contains (annotations_of records) a × IsLastStarted before g after a.onset)
placed-by_onset d [] [] g after a spaced same = absurd (cons-is-not-nil g after (sym same))
placed-by_onset d [] (b ∷ bs) g after a spaced same =
    absurd (cons-is-not-nil b (bs ++ g ∷ after) (sym same))
placed-by_onset d (r ∷ rs) before g after a spaced same =
    let given = annotations_of (r ∷ rs) in
    let all = in_order given in
    let is = placed all d 0 r rs before g after a (omega arith)
    (spaced-lower d (r.start + d) r.start rs (omega arith) spaced.1) same in (
      λ c.
          let p = is.0 c in (
            Contains-permutation all given a (IsPermutation-sym given all (order-moves given))
                p.is_one,
            record {
              started = elim p.started [
                | inl here ↦ inl here.0
                | inr by ↦ inr by
              ];
              last = p.last;
            },
          ),
      λ p.
          is.1 (record {
            is_one = Contains-permutation given all a (order-moves given) p.0;
            started = elim p.1.started [
              | inl here ↦ inl (here, omega arith)
              | inr by ↦ inr by
            ];
            last = p.1.last;
          }),
    )

-- ---- as laws

pub each-where-started : EachWhereStarted
each-where-started k records before after r a sound same =
    placed-by_onset (duration_of k.duration) records before r after a
    (spaced-sound k 0 records sound) same

alike-each : (all : List Annotation) (rs : List DataRecord) →
    AllZip AreAlike (each_assigned all rs) rs
alike-each all [] = tt
alike-each all (r ∷ rs) = ((refl, refl), alike-each all rs)

alike : (all : List Annotation) (rs : List DataRecord) → AllZip AreAlike (all_assigned all rs) rs
alike all [] = tt
alike all (r ∷ rs) = ((refl, refl), alike-each all rs)

pub stay-alike : StayAlike
stay-alike k records sound = (
  alike (in_order (annotations_of records)) records,
  IsPermutation-sym _ _ (once (duration_of k.duration) records (spaced-sound k 0 records sound)),
)

each-in-order : (all : List Annotation) → AreInOrder all → (low : ℕ) (r : DataRecord)
    (rs : List DataRecord) → AreInOrder (assigned all low r rs).annotations
each-in-order all sorted low r rs =
    IsSortedBy-filter (λ x y. is_lt (annotation_cmp x y)) (ranks_by total (λ x. x))
    (is_between low rs) all sorted

all-in-order : (all : List Annotation) → AreInOrder all → (rs : List DataRecord) →
    All (λ r. AreInOrder r.annotations) (each_assigned all rs)
all-in-order all sorted [] = All-nil (λ r. AreInOrder r.annotations)
all-in-order all sorted (r ∷ rs) =
    All-cons (λ x. AreInOrder x.annotations) (assigned all r.start r rs) (each_assigned all rs)
    (each-in-order all sorted r.start r rs) (all-in-order all sorted rs)

pub stay-in-order : StayInOrder
stay-in-order [] = All-nil (λ r. AreInOrder r.annotations)
stay-in-order (r ∷ rs) =
    let all = in_order (annotations_of (r ∷ rs)) in
    let sorted = order-sorted (annotations_of (r ∷ rs)) in
    All-cons (λ x. AreInOrder x.annotations) (assigned all 0 r rs) (each_assigned all rs)
    (each-in-order all sorted 0 r rs) (all-in-order all sorted rs)

-- ---- by times, samples and annotations alone

between-alike : (low : ℕ) (rs ss : List DataRecord) → AllZip AreAlike rs ss →
    (a : Annotation) → is_between low rs a ≡ is_between low ss a
between-alike low [] [] alike a = refl
between-alike low [] (s ∷ ss) alike a = absurd alike
between-alike low (r ∷ rs) [] alike a = absurd alike
between-alike low (r ∷ rs) (s ∷ ss) alike a =
    ap (λ n. nat_le low a.onset && nat_lt a.onset n) alike.0.0

one-alike : (all : List Annotation) (low : ℕ) (r s : DataRecord) (rs ss : List DataRecord) →
    AreAlike r s → AllZip AreAlike rs ss → assigned all low r rs ≡ assigned all low s ss
one-alike all low r s rs ss one alike =
    let kept = filter (is_between low rs) all in
    ap (λ n. record { start = n; samples = r.samples; annotations = kept }) one.0
    ∙ ap (λ l. record { start = s.start; samples = l; annotations = kept }) one.1
    ∙ ap (λ l. record { start = s.start; samples = s.samples; annotations = l })
    (filter_agree (is_between low rs) (is_between low ss) (between-alike low rs ss alike) all)

each-alike : (all : List Annotation) (rs ss : List DataRecord) → AllZip AreAlike rs ss →
    each_assigned all rs ≡ each_assigned all ss
each-alike all [] [] alike = refl
each-alike all [] (s ∷ ss) alike = absurd alike
each-alike all (r ∷ rs) [] alike = absurd alike
each-alike all (r ∷ rs) (s ∷ ss) alike =
    ap (λ n. assigned all n r rs ∷ each_assigned all rs) alike.0.0
    ∙ ap (λ x. x ∷ each_assigned all rs) (one-alike all s.start r s rs ss alike.0 alike.1)
    ∙ ap (λ l. assigned all s.start s ss ∷ l) (each-alike all rs ss alike.1)

all-alike : (all : List Annotation) (rs ss : List DataRecord) → AllZip AreAlike rs ss →
    all_assigned all rs ≡ all_assigned all ss
all-alike all [] [] alike = refl
all-alike all [] (s ∷ ss) alike = absurd alike
all-alike all (r ∷ rs) [] alike = absurd alike
all-alike all (r ∷ rs) (s ∷ ss) alike =
    ap (λ x. x ∷ each_assigned all rs) (one-alike all 0 r s rs ss alike.0 alike.1)
    ∙ ap (λ l. assigned all 0 s ss ∷ l) (each-alike all rs ss alike.1)

pub same-by-onset : (records others : List DataRecord) → AllZip AreAlike records others →
    IsPermutation (annotations_of records) (annotations_of others) →
    by_onset records ≡ by_onset others
same-by-onset records others alike moved =
    ap (λ all. all_assigned all records)
    (sym (one-order (annotations_of records) (annotations_of others) moved))
    ∙ all-alike (in_order (annotations_of others)) records others alike

pub are-one-however-spread : AreOneHoweverSpread
are-one-however-spread records others alike moved =
    let same = same-by-onset records others alike moved in (
      same,
      λ k file other is also.
          one-file file other k (by_onset records)
          is (subst (IsCanonicalFile other k) (sym same) also),
    )
