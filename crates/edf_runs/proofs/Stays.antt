-- Data records that are by onset stay: there are no others.
use Rattle.std.proofs.Common.{◌≡◌, ℕ, ◌+◌, ◌≤◌, ◌<◌, List, [], ◌∷◌, ◌++◌, Contains, All, refl, sym}
use Rattle.std.proofs.Common.{ap, ◌∙◌, subst, arith, inl, inr, append-nil, append_assoc}
use Rattle.std.specs.Prelude.{Bool, true, false, nat_le, nat_lt, filter}
use Rattle.std.specs.List.{AllZip}
use Rattle.std.proofs.lemmas.Bool.{leb-true, le-leb, ltb-true, lt-ltb, le-ltb, and_parts, and_from}
use Rattle.std.proofs.lemmas.Bool.{and_right}
use Rattle.std.proofs.lemmas.List.Elements.{All-nil, All-head, All-tail, All-append, All-weaker}
use Rattle.std.proofs.lemmas.List.Elements.{All-contains_itself, filter-append}
use Rattle.edf_field.specs.Number.{duration_of}
use Rattle.edf_tal.specs.Tal.{Annotation}
use Rattle.edf_fragment.specs.Fragment.{DataRecord}
use Rattle.edf_runs.specs.ByOnset.{annotations_of, is_before, is_between, each_assigned}
use Rattle.edf_runs.specs.ByOnset.{all_assigned, by_onset, AreAlike}
use Rattle.edf_runs.specs.Inside.Spaced.{Spaced}
use Rattle.edf_runs.specs.OneByOnset.{AreWhereStarted, AreOneByOnset, StaysByOnset}
use Rattle.edf_runs.specs.Order.{AreInOrder, in_order}
use Rattle.edf_runs.proofs.ByOnset.{spaced-sound, spaced-lower, each-where-started, stay-alike}
use Rattle.edf_runs.proofs.ByOnset.{stay-in-order, same-by-onset, spaced-all}
use Rattle.edf_runs.proofs.Filtered.{filter-all, filter-none, filter-order}
use Rattle.edf_runs.proofs.Order.{is-true-or-false, order-stays, rises-sorted}

-- ---- annotations that are where they belong, in order

abbrev pub AreIn : ℕ → List DataRecord → List Annotation → Type 0
AreIn low following all = All (λ a. is_between low following a ≡ true) all × AreInOrder all

abbrev pub AreHere : List DataRecord → Type 0
AreHere [] = Unit {0}
AreHere (r ∷ rs) = AreIn r.start rs r.annotations × AreHere rs

-- none of them is early
late : (d low : ℕ) (rs : List DataRecord) → Spaced d low rs → AreHere rs →
    All (λ a. low ≤ a.onset) (annotations_of rs)
late d low [] spaced here = All-nil (λ (a : Annotation). low ≤ a.onset)
late d low (r ∷ rs) spaced here =
    All-append (λ a. low ≤ a.onset) r.annotations (annotations_of rs)
    (All-weaker (λ a. is_between r.start rs a ≡ true) (λ a. low ≤ a.onset)
    (λ a is. omega (
      arith,
      spaced.0,
      leb-true r.start a.onset
          (and_parts (nat_le r.start a.onset) (is_before rs a.onset) is).0,
    )) r.annotations here.0.0)
    (late d low rs (spaced-lower d (r.start + d) low rs (omega (arith, spaced.0)) spaced.1) here.1)

none-later : (d low : ℕ) (rs : List DataRecord) → Spaced d 0 rs → AreHere rs →
    All (λ a. is_between low rs a ≡ false) (annotations_of rs)
none-later d low [] spaced here = All-nil (λ (a : Annotation). is_between low [] a ≡ false)
none-later d low (s ∷ ss) spaced here =
    All-weaker (λ a. s.start ≤ a.onset) (λ a. is_between low (s ∷ ss) a ≡ false)
    (λ a from. and_right (nat_le low a.onset) (nat_lt a.onset s.start)
    (le-ltb a.onset s.start from)) (annotations_of (s ∷ ss))
    (late d s.start (s ∷ ss) (omega arith, spaced.1) here)

-- ---- from an instant on all annotations are those of the data records that are left

abbrev IsLeft : ℕ → List Annotation → List Annotation → Type 0
IsLeft low all left = (p : Annotation → Bool) → ((a : Annotation) → p a ≡ true → low ≤ a.onset) →
    filter p all ≡ in_order (filter p left)

one-stays : (all : List Annotation) (d low : ℕ) (r : DataRecord) (rs : List DataRecord) →
    Spaced d 0 rs → IsLeft low all (annotations_of (r ∷ rs)) → AreIn low rs r.annotations →
    AreHere rs → filter (is_between low rs) all ≡ r.annotations
one-stays all d low r rs spaced left here later =
    let p = is_between low rs in
    let own : filter p (annotations_of (r ∷ rs)) ≡ r.annotations =
    filter-append p r.annotations (annotations_of rs)
    ∙ ap (λ l. l ++ filter p (annotations_of rs)) (filter-all p r.annotations here.0)
    ∙ ap (λ l. r.annotations ++ l)
    (filter-none p (annotations_of rs) (none-later d low rs spaced later))
    ∙ append-nil r.annotations in
    left p (λ a is. leb-true low a.onset
    (and_parts (nat_le low a.onset) (is_before rs a.onset) is).0)
    ∙ ap in_order own
    ∙ order-stays r.annotations (rises-sorted r.annotations here.1)

left-later : (all : List Annotation) (low : ℕ) (r s : DataRecord) (ss : List DataRecord) →
    low ≤ s.start → IsLeft low all (annotations_of (r ∷ s ∷ ss)) →
    AreIn low (s ∷ ss) r.annotations → IsLeft s.start all (annotations_of (s ∷ ss))
left-later all low r s ss le left here p says =
    let none : All (λ a. p a ≡ false) r.annotations =
    All-weaker (λ a. is_between low (s ∷ ss) a ≡ true) (λ a. p a ≡ false)
    (λ a is. elim (is-true-or-false (p a)) [
      | inl e ↦ absurd (omega (
        arith,
        says a e,
        ltb-true a.onset s.start
            (and_parts (nat_le low a.onset) (nat_lt a.onset s.start) is).1,
      ))
      | inr e ↦ e
    ]) r.annotations here.0 in
    left p (λ a e. omega (arith, le, says a e))
    ∙ ap in_order (filter-append p r.annotations (annotations_of (s ∷ ss))
    ∙ ap (λ l. l ++ filter p (annotations_of (s ∷ ss))) (filter-none p r.annotations none))

with_notes : DataRecord → List Annotation → DataRecord
with_notes r l = record { start = r.start; samples = r.samples; annotations = l }

each-stays : (all : List Annotation) (d : ℕ) (r : DataRecord) (rs : List DataRecord) →
    Spaced d r.start rs → IsLeft r.start all (annotations_of (r ∷ rs)) → AreHere (r ∷ rs) →
    each_assigned all (r ∷ rs) ≡ r ∷ rs
unfolding with_notes
each-stays all d r [] spaced left here =
    ap (λ l. with_notes r l ∷ []) (one-stays all d r.start r [] tt left here.0 tt)
each-stays all d r (s ∷ ss) spaced left here =
    ap (λ l. with_notes r l ∷ each_assigned all (s ∷ ss))
    (one-stays all d r.start r (s ∷ ss) (omega arith, spaced.1) left here.0 here.1)
    ∙ ap (λ l. r ∷ l) (each-stays all d s ss
    (spaced-lower d (s.start + d) s.start ss (omega arith) spaced.1)
    (left-later all r.start r s ss spaced.0 left here.0) here.1)

all-stay : (all : List Annotation) (d : ℕ) (r : DataRecord) (rs : List DataRecord) →
    Spaced d r.start rs → IsLeft 0 all (annotations_of (r ∷ rs)) → AreIn 0 rs r.annotations →
    AreHere rs → all_assigned all (r ∷ rs) ≡ r ∷ rs
unfolding with_notes
all-stay all d r [] spaced left first here =
    ap (λ l. with_notes r l ∷ []) (one-stays all d 0 r [] tt left first tt)
all-stay all d r (s ∷ ss) spaced left first here =
    ap (λ l. with_notes r l ∷ each_assigned all (s ∷ ss))
    (one-stays all d 0 r (s ∷ ss) (omega arith, spaced.1) left first here)
    ∙ ap (λ l. r ∷ l) (each-stays all d s ss
    (spaced-lower d (s.start + d) s.start ss (omega arith) spaced.1)
    (left-later all 0 r s ss (omega arith) left first) here)

-- ---- where each is in the last that started

module _ {X : Type 0} (P : X → Type 0) (xs : List X) (each : (x : X) → Contains xs x → P x) where
  of-each : All P xs
  of-each = All-weaker (Contains xs) P each xs (All-contains_itself xs)

before-later : (instant : ℕ) (rs : List DataRecord) → All (λ later. instant < later.start) rs →
    is_before rs instant ≡ true
before-later instant [] later = refl
before-later instant (r ∷ rs) later =
    lt-ltb instant r.start (All-head (λ x. instant < x.start) r rs later)

not-nil : (xs : List DataRecord) (x : DataRecord) → ¬ (xs ++ x ∷ [] ≡ [])
not-nil [] x same = cc
not-nil (y ∷ ys) x same = cc

module _ (others : List DataRecord) (started : AreWhereStarted others) where
  first-here : (r : DataRecord) (rs : List DataRecord) → others ≡ r ∷ rs →
      AreInOrder r.annotations → AreIn 0 rs r.annotations
  first-here r rs same order = (
    of-each (λ a. is_between 0 rs a ≡ true) r.annotations
        (λ a c. and_from (nat_le 0 a.onset) (is_before rs a.onset) (le-leb 0 a.onset (omega arith))
        (before-later a.onset rs (started [] rs r a same c).last)),
    order,
  )

  each-here : (before rs : List DataRecord) → ¬ (before ≡ []) → others ≡ before ++ rs →
      All (λ r. AreInOrder r.annotations) rs → AreHere rs
  each-here before [] some same order = tt
  each-here before (r ∷ rs) some same order = (
    (
      of-each (λ a. is_between r.start rs a ≡ true) r.annotations (λ a c.
          let is = started before rs r a same c in
          let from : r.start ≤ a.onset = elim is.started [
            | inl none ↦ absurd (some none)
            | inr by ↦ by
          ] in
          and_from (nat_le r.start a.onset) (is_before rs a.onset) (le-leb r.start a.onset from)
          (before-later a.onset rs is.last)),
      All-head (λ x. AreInOrder x.annotations) r rs order,
    ),
    each-here (before ++ r ∷ []) rs (not-nil before r)
        (same ∙ sym (append_assoc before (r ∷ []) rs))
        (All-tail (λ x. AreInOrder x.annotations) r rs order),
  )

spaced-alike : (d low : ℕ) (others records : List DataRecord) → AllZip AreAlike others records →
    Spaced d low records → Spaced d low others
spaced-alike d low [] records alike spaced = tt
spaced-alike d low (o ∷ os) [] alike spaced = absurd alike
spaced-alike d low (o ∷ os) (r ∷ rs) alike spaced = (
  subst (λ n. low ≤ n) (sym alike.0.0) spaced.0,
  subst (λ n. Spaced d (n + d) os) (sym alike.0.0)
      (spaced-alike d (r.start + d) os rs alike.1 spaced.1),
)

pub stays : (d : ℕ) (others : List DataRecord) → Spaced d 0 others → AreWhereStarted others →
    All (λ r. AreInOrder r.annotations) others → by_onset others ≡ others
stays d [] spaced started order = refl
stays d (r ∷ rs) spaced started order =
    all-stay (in_order (annotations_of (r ∷ rs))) d r rs
    (spaced-lower d (r.start + d) r.start rs (omega arith) spaced.1)
    (λ p says. filter-order p (annotations_of (r ∷ rs)))
    (first-here (r ∷ rs) started r rs refl (All-head (λ x. AreInOrder x.annotations) r rs order))
    (each-here (r ∷ rs) started (r ∷ []) rs (not-nil [] r) refl
    (All-tail (λ x. AreInOrder x.annotations) r rs order))

pub are-one-by-onset : AreOneByOnset
are-one-by-onset k records sound =
    let alike = stay-alike k records sound in
    let d = duration_of k.duration in (
      record {
        alike = alike.0;
        once = alike.1;
        started = λ before after r a same c.
            ((each-where-started k records before after r a sound same).0 c).1;
        order = stay-in-order records;
      },
      λ others is.
          sym (stays d others (spaced-alike d 0 others records is.alike
          (spaced-sound k 0 records sound)) is.started is.order)
          ∙ same-by-onset others records is.alike is.once,
    )

-- and so stay as they are
pub stays-by-onset : StaysByOnset
stays-by-onset k records sound =
    let d = duration_of k.duration in
    let are = (are-one-by-onset k records sound).0 in
    stays d (by_onset records)
    (spaced-all (in_order (annotations_of records)) d 0 records (spaced-sound k 0 records sound))
    are.started are.order
