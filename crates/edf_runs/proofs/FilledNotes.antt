-- A filled file has each annotation once, and one for each stretch of places that has no part.
use Rattle.std.proofs.Common.{◌≡◌, ℕ, zero, suc, ◌+◌, ◌-◌, ◌*◌, ◌/◌, ◌<◌, ◌≤◌, List, [], ◌∷◌, ◌++◌}
use Rattle.std.proofs.Common.{length}
use Rattle.std.proofs.Common.{map, All, Contains, refl, sym, ap, ◌∙◌, subst, arith, inl, inr, take}
use Rattle.std.proofs.Common.{drop}
use Rattle.std.proofs.Common.{append-nil, Some}
use Rattle.std.specs.Prelude.{IsPermutation, codes}
use Rattle.std.specs.List.{AllZip}
use Rattle.std.specs.List.Sorted.{IsStrictlyIncreasing}
use Rattle.std.proofs.lemmas.Bool.{cases_lt}
use Rattle.std.proofs.lemmas.Nat.{mul-le}
use Rattle.std.proofs.lemmas.List.{take-append-drop, take_all}
use Rattle.std.proofs.lemmas.List.Elements.{All-nil, All-cons, All-weaker}
use Rattle.std.proofs.lemmas.List.Sorted.{IsPermutation-sym}
use Rattle.edf_tal.specs.Tal.{Annotation}
use Rattle.edf_header.specs.Key.{Key}
use Rattle.edf_fragment.specs.Fragment.{DataRecord}
use Rattle.edf_runs.specs.ByOnset.{annotations_of, assigned, each_assigned, all_assigned, by_onset}
use Rattle.edf_runs.specs.Filled.{place_of, IsFree, IsStretch, Moves, HaveAnnotations}
use Rattle.edf_runs.specs.Order.{in_order}
use Rattle.edf_runs.specs.Inside.Moving.{notes_of}
use Rattle.edf_runs.specs.Inside.Spaced.{Spaced}
use Rattle.edf_runs.specs.Inside.Spreading.{count_before, spread, RiseFrom}
use Rattle.edf_runs.specs.Inside.Stretching.{stretches, Rise}
use Rattle.edf_runs.proofs.FilledPlaces.{places-rise, place-one}
use Rattle.edf_runs.proofs.Order.{order-moves, order-stays, order-sorted, Rises, rises-sorted}
use Rattle.edf_runs.proofs.Order.{le-onset}
use Rattle.edf_runs.proofs.Spreading.{spread-by-onset}
use Rattle.edf_runs.proofs.Stretching.{Free, Stretches, all-told, only-told, increasing-cons}
use Rattle.edf_runs.proofs.Stretching.{all-later}
use Rattle.edf_runs.proofs.Stretching.{one-gap, no-gap}

-- ---- those in order that are spread

pub annotations-spread : (l : List Annotation) (r : DataRecord) (rs : List DataRecord) →
    annotations_of (spread l (r ∷ rs)) ≡ l
annotations-spread l r [] =
    append-nil (take (length l) l) ∙ take_all (length l) l (omega arith)
annotations-spread l r (s ∷ ss) =
    let n = count_before l (s ∷ ss) in
    ap (λ (x : List Annotation). take n l ++ x) (annotations-spread (drop n l) s ss)
    ∙ take-append-drop n l

each-spread : (l m : List Annotation) (rs : List DataRecord) →
    each_assigned l (spread m rs) ≡ each_assigned l rs
each-spread l m [] = refl
each-spread l m (r ∷ []) = refl
each-spread l m (r ∷ s ∷ ss) = ap (λ (x : List DataRecord). assigned l r.start r (s ∷ ss) ∷ x)
    (each-spread l (drop (count_before m (s ∷ ss)) m) (s ∷ ss))

all-spread : (l m : List Annotation) (rs : List DataRecord) →
    all_assigned l (spread m rs) ≡ all_assigned l rs
all-spread l m [] = refl
all-spread l m (r ∷ []) = refl
all-spread l m (r ∷ s ∷ ss) = ap (λ (x : List DataRecord). assigned l 0 r (s ∷ ss) ∷ x)
    (each-spread l (drop (count_before m (s ∷ ss)) m) (s ∷ ss))

onsets-rise : (low : ℕ) (a : Annotation) (l : List Annotation) → low ≤ a.onset → Rises (a ∷ l) →
    RiseFrom low (a ∷ l)
onsets-rise low a [] from rises = (from, tt)
onsets-rise low a (b ∷ l) from rises =
    (from, onsets-rise a.onset b l (le-onset a b rises.0) rises.1)

pub in-order-rises : (l : List Annotation) → Rises l → RiseFrom 0 l
in-order-rises [] rises = tt
in-order-rises (a ∷ l) rises = onsets-rise 0 a l (omega arith) rises

-- where they are in order, so the data records are by onset
pub spread-stays : (d : ℕ) (all : List Annotation) (r : DataRecord) (rs : List DataRecord) →
    Spaced d 0 (r ∷ rs) →
    by_onset (spread (in_order all) (r ∷ rs)) ≡ spread (in_order all) (r ∷ rs)
spread-stays d all r rs spaced =
    let l = in_order all in
    let rises = rises-sorted l (order-sorted all) in
    ap (λ (x : List Annotation). all_assigned (in_order x) (spread l (r ∷ rs)))
    (annotations-spread l r rs)
    ∙ ap (λ (x : List Annotation). all_assigned x (spread l (r ∷ rs))) (order-stays l rises)
    ∙ all-spread l l (r ∷ rs)
    ∙ sym (spread-by-onset d (r ∷ rs) l (in-order-rises l rises) spaced)

pub spread-has : (all : List Annotation) (r : DataRecord) (rs : List DataRecord) →
    IsPermutation (annotations_of (spread (in_order all) (r ∷ rs))) all
spread-has all r rs =
    subst (λ (x : List Annotation). IsPermutation x all)
    (sym (annotations-spread (in_order all) r rs))
    (IsPermutation-sym all (in_order all) (order-moves all))

-- ---- stretches

abbrev pub places-of : ℕ → ℕ → List DataRecord → List ℕ
places-of u first records = map (λ (r : DataRecord). place_of u first r.start) records

-- places rise as data records do
rise-after : (g u first low : ℕ) (r : DataRecord) (rs : List DataRecord) → 0 < u →
    first ≤ r.start → low ≤ place_of u first r.start → Spaced (g * u) (r.start + g * u) rs →
    Rise g low (places-of u first (r ∷ rs))
rise-after g u first low r [] lasts from le spaced = (le, tt)
rise-after g u first low r (s ∷ ss) lasts from le spaced = (
  le,
  rise-after g u first (place_of u first r.start + g) s ss lasts (omega (arith, spaced.0, from))
      (places-rise u g first r.start s.start lasts from spaced.0) spaced.1,
)

pub places-rise-all : (g u : ℕ) (r : DataRecord) (rs : List DataRecord) → 0 < u →
    Spaced (g * u) 0 (r ∷ rs) → Rise g 0 (places-of u r.start (r ∷ rs))
places-rise-all g u r rs lasts spaced =
    rise-after g u r.start 0 r rs lasts (omega arith) (omega arith) spaced.1

first-place : (u first : ℕ) → 0 < u → place_of u first first ≡ 0
first-place u first lasts =
    ap (λ x. (2 * x + u) / (2 * u)) (let e : first - first ≡ 0 = omega arith in e)
    ∙ place-one u 0 0 lasts (omega arith) (omega (arith, lasts))

module _ (k : Key) (g u first : ℕ) where
  pub free-from : (records : List DataRecord) (at : ℕ) → IsFree k g u first records at →
      Free g (places-of u first records) at
  free-from [] at free = tt
  free-from (r ∷ rs) at free = (
    free r (0, omega arith, refl),
    free-from rs at (λ x has. free x (suc has.0, omega (arith, has.1), has.2)),
  )

  pub free-to : (records : List DataRecord) (at : ℕ) → Free g (places-of u first records) at →
      IsFree k g u first records at
  free-to [] at free r has = absurd (omega (arith, has.1))
  free-to (r ∷ rs) at free x (zero, lt, same) =
      subst (λ (y : DataRecord). place_of u first y.start ≤ at → place_of u first y.start + g ≤ at)
      same free.0
  free-to (r ∷ rs) at free x (suc i, lt, same) = free-to rs at free.1 x (i, omega (arith, lt), same)

-- the first place has a part
not-free-first : (g u : ℕ) (r : DataRecord) (rs : List DataRecord) → 1 ≤ g → 0 < u → (at : ℕ) →
    at ≡ 0 → Free g (places-of u r.start (r ∷ rs)) at → ⊥
not-free-first g u r rs some lasts at none free =
    let zero-is = first-place u r.start lasts in
    let past = free.0 (omega (arith, zero-is)) in
    omega (arith, past, none, zero-is, some)

module _ (k : Key) (g u : ℕ) (r : DataRecord) (rs : List DataRecord) (some : 1 ≤ g)
    (lasts : 0 < u) where
  stretch-from : (at count : ℕ) → IsStretch k g u r.start (r ∷ rs) at count →
      Stretches g 0 (places-of u r.start (r ∷ rs)) at count
  stretch-from at count is =
      let free = free-from k g u r.start (r ∷ rs) in
      record {
        from = omega arith;
        some = is.some;
        free = λ n lt. free (at + n) (is.free n lt);
        begins = elim (cases_lt 0 at) [
          | inl lt ↦ inr (lt, λ f. is.ends.0 (free-to k g u r.start (r ∷ rs) (at - 1) f))
          | inr none ↦ absurd (not-free-first g u r rs some lasts (at + 0) (omega (arith, none))
              (free (at + 0) (is.free 0 is.some)))
        ];
        ends = λ f. is.ends.1 (free-to k g u r.start (r ∷ rs) (at + count) f);
      }

  stretch-to : (at count : ℕ) → Stretches g 0 (places-of u r.start (r ∷ rs)) at count →
      IsStretch k g u r.start (r ∷ rs) at count
  stretch-to at count is =
      let free = free-from k g u r.start (r ∷ rs) in
      record {
        some = is.some;
        free = λ n lt. free-to k g u r.start (r ∷ rs) (at + n) (is.free n lt);
        ends = (
          λ f. elim is.begins [
            | inl none ↦ not-free-first g u r rs some lasts (at - 1) (omega (arith, none))
                (free (at - 1) f)
            | inr later ↦ later.1 (free (at - 1) f)
          ],
          λ f. is.ends (free (at + count) f),
        );
      }

-- ---- one annotation for each

module _ (u first : ℕ) where
  noted : (xs : List (ℕ × ℕ)) (at count : ℕ) → Contains xs (at, count) →
      Contains (notes_of u first xs)
      (record { onset = first + at * u; duration = Some (count * u); text = codes "Not recorded" })
  noted [] at count has = absurd (omega (arith, has.1))
  noted (x ∷ xs) at count (zero, lt, same) = (
    0,
    omega arith,
    ap (λ (y : ℕ × ℕ). record {
      onset = first + y.0 * u;
      duration = Some (y.1 * u);
      text = codes "Not recorded";
    }) same,
  )
  noted (x ∷ xs) at count (suc i, lt, same) =
      let more = noted xs at count (i, omega (arith, lt), same) in
      (suc more.0, omega (arith, more.1), more.2)

  of-stretch : (xs : List (ℕ × ℕ)) (a : Annotation) → Contains (notes_of u first xs) a →
      (at : ℕ) × (count : ℕ) × Contains xs (at, count)
      × (a ≡ record {
        onset = first + at * u;
        duration = Some (count * u);
        text = codes "Not recorded";
      })
  of-stretch [] a has = absurd (omega (arith, has.1))
  of-stretch (x ∷ xs) a (zero, lt, same) = (x.0, x.1, (0, omega arith, refl), sym same)
  of-stretch (x ∷ xs) a (suc i, lt, same) =
      let more = of-stretch xs a (i, omega (arith, lt), same) in
      (more.0, more.1, (suc more.2.0, omega (arith, more.2.1), more.2.2), more.3)

  later-onsets : (low : ℕ) (xs : List (ℕ × ℕ)) → All (λ (x : ℕ × ℕ). low ≤ x.0) xs →
      All (λ y. first + low * u ≤ y) (map (λ (a : Annotation). a.onset) (notes_of u first xs))
  later-onsets low [] all = All-nil (λ y. first + low * u ≤ y)
  later-onsets low (x ∷ xs) all =
      let le = all 0 x (omega arith) in
      let m : low * u ≤ x.0 * u = mul-le low u x.0 u le (omega arith) in
      All-cons (λ y. first + low * u ≤ y) (first + x.0 * u)
      (map (λ (a : Annotation). a.onset) (notes_of u first xs)) (omega (arith, m))
      (later-onsets low xs (λ i d lt. all (suc i) d (omega (arith, lt))))

  pub notes-increase : (g next : ℕ) (places : List ℕ) → 1 ≤ g → 0 < u → Rise g next places →
      IsStrictlyIncreasing (map (λ (a : Annotation). a.onset)
      (notes_of u first (stretches g next places)))
  notes-increase g next [] some lasts rise = λ j lt. absurd (omega (arith, lt))
  notes-increase g next (p ∷ ps) some lasts rise = elim (cases_lt next p) [
    | inl lt ↦
        let rest = stretches g (p + g) ps in
        let rises = notes-increase g (p + g) ps some lasts rise.1 in
        let later = later-onsets (p + g) rest (all-later g (p + g) ps rise.1) in
        let m : (next + 1) * u ≤ (p + g) * u =
        mul-le (next + 1) u (p + g) u (omega (arith, lt)) (omega arith) in
        let e : (next + 1) * u ≡ next * u + u = omega arith in
        subst (λ (xs : List (ℕ × ℕ)). IsStrictlyIncreasing (map (λ (a : Annotation). a.onset)
        (notes_of u first (xs ++ rest)))) (sym (one-gap next p lt))
        (increasing-cons (first + next * u)
        (map (λ (a : Annotation). a.onset) (notes_of u first rest))
        (All-weaker (λ y. first + (p + g) * u ≤ y) (λ y. first + next * u < y)
        (λ y h. omega (arith, h, m, e, lasts))
        (map (λ (a : Annotation). a.onset) (notes_of u first rest)) later) rises)
    | inr le ↦
        subst (λ (xs : List (ℕ × ℕ)). IsStrictlyIncreasing (map (λ (a : Annotation). a.onset)
        (notes_of u first (xs ++ stretches g (p + g) ps)))) (sym (no-gap next p le))
        (notes-increase g (p + g) ps some lasts rise.1)
  ]

-- ---- together

pub have-annotations : (k : Key) (g u : ℕ) (r : DataRecord) (rs : List DataRecord)
    (moved : List Annotation) (s : DataRecord) (ss : List DataRecord) → 1 ≤ g → 0 < u →
    Spaced (g * u) 0 (r ∷ rs) → Spaced u 0 (s ∷ ss) →
    AllZip (Moves k g u r.start (r ∷ rs)) (annotations_of (r ∷ rs)) moved →
    HaveAnnotations k g u r.start (r ∷ rs) (spread (in_order (moved
    ++ notes_of u r.start (stretches g 0 (places-of u r.start (r ∷ rs))))) (s ∷ ss))
have-annotations k g u r rs moved s ss some lasts spaced spaced' each =
    let places = places-of u r.start (r ∷ rs) in
    let rise = places-rise-all g u r rs lasts spaced in
    let xs = stretches g 0 places in
    let notes = notes_of u r.start xs in
    record {
      moved = moved;
      notes = notes;
      each = each;
      told = λ at count is. noted u r.start xs at count
          (all-told g 0 places at count some rise (stretch-from k g u r rs some lasts at count is));
      only = λ a has.
          let of = of-stretch u r.start xs a has in (
            of.0,
            of.1,
            stretch-to k g u r rs some lasts of.0 of.1
                (only-told g 0 places of.0 of.1 some rise of.2),
            of.3,
          );
      once = notes-increase u r.start g 0 places some lasts rise;
      together = spread-has (moved ++ notes) s ss;
      placed = spread-stays u (moved ++ notes) s ss spaced';
    }
