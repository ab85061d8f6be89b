-- The filled file of a recording without a gap is that of its one run, with annotations by onset.
use Rattle.std.proofs.Common.{◌≡◌, ℕ, zero, suc, ◌+◌, ◌-◌, ◌*◌, ◌/◌, ◌<◌, ◌≤◌, List, [], ◌∷◌, ◌++◌}
use Rattle.std.proofs.Common.{length}
use Rattle.std.proofs.Common.{map, take, drop, All, Contains, slice_get, Option, Some, None, refl}
use Rattle.std.proofs.Common.{sym, ap}
use Rattle.std.proofs.Common.{◌∙◌, subst, arith, inl, inr, ◌⊎◌, append-nil, length-drop}
use Rattle.std.specs.Prelude.{IsPermutation, option_map}
use Rattle.std.specs.List.{AllZip, flat_map}
use Rattle.std.proofs.lemmas.Bool.{cases_lt}
use Rattle.std.proofs.lemmas.List.{take_all, take-append-drop, nil_from_length}
use Rattle.std.proofs.lemmas.List.Elements.{All-cons, All-nil}
use Rattle.std.proofs.lemmas.List.Sorted.{IsPermutation-sym}
use Rattle.std.proofs.lemmas.List.Sums.{sum_by-cons}
use Rattle.edf_field.specs.Number.{duration_of, field}
use Rattle.edf_header.specs.Key.{Key, IsKey}
use Rattle.edf_header.specs.Signal.{samples, samples_in_all}
use Rattle.edf_header.proofs.Cited.{key-duration-some}
use Rattle.edf_tal.specs.Block.{split_by_sizes}
use Rattle.edf_tal.specs.Tal.{Annotation}
use Rattle.edf_fragment.specs.Fragment.{DataRecord}
use Rattle.edf_fragment.specs.Sound.{AreSoundFrom}
use Rattle.edf_holdings.specs.Clash.{IntervalContains}
use Rattle.edf_runs.specs.ByOnset.{annotations_of, AreAlike}
use Rattle.edf_runs.specs.Filled.{place_of, IsFree, HaveSamples, Moves}
use Rattle.edf_runs.specs.Filled.{HaveAnnotations}
use Rattle.edf_runs.specs.FilledLaws.{IsOneRun}
use Rattle.edf_runs.specs.File.{IsRunFile}
use Rattle.edf_runs.specs.Runs.{StartFrom, IsTouching}
use Rattle.edf_runs.proofs.ByOnset.{same-by-onset}
use Rattle.edf_runs.proofs.FilledPlaces.{place-one}

-- ---- all samples are the one part

only-part : (signal : List ℕ) →
    field signal (0 * (length signal / 1)) (length signal / 1) ≡ signal
only-part signal =
    let none : 0 * (length signal / 1) ≡ 0 = omega arith in
    let all : length signal / 1 ≡ length signal = omega arith in
    ap (λ n. take (length signal / 1) (drop n signal)) none
    ∙ ap (λ n. take n signal) all ∙ take_all (length signal) signal (omega arith)

abbrev parts : List ℕ → List ℕ → List ℕ
parts sizes bytes = flat_map
    (λ signal. field signal (0 * (length signal / 1)) (length signal / 1))
    (split_by_sizes sizes bytes)

whole-split : (rows : List (List ℕ)) (bytes : List ℕ) → length bytes ≡ 2 * samples_in_all rows →
    parts (map (λ row. 2 * samples row) rows) bytes ≡ bytes
whole-split [] bytes len = sym (nil_from_length bytes (omega (arith, len)))
whole-split (r ∷ rs) bytes len =
    let n = 2 * samples r in
    let more = sum_by-cons samples r rs in
    let rest = whole-split rs (drop n bytes)
    (omega (arith, len, more, length-drop n bytes)) in
    ap (λ (l : List ℕ). l ++ parts (map (λ row. 2 * samples row) rs) (drop n bytes))
    (only-part (take n bytes))
    ∙ ap (λ (l : List ℕ). take n bytes ++ l) rest
    ∙ take-append-drop n bytes

-- ---- places without a gap

module _ (d first : ℕ) (lasts : 0 < d) where
  -- the ith starts i durations after the first
  nth-start : (at i : ℕ) (rs : List DataRecord) (r : DataRecord) → StartFrom d at rs →
      slice_get rs i ≡ Some r → r.start ≡ at + i * d
  nth-start at i [] r from is = absurd (let f = is in cc)
  nth-start at zero (x ∷ xs) r from is =
      let same : x ≡ r = some-same x r is in
      omega (arith, ap (λ (y : DataRecord). y.start) same, from.0)
    where
      value : DataRecord → Option DataRecord → DataRecord
      value other None = other
      value other (Some y) = y

      some-same : (x r : DataRecord) → Some x ≡ Some r → x ≡ r
      some-same x r is = ap (value x) is
  nth-start at (suc i) (x ∷ xs) r from is =
      let more = nth-start (at + d) i xs r from.1 is in
      let e : suc i * d ≡ d + i * d = omega arith in
      omega (arith, more, e)

  nth-place : (i start : ℕ) → start ≡ first + i * d → place_of d first start ≡ i
  nth-place i start is =
      let a : start - first ≡ i * d = omega (arith, is) in
      ap (λ x. (2 * x + d) / (2 * d)) a
      ∙ place-one d (i * d) i lasts (omega arith) (omega (arith, lasts))

-- ---- lists by their elements

get-in : (rs : List DataRecord) (r : DataRecord) → Contains rs r →
    (i : ℕ) × (i < length rs) × (slice_get rs i ≡ Some r)
get-in [] r has = absurd (omega (arith, has.1))
get-in (x ∷ xs) r (zero, lt, same) = (0, omega arith, ap (λ (y : DataRecord). Some y) same)
get-in (x ∷ xs) r (suc i, lt, same) =
    let more = get-in xs r (i, omega (arith, lt), same) in
    (suc more.0, omega (arith, more.1), more.2)

in-get : (rs : List DataRecord) (i : ℕ) → i < length rs →
    (r : DataRecord) × Contains rs r × (slice_get rs i ≡ Some r)
in-get [] i lt = absurd (omega (arith, lt))
in-get (x ∷ xs) zero lt = (x, (0, omega arith, refl), refl)
in-get (x ∷ xs) (suc i) lt =
    let more = in-get xs i (omega (arith, lt)) in
    (more.0, (suc more.1.0, omega (arith, more.1.1), more.1.2), more.2)

some-long : (rs : List DataRecord) (i : ℕ) (s : List ℕ) →
    option_map (λ (r : DataRecord). r.samples) (slice_get rs i) ≡ Some s → i < length rs
some-long [] i s is = absurd (let f = is in cc)
some-long (x ∷ xs) zero s is = omega arith
some-long (x ∷ xs) (suc i) s is = let more = some-long xs i s is in omega (arith, more)

-- lists that start alike and have the same samples, element by element
alike : (d at : ℕ) (rs others : List DataRecord) → StartFrom d at rs → StartFrom d at others →
    length rs ≡ length others →
    ((i : ℕ) (r : DataRecord) → slice_get rs i ≡ Some r →
    option_map (λ (other : DataRecord). other.samples) (slice_get others i) ≡ Some r.samples) →
    AllZip AreAlike rs others
alike d at [] [] from from' len each = tt
alike d at [] (o ∷ others) from from' len each = absurd (omega (arith, len))
alike d at (r ∷ rs) [] from from' len each = absurd (omega (arith, len))
alike d at (r ∷ rs) (o ∷ others) from from' len each = (
  (from.0 ∙ sym from'.0, sym (some-list o.samples r.samples (each 0 r refl))),
  alike d (at + d) rs others from.1 from'.1 (omega (arith, len)) (λ i x is. each (suc i) x is),
)
  where
    value : List ℕ → Option (List ℕ) → List ℕ
    value other None = other
    value other (Some y) = y

    some-list : (x y : List ℕ) → Some x ≡ Some y → x ≡ y
    some-list x y is = ap (value x) is

-- ---- annotations stay

contained : (d instant : ℕ) (rs : List DataRecord) →
    ((r : DataRecord) × Contains rs r × IntervalContains d r instant)
    ⊎ All (λ r. IntervalContains d r instant → ⊥) rs
contained d instant [] = inr (All-nil (λ r. IntervalContains d r instant → ⊥))
contained d instant (x ∷ xs) = elim (contained d instant xs) [
  | inl (r, has, inside) ↦ inl (r, (suc has.0, omega (arith, has.1), has.2), inside)
  | inr none ↦ elim (cases_lt instant x.start) [
    | inl early ↦ inr (All-cons (λ r. IntervalContains d r instant → ⊥) x xs
        (λ inside. omega (arith, early, inside.begun)) none)
    | inr begun ↦ elim (cases_lt instant (x.start + d)) [
      | inl before ↦ inl (
        x,
        (0, omega arith, refl),
        record { begun = omega (arith, begun); not_over = omega (arith, before) },
      )
      | inr over ↦ inr (All-cons (λ r. IntervalContains d r instant → ⊥) x xs
          (λ inside. omega (arith, over, inside.not_over)) none)
    ]
  ]
]

-- ---- the filled data records

module _ (k : Key) (r : DataRecord) (rs : List DataRecord) (key : IsKey k)
    (sound : AreSoundFrom k 0 (r ∷ rs)) (touching : IsTouching (duration_of k.duration) (r ∷ rs))
  where
    abbrev d : ℕ
    d = duration_of k.duration

    lasts : 0 < d
    lasts = key-duration-some k key

    from-first : StartFrom d r.start (r ∷ rs)
    from-first = (refl, touching)

    its-place : (i : ℕ) (x : DataRecord) → slice_get (r ∷ rs) i ≡ Some x →
        place_of d r.start x.start ≡ i
    its-place i x is =
        nth-place d r.start lasts i x.start
        (nth-start d r.start lasts r.start i (r ∷ rs) x from-first is)

    -- no place of the first ones is free, and all behind them are
    not-free : (place : ℕ) → place < length (r ∷ rs) → IsFree k 1 d r.start (r ∷ rs) place → ⊥
    not-free place lt free =
        let at = in-get (r ∷ rs) place lt in
        let here = its-place place at.0 at.2 in
        let past = free at.0 at.1 (omega (arith, here)) in
        omega (arith, past, here)

    free-behind : (place : ℕ) → length (r ∷ rs) ≤ place → IsFree k 1 d r.start (r ∷ rs) place
    free-behind place far x has le =
        let at = get-in (r ∷ rs) x has in
        let here = its-place at.0 x at.2 in
        omega (arith, at.1, here, far)

    sound-len : (low : ℕ) (xs : List DataRecord) (x : DataRecord) → AreSoundFrom k low xs →
        Contains xs x → length x.samples ≡ 2 * samples_in_all k.signals
    sound-len low [] x is has = absurd (omega (arith, has.1))
    sound-len low (y ∷ ys) x is (zero, lt, same) =
        subst (λ (z : DataRecord). length z.samples ≡ 2 * samples_in_all k.signals) same
        is.0.samples_len
    sound-len low (y ∷ ys) x is (suc i, lt, same) =
        sound-len (y.start + d) ys x is.2 (i, omega (arith, lt), same)

    module _ (flat : List ℕ) (others : List DataRecord)
        (have : HaveSamples k 1 d r.start (r ∷ rs) flat others) where
      each-samples : (i : ℕ) (x : DataRecord) → slice_get (r ∷ rs) i ≡ Some x →
          option_map (λ (other : DataRecord). other.samples) (slice_get others i) ≡ Some x.samples
      each-samples i x is =
          let at = has-at (r ∷ rs) i x is in
          let here : i ≡ place_of d r.start x.start + 0 = omega (arith, its-place i x is) in
          ap (λ n. option_map (λ (other : DataRecord). other.samples) (slice_get others n)) here
          ∙ have.parts x 0 at (omega arith)
          ∙ ap (λ (l : List ℕ). Some l) (whole-split k.signals x.samples
          (sound-len 0 (r ∷ rs) x sound at))
        where
          has-at : (xs : List DataRecord) (i : ℕ) (x : DataRecord) → slice_get xs i ≡ Some x →
              Contains xs x
          has-at [] i x is = absurd (let f = is in cc)
          has-at (y ∷ ys) zero x is = (0, omega arith, ap (value y) is)
            where
              value : DataRecord → Option DataRecord → DataRecord
              value other None = other
              value other (Some z) = z
          has-at (y ∷ ys) (suc i) x is =
              let more = has-at ys i x is in (suc more.0, omega (arith, more.1), more.2)

      as-long : length (r ∷ rs) ≡ length others
      as-long =
          let last = in-get (r ∷ rs) (length rs) (omega arith) in
          let long = some-long others (length rs) last.0.samples
          (each-samples (length rs) last.0 last.2) in
          elim (cases_lt (length (r ∷ rs)) (length others)) [
            | inl more ↦
                absurd (have.last (free-behind (length others - 1) (omega (arith, more))))
            | inr few ↦ omega (arith, long, few)
          ]

      are-alike : AllZip AreAlike (r ∷ rs) others
      are-alike = alike d r.start (r ∷ rs) others from-first have.starts as-long each-samples

    -- each annotation stays
    one-stays : (a to : Annotation) → Moves k 1 d r.start (r ∷ rs) a to → to ≡ a
    one-stays a to is = elim (contained d a.onset (r ∷ rs)) [
      | inl (x, has, inside) ↦
          let at = get-in (r ∷ rs) x has in
          let start = nth-start d r.start lasts r.start at.0 (r ∷ rs) x from-first at.2 in
          let there : place_of d r.start x.start * d ≡ at.0 * d =
          ap (λ n. n * d) (its-place at.0 x at.2) in
          let onset : to.onset ≡ a.onset =
          is.moved x has inside ∙ omega (arith, there, start, inside.begun) in
          ap (λ (n : ℕ). record { onset = n; duration = to.duration; text = to.text }) onset
          ∙ ap (λ (n : Option ℕ). record { onset = a.onset; duration = n; text = to.text })
          is.same.0
          ∙ ap (λ (l : List ℕ). record { onset = a.onset; duration = a.duration; text = l })
          is.same.1
      | inr none ↦ is.stays none
    ]

    all-stay : (all moved : List Annotation) →
        AllZip (Moves k 1 d r.start (r ∷ rs)) all moved → moved ≡ all
    all-stay [] [] each = refl
    all-stay [] (m ∷ moved) each = absurd each
    all-stay (a ∷ all) [] each = absurd each
    all-stay (a ∷ all) (m ∷ moved) each =
        ap (λ (x : Annotation). x ∷ moved) (one-stays a m each.0)
        ∙ ap (λ (l : List Annotation). a ∷ l) (all-stay all moved each.1)

    module _ (others : List DataRecord)
        (have : HaveAnnotations k 1 d r.start (r ∷ rs) others) where
      -- no stretch is free
      none-told : (notes : List Annotation) → ((a : Annotation) → Contains notes a → ⊥) → notes ≡ []
      none-told [] none = refl
      none-told (a ∷ notes) none = absurd (none a (0, omega arith, refl))

      never-told : (a : Annotation) → Contains have.notes a → ⊥
      never-told a has =
          let only = have.only a has in
          let place = only.0 in
          let count = only.1 in
          let stretch = only.2 in
          let far : length (r ∷ rs) ≤ place = elim (cases_lt place (length (r ∷ rs))) [
            | inl lt ↦ absurd (not-free place lt (subst (IsFree k 1 d r.start (r ∷ rs))
                (let e : place + 0 ≡ place = omega arith in e)
                (stretch.free 0 (omega (arith, stretch.some)))))
            | inr ge ↦ ge
          ] in
          stretch.ends.1 (free-behind (place + count) (omega (arith, far)))

      no-notes : have.notes ≡ []
      no-notes = none-told have.notes never-told

      same-notes : IsPermutation (annotations_of (r ∷ rs)) (annotations_of others)
      same-notes =
          let moved = all-stay (annotations_of (r ∷ rs)) have.moved have.each in
          let all : have.moved ++ have.notes ≡ annotations_of (r ∷ rs) =
          ap (λ (l : List Annotation). have.moved ++ l) no-notes ∙ append-nil have.moved ∙ moved in
          IsPermutation-sym (annotations_of others) (annotations_of (r ∷ rs))
          (subst (λ (l : List Annotation). IsPermutation (annotations_of others) l) all
          have.together)

pub one-run : IsOneRun
one-run file k [] key sound touching is = absurd is
one-run file k (r ∷ rs) key sound touching (g, u, key', others, filled, run) =
    let d = duration_of k.duration in
    let same = filled.whole touching in
    let unit : u ≡ d = filled.lasts ∙ ap (λ (x : Key). duration_of x.duration) same.1 in
    let have : HaveSamples k 1 d r.start (r ∷ rs) filled.flat others =
    subst (λ (x : ℕ). HaveSamples k 1 x r.start (r ∷ rs) filled.flat others) unit
    (subst (λ (x : ℕ). HaveSamples k x u r.start (r ∷ rs) filled.flat others) same.0 filled.samples)
    in
    let notes : HaveAnnotations k 1 d r.start (r ∷ rs) others =
    subst (λ (x : ℕ). HaveAnnotations k 1 x r.start (r ∷ rs) others) unit
    (subst (λ (x : ℕ). HaveAnnotations k x u r.start (r ∷ rs) others) same.0 filled.annotations) in
    let one = same-by-onset (r ∷ rs) others
    (are-alike k r rs key sound touching filled.flat others have)
    (same-notes k r rs key sound touching others notes) in
    subst (λ (l : List DataRecord). IsRunFile file k l) (sym (one ∙ notes.placed))
    (subst (λ (x : Key). IsRunFile file x others) same.1 run)
