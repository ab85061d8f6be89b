-- The stretches of places that have no part are all told, and no others.
use Rattle.std.proofs.Common.{◌≡◌, ℕ, zero, suc, ◌+◌, ◌-◌, ◌<◌, ◌≤◌, List, [], ◌∷◌}
use Rattle.std.proofs.Common.{All, Contains, sym, ap, ◌∙◌, subst, arith, ◌⊎◌, inl, inr, slice_index}
use Rattle.std.specs.Prelude.{if◌then◌else◌, Bool}
use Rattle.std.specs.List.Sorted.{IsStrictlyIncreasing}
use Rattle.std.proofs.lemmas.Bool.{cases_lt, cases_order, lt-ltb, le-ltb}
use Rattle.std.proofs.lemmas.List.Elements.{All-nil, All-cons, All-append, All-weaker}
use Rattle.std.proofs.lemmas.List.Elements.{Contains-append_left, Contains-append_right}
use Rattle.std.proofs.lemmas.List.Elements.{Contains-append_cases}
use Rattle.edf_runs.specs.Inside.Stretching.{gap, stretches, Rise}

-- none of these places has a part here
abbrev pub Free : ℕ → List ℕ → ℕ → Type 0
Free g [] at = Unit {0}
Free g (place ∷ places) at = (place ≤ at → place + g ≤ at) × Free g places at

-- a stretch from the next place on
pub record Stretches (g next : ℕ) (places : List ℕ) (at count : ℕ) : Type 0 where
  pub from : next ≤ at
  pub some : 1 ≤ count
  pub free : (n : ℕ) → n < count → Free g places (at + n)
  pub begins : (at ≡ next) ⊎ ((next < at) × ¬ Free g places (at - 1))
  pub ends : ¬ Free g places (at + count)

free-below : (g low : ℕ) (places : List ℕ) (at : ℕ) → Rise g low places → at < low →
    Free g places at
free-below g low [] at rise lt = tt
free-below g low (place ∷ places) at rise lt =
    let far : at < place = omega (arith, lt, rise.0) in (
      (λ le. omega (arith, le, far)),
      free-below g (place + g) places at rise.1 (omega (arith, far)),
    )

pub one-gap : (next place : ℕ) → next < place → gap next place ≡ (next, place - next) ∷ []
one-gap next place lt = let some : List (ℕ × ℕ) = (next, place - next) ∷ [] in
    ap (λ (b : Bool). if b then some else []) (lt-ltb next place lt)

pub no-gap : (next place : ℕ) → place ≤ next → gap next place ≡ []
no-gap next place le = let some : List (ℕ × ℕ) = (next, place - next) ∷ [] in
    ap (λ (b : Bool). if b then some else []) (le-ltb next place le)

pub all-told : (g next : ℕ) (places : List ℕ) (at count : ℕ) → 1 ≤ g → Rise g next places →
    Stretches g next places at count → Contains (stretches g next places) (at, count)
all-told g next [] at count some rise is = absurd (is.ends tt)
all-told g next (place ∷ places) at count some rise is = elim (cases_lt at place) [
  | inl before ↦
      let free : (x : ℕ) → x < place → Free g (place ∷ places) x =
      λ x lt. (
        (λ le. omega (arith, le, lt)),
        free-below g (place + g) places x rise.1
            (omega (arith, lt)),
      ) in
      let first : at ≡ next = elim is.begins [
        | inl same ↦ same
        | inr later ↦ absurd (later.1 (free (at - 1) (omega (arith, before, later.0))))
      ] in
      let over : place ≤ at + count = elim (cases_lt (at + count) place) [
        | inl lt ↦ absurd (is.ends (free (at + count) lt))
        | inr ge ↦ ge
      ] in
      let under : at + count ≤ place = elim (cases_lt place (at + count)) [
        | inl lt ↦
            let inside = is.free (place - at) (omega (arith, before, lt)) in
            let past = inside.0 (omega (arith, before)) in
            absurd (omega (arith, past, before, some))
        | inr le ↦ le
      ] in
      let lt : next < place = omega (arith, first, before) in
      let many : count ≡ place - next = omega (arith, first, over, under) in
      let same : (at, count) ≡ (next, place - next) =
      ap (λ (x : ℕ). (x, count)) first ∙ ap (λ (x : ℕ). (next, x)) many in
      Contains-append_left (gap next place)
      (stretches g (place + g) places) (at, count)
      (subst (λ (xs : List (ℕ × ℕ)). Contains xs (at, count)) (sym (one-gap next place lt))
      (0, omega arith, sym same))
  | inr behind ↦
      let past : place + g ≤ at + 0 = (is.free 0 is.some).0 (omega (arith, behind)) in
      let rest : Stretches g (place + g) places at count = record {
        from = omega (arith, past);
        some = is.some;
        free = λ n lt. (is.free n lt).1;
        begins = elim (cases_order at (place + g)) [
          | inl same ↦ inl same
          | inr other ↦ elim other [
            | inl lt ↦ absurd (omega (arith, lt, past))
            | inr gt ↦ elim is.begins [
              | inl same ↦ absurd (omega (arith, same, gt, rise.0))
              | inr later ↦ inr (gt, λ f. later.1 ((λ le. omega (arith, gt)), f))
            ]
          ]
        ];
        ends = λ f. is.ends ((λ le. omega (arith, past)), f);
      } in
      Contains-append_right (gap next place)
      (stretches g (place + g) places) (at, count)
      (all-told g (place + g) places at count some rise.1 rest)
]

first-gap : (next place : ℕ) (x : ℕ × ℕ) → Contains (gap next place) x → (next < place)
    × ((next, place - next) ≡ x)
first-gap next place x has = elim (cases_lt next place) [
  | inl lt ↦ (lt, only x (subst (λ (xs : List (ℕ × ℕ)). Contains xs x) (one-gap next place lt) has))
  | inr le ↦ absurd (none x (subst (λ (xs : List (ℕ × ℕ)). Contains xs x) (no-gap next place le)
      has))
]
  where
    only : (x : ℕ × ℕ) → Contains ((next, place - next) ∷ []) x → (next, place - next) ≡ x
    only x (zero, lt, e) = e
    only x (suc i, lt, e) = absurd (omega (arith, lt))

    none : (x : ℕ × ℕ) → Contains [] x → ⊥
    none x has = omega (arith, has.1)

pub only-told : (g next : ℕ) (places : List ℕ) (at count : ℕ) → 1 ≤ g → Rise g next places →
    Contains (stretches g next places) (at, count) → Stretches g next places at count
only-told g next [] at count some rise has = absurd (omega (arith, has.1))
only-told g next (place ∷ places) at count some rise has =
    elim (Contains-append_cases (gap next place)
    (stretches g (place + g) places) (at, count) has) [
      | inl here ↦
          let gap = first-gap next place (at, count) here in
          let at-is : next ≡ at = ap (λ (x : ℕ × ℕ). x.0) gap.1 in
          let count-is : place - next ≡ count = ap (λ (x : ℕ × ℕ). x.1) gap.1 in
          record {
            from = omega (arith, at-is);
            some = omega (arith, count-is, gap.0);
            free = λ n lt. (
              (λ le. omega (arith, le, lt, at-is, count-is)),
              free-below g (place + g) places (at + n) rise.1
                  (omega (arith, lt, at-is, count-is, gap.0)),
            );
            begins = inl (sym at-is);
            ends = λ f. let past = f.0 (omega (arith, at-is, count-is, gap.0)) in
                omega (arith, past, at-is, count-is, gap.0, some);
          }
      | inr later ↦
          let is = only-told g (place + g) places at count some rise.1 later in
          record {
            from = omega (arith, is.from, rise.0);
            some = is.some;
            free = λ n lt. ((λ le. omega (arith, is.from)), is.free n lt);
            begins = elim is.begins [
              | inl same ↦ inr (
                omega (arith, same, rise.0, some),
                λ f. let past = f.0 (omega (arith, same, some)) in omega (arith, past, same, some),
              )
              | inr after ↦ inr (omega (arith, after.0, rise.0), λ f. after.1 f.1)
            ];
            ends = λ f. is.ends f.1;
          }
    ]

-- ---- their order

pub increasing-cons : (x : ℕ) (xs : List ℕ) → All (λ y. x < y) xs → IsStrictlyIncreasing xs →
    IsStrictlyIncreasing (x ∷ xs)
increasing-cons x xs less rest zero lt = less 0 0 (omega (arith, lt))
increasing-cons x xs less rest (suc k) lt =
    let e : suc (k + 1) ≡ suc k + 1 = omega arith in
    subst (λ n. slice_index (x ∷ xs) (suc k) < slice_index (x ∷ xs) n) e
    (rest k (omega (arith, lt)))

pub all-later : (g next : ℕ) (places : List ℕ) → Rise g next places →
    All (λ (x : ℕ × ℕ). next ≤ x.0) (stretches g next places)
all-later g next [] rise = All-nil (λ (x : ℕ × ℕ). next ≤ x.0)
all-later g next (place ∷ places) rise =
    All-append (λ (x : ℕ × ℕ). next ≤ x.0)
    (gap next place) (stretches g (place + g) places)
    (elim (cases_lt next place) [
      | inl lt ↦ subst (All (λ (x : ℕ × ℕ). next ≤ x.0)) (sym (one-gap next place lt))
          (All-cons (λ (x : ℕ × ℕ). next ≤ x.0) (next, place - next) [] (omega arith)
          (All-nil (λ (x : ℕ × ℕ). next ≤ x.0)))
      | inr le ↦ subst (All (λ (x : ℕ × ℕ). next ≤ x.0)) (sym (no-gap next place le))
          (All-nil (λ (x : ℕ × ℕ). next ≤ x.0))
    ])
    (All-weaker (λ (x : ℕ × ℕ). place + g ≤ x.0) (λ (x : ℕ × ℕ). next ≤ x.0)
    (λ x h. omega (arith, h, rise.0)) (stretches g (place + g) places)
    (all-later g (place + g) places rise.1))
