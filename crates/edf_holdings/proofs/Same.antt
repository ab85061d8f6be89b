-- The tests for sameness and for clashes decide what they are named for.
use Rattle.std.proofs.Common.{◌≡◌, ◌≢◌, ℕ, ◌+◌, ◌<◌, ◌≤◌, ◌⊎◌, Bool, true, false, Option, None}
use Rattle.std.proofs.Common.{Some, refl, inl, inr, arith}
use Rattle.std.proofs.lemmas.Bool.{and_parts, and_from, cases_Bool, both_ways, not-true}
use Rattle.std.proofs.lemmas.Bool.{not_from_false, false_from_ne_true, lt-ltb, ltb-true, cases_lt}
use Rattle.std.specs.Bool.{Decides}
use Rattle.std.specs.Option.{option_eq}
use Rattle.std.specs.Prelude.{◌==◌, ◌&&◌}
use Rattle.std.specs.Cmp.{booleans_Decides}
use Rattle.std.specs.Cmp.Lexicographic.{pointwise_decides}
use Rattle.std.proofs.lemmas.Bool.Decides.{Decides-eqb}
use Rattle.std.proofs.lemmas.Slice.Eq.{bytes_eq-Decides}
use Rattle.edf_header.specs.Key.{Key}
use Rattle.edf_tal.specs.Tal.{Annotation}
use Rattle.edf_fragment.specs.Fragment.{DataRecord}
use Rattle.edf_holdings.specs.Same.{same_key, same_annotation, same_record}
use Rattle.edf_holdings.specs.Clash.{Clash, clashes}

-- two tests decide what they decide together
both_decide : {A B : Type 0} (r s : Bool) → Decides r A → Decides s B → Decides (r && s) (A × B)
both_decide r s d e = (
  (λ t. let p = and_parts r s t in (d.0 p.0, e.0 p.1)),
  (λ p. and_from r s (d.1 p.0) (e.1 p.1)),
)

option_decides : {A : Type 0} (same : A → A → Bool) → ((x y : A) → Decides (same x y) (x ≡ y)) →
    (x y : Option A) → Decides (option_eq same x y) (x ≡ y)
option_decides same d None None = (λ e. refl, λ e. refl)
option_decides same d None (Some y) = (λ e. cc, λ e. cc)
option_decides same d (Some x) None = (λ e. cc, λ e. cc)
option_decides same d (Some x) (Some y) = ((λ e. λ i. Some ((d x y).0 e i)), (λ e. (d x y).1 cc))

pub same_key-Decides : (k q : Key) → Decides (same_key k q) (k ≡ q)
unfolding same_key
same_key-Decides k q =
    let parts = both_decide _ _ (both_decide _ _ (both_decide _ _ (both_decide _ _
    (bytes_eq-Decides k.patient q.patient) (booleans_Decides k.dated q.dated))
    (bytes_eq-Decides k.after q.after))
    (bytes_eq-Decides k.duration q.duration))
    (pointwise_decides bytes_eq-Decides k.signals q.signals) in (
      (λ e. let p = parts.0 e in λ i. record {
        patient = p.0.0.0.0 i;
        dated = p.0.0.0.1 i;
        after =
            p.0.0.1 i;
        duration = p.0.1 i;
        signals = p.1 i;
      }),
      (λ e. parts.1 (
        (
          (((λ i. (e i).patient), (λ i. (e i).dated)), (λ i. (e i).after)),
          (λ i. (e i).duration),
        ),
        (λ i. (e i).signals),
      )),
    )

pub same_key-true : (k q : Key) → same_key k q ≡ true → k ≡ q
same_key-true k q = (same_key-Decides k q).0

pub same_key-refl : (k : Key) → same_key k k ≡ true
same_key-refl k = (same_key-Decides k k).1 refl

same_annotation-Decides : (a b : Annotation) → Decides (same_annotation a b) (a ≡ b)
unfolding same_annotation
same_annotation-Decides a b =
    let parts = both_decide _ _ (both_decide _ _
    (Decides-eqb a.onset b.onset) (option_decides ◌==◌ Decides-eqb a.duration b.duration))
    (bytes_eq-Decides a.text b.text) in (
      (λ e. let p = parts.0 e in λ i. record { onset = p.0.0 i; duration = p.0.1 i; text = p.1 i }),
      (λ e. parts.1 (((λ i. (e i).onset), (λ i. (e i).duration)), (λ i. (e i).text))),
    )

pub same_record-Decides : (r s : DataRecord) → Decides (same_record r s) (r ≡ s)
unfolding same_record
same_record-Decides r s =
    let parts = both_decide _ _ (both_decide _ _
    (Decides-eqb r.start s.start) (bytes_eq-Decides r.samples s.samples))
    (pointwise_decides same_annotation-Decides r.annotations s.annotations) in (
      (λ e. let p = parts.0 e in λ i. record {
        start = p.0.0 i;
        samples = p.0.1 i;
        annotations =
            p.1 i;
      }),
      (λ e. parts.1 (((λ i. (e i).start), (λ i. (e i).samples)), (λ i. (e i).annotations))),
    )

pub same_record-true : (r s : DataRecord) → same_record r s ≡ true → r ≡ s
same_record-true r s = (same_record-Decides r s).0

pub same_record-refl : (r : DataRecord) → same_record r r ≡ true
same_record-refl r = (same_record-Decides r r).1 refl

pub same_record-false : (r s : DataRecord) → same_record r s ≡ false → r ≢ s
same_record-false r s e p = both_ways _ e ((same_record-Decides r s).1 p)

pub same_record_no : (r s : DataRecord) → r ≢ s → same_record r s ≡ false
same_record_no r s ne = false_from_ne_true _ (λ e. ne (same_record-true r s e))

pub cases_same : (r s : DataRecord) → (r ≡ s) ⊎ (r ≢ s)
cases_same r s = elim (cases_Bool (same_record r s)) [
  | inl e ↦ inl (same_record-true r s e)
  | inr e ↦ inr (same_record-false r s e)
]

-- different records that start less than d apart clash
pub clashes_near : (d : ℕ) (r s : DataRecord) → r ≢ s → r.start < s.start + d →
    s.start < r.start + d → clashes d r s ≡ true
unfolding clashes
clashes_near d r s ne a b = and_from _ _ (not_from_false _ (same_record_no r s ne))
    (and_from _ _ (lt-ltb _ _ a) (lt-ltb _ _ b))

-- what clashes differs and starts less than d apart
pub clashes-true : (d : ℕ) (r s : DataRecord) → clashes d r s ≡ true → (r ≢ s)
    × (r.start < s.start + d) × (s.start < r.start + d)
unfolding clashes
clashes-true d r s e =
    let p = and_parts _ _ e in
    let q = and_parts _ _ p.1 in
    (same_record-false r s (not-true _ p.0), ltb-true _ _ q.0, ltb-true _ _ q.1)

-- what doesn't clash is the same, or starts d apart
pub clashes-false : (d : ℕ) (r s : DataRecord) → clashes d r s ≡ false → (r ≡ s)
    ⊎ ((s.start + d ≤ r.start) ⊎ (r.start + d ≤ s.start))
clashes-false d r s e =
    elim (cases_same r s) [
      | inl p ↦ inl p
      | inr ne ↦ elim (cases_lt r.start (s.start + d)) [
        | inr a ↦ inr (inl a)
        | inl a ↦ elim (cases_lt s.start (r.start + d)) [
          | inr b ↦ inr (inr b)
          | inl b ↦ absurd (both_ways _ e (clashes_near d r s ne a b))
        ]
      ]
    ]

-- the test says what the definition says
pub Clash-from_test : (d : ℕ) (r s : DataRecord) → clashes d r s ≡ true → Clash d r s
Clash-from_test d r s e =
    let p = clashes-true d r s e in
    elim (cases_lt r.start s.start) [
      | inl a ↦ (
        (
          s.start,
          record { begun = omega arith; not_over = p.2 },
          record { begun = omega arith; not_over = omega arith },
        ),
        p.0,
      )
      | inr a ↦ (
        (
          r.start,
          record { begun = omega arith; not_over = omega arith },
          record { begun = a; not_over = p.1 },
        ),
        p.0,
      )
    ]

pub test_from_Clash : (d : ℕ) (r s : DataRecord) → Clash d r s → clashes d r s ≡ true
test_from_Clash d r s h =
    let t = h.0 in
    let a = t.1.begun in let b = t.1.not_over in let e = t.2.begun in let g = t.2.not_over in
    clashes_near d r s h.1 (omega arith) (omega arith)
