-- The parts of a signal are the signal, and its annotations move little.
use Rattle.std.proofs.Common.{◌≡◌, ℕ, zero, suc, ◌+◌, ◌*◌, ◌/◌, ◌≤◌, List, [], ◌∷◌, ◌++◌}
use Rattle.std.proofs.Common.{length, All, Contains, sym, ap, ◌∙◌, arith, inl, inr, ◌⊎◌, take, drop}
use Rattle.std.specs.List.{flat_map, range_with_len}
use Rattle.std.proofs.lemmas.Bool.{cases_lt}
use Rattle.std.proofs.lemmas.List.{take-append-drop, drop-drop, drop_all}
use Rattle.std.proofs.lemmas.List.Elements.{All-nil, All-cons, All-contains}
use Rattle.std.proofs.lemmas.Nat.{div-add-mod'}
use Rattle.edf_field.specs.Number.{duration_of, field}
use Rattle.edf_tal.specs.Tal.{Annotation}
use Rattle.edf_fragment.specs.Fragment.{DataRecord}
use Rattle.edf_holdings.specs.Clash.{IntervalContains}
use Rattle.edf_runs.specs.FilledLaws.{AnnotationsMoveLittle, PartsAreWhole}
use Rattle.edf_runs.proofs.FilledPlaces.{places-are-near}
use Rattle.edf_runs.proofs.Members.{contains-first, contains-later}

-- ---- annotations

abbrev LiesIn : ℕ → List DataRecord → ℕ → Type 0
LiesIn d records instant = (r : DataRecord) × Contains records r × IntervalContains d r instant

abbrev LiesOutside : ℕ → List DataRecord → ℕ → Type 0
LiesOutside d records instant = All (λ r. ¬ IntervalContains d r instant) records

lies : (d instant : ℕ) (records : List DataRecord) →
    LiesIn d records instant ⊎ LiesOutside d records instant
lies d instant [] = inr (All-nil (λ r. ¬ IntervalContains d r instant))
lies d instant (r ∷ rs) = elim (lies d instant rs) [
  | inl there ↦ inl (there.0, contains-later r rs there.0 there.1, there.2)
  | inr not ↦ elim (cases_lt instant r.start) [
    | inl early ↦ inr (All-cons (λ x. ¬ IntervalContains d x instant) r rs
        (λ in-r. omega (arith, early, in-r.begun)) not)
    | inr begun ↦ elim (cases_lt instant (r.start + d)) [
      | inl here ↦ inl (
        r,
        contains-first r rs,
        record { begun = begun; not_over = here },
      )
      | inr late ↦ inr (All-cons (λ x. ¬ IntervalContains d x instant) r rs
          (λ in-r. omega (arith, late, in-r.not_over)) not)
    ]
  ]
]

pub annotations-move-little : AnnotationsMoveLittle
annotations-move-little k g u first records a to some from moves =
    elim (lies (duration_of k.duration) a.onset records) [
      | inl (r, has, in-r) ↦
          let is = moves.moved r has in-r in
          let near = places-are-near u first r.start some
          (All-contains (λ x. first ≤ x.start) records r from has) in (
            omega (arith, is, near.0, near.1, in-r.begun),
            omega (arith, is, near.0, near.1, in-r.begun),
          )
      | inr not ↦
          let same : to.onset ≡ a.onset = ap (λ (x : Annotation). x.onset) (moves.stays not) in
          (omega (arith, same), omega (arith, same))
    ]

-- ---- samples

pieces : (m : ℕ) (signal : List ℕ) (n at : ℕ) → length signal ≡ (at + n) * m →
    flat_map (λ i. field signal (i * m) m) (range_with_len at n) ≡ drop (at * m) signal
pieces m signal zero at long =
    sym (drop_all (at * m) signal (omega (
      arith,
      long,
      (let e : (at + 0) * m ≡ at * m =
          ap (λ x. x * m) (omega arith) in e),
    )))
pieces m signal (suc n) at long =
    let next : (at + 1) * m ≡ at * m + m = omega arith in
    let more = pieces m signal n (at + 1) (long ∙ ap (λ x. x * m) (omega arith)) in
    let on : drop m (drop (at * m) signal) ≡ drop ((at + 1) * m) signal =
    drop-drop m (at * m) signal ∙ ap (λ x. drop x signal) (omega (arith, next)) in
    ap (λ l. take m (drop (at * m) signal) ++ l) (more ∙ sym on)
    ∙ take-append-drop m (drop (at * m) signal)

pub parts-are-whole : PartsAreWhole
parts-are-whole signal g some even =
    let e = div-add-mod' (length signal) g in
    let none : 0 * (length signal / g) ≡ 0 = omega arith in
    pieces (length signal / g) signal g 0 (omega (arith, e, even))
    ∙ ap (λ x. drop x signal) none
