-- Labels of annotations signals.
use Rattle.std.proofs.Common.{◌≡◌, ℕ, zero, suc, ◌+◌, ◌≤◌, ◌<◌, List, ◌∷◌, length, map, arith, inl}
use Rattle.std.proofs.Common.{inr, sym, ◌∙◌, subst, refl, Bool, true, false, All, codes, rules}
use Rattle.std.specs.Prelude.{filter, if◌then◌else◌}
use Rattle.std.specs.List.{range_with_len}
use Rattle.edf_field.specs.Text.{IsPrintable}
use Rattle.edf_header.specs.Fields.{label_field}
use Rattle.edf_header.specs.Header.{HeaderRecord, AreSignals}
use Rattle.edf_header.specs.Signal.{row_at, has_label, IsLabelled}
use Rattle.edf_header.proofs.SignalKinds.{is-labelled}
use Rattle.edf_mend.specs.Texts.{spaced}
use Rattle.edf_mend.specs.Signal.{KeepsSignal, SpeaksOfAnnotations}
use Rattle.edf_mend.specs.Header.{KeepsSignals}

label-prints : All IsPrintable (codes "EDF Annotations ")
label-prints = search rules

pub labelled-stays : (old new : List ℕ) → KeepsSignal old new →
    spaced (label_field old) ≡ codes "EDF Annotations " → IsLabelled new
labelled-stays old new kept label = elim kept.kind [
  | inl both ↦ both.0
  | inr other ↦
      elim other.1.label [
        | inl same ↦ same.1 ∙ label
        | inr spelled ↦
            absurd (spelled.0
            (subst (λ (l : List ℕ). All IsPrintable l) (sym label) label-prints))
      ]
]

was-labelled : (old new : List ℕ) → KeepsSignal old new → IsLabelled new →
    spaced (label_field old) ≡ codes "EDF Annotations "
was-labelled old new kept is = elim kept.kind [
  | inl both ↦ both.1
  | inr other ↦ absurd (other.0 is)
]

-- one of some is there
one-of-rest : (f : ℕ → List ℕ) (a k : ℕ) →
    (1 ≤ length (filter has_label (map f (range_with_len (a + 1) k))) →
    (j : ℕ) × (j < a + 1 + k) × (has_label (f j) ≡ true)) → (b : Bool) → has_label (f a) ≡ b →
    1 ≤ length (if b then f a ∷ filter has_label (map f (range_with_len (a + 1) k))
    else filter has_label (map f (range_with_len (a + 1) k))) →
    (j : ℕ) × (j < a + suc k) × (has_label (f j) ≡ true)
one-of-rest f a k more true e some = (a, omega arith, e)
one-of-rest f a k more false e some = let m = more some in (m.0, omega (arith, m.1), m.2)

some-of : (f : ℕ → List ℕ) (a k : ℕ) → 1 ≤ length (filter has_label (map f (range_with_len a k))) →
    (j : ℕ) × (j < a + k) × (has_label (f j) ≡ true)
some-of f a zero some = absurd (omega (arith, some))
some-of f a (suc k) some =
    one-of-rest f a k (some-of f (a + 1) k) (has_label (f a)) refl some

some-label : (bytes : List ℕ) (h : HeaderRecord) → AreSignals bytes h →
    (j : ℕ) × (j < h.fixed.signal_count) × IsLabelled (row_at bytes h.fixed.signal_count j)
some-label bytes h are =
    let found = some-of (row_at bytes h.fixed.signal_count) 0 h.fixed.signal_count
    (subst (λ (l : List (List ℕ)). 1 ≤ length (filter has_label l)) (sym are.each)
    are.annotations_some) in
    (found.0, omega (arith, found.1), is-labelled _ found.2)

pub beside : (timed : Bool) (n : ℕ) (old : List ℕ) (h : HeaderRecord) (new : List ℕ) (i : ℕ) →
    KeepsSignals timed n old h.fixed.signal_count new → AreSignals new h → i < n →
    SpeaksOfAnnotations (label_field (row_at old n i)) → (j : ℕ) × (j < n)
    × (spaced (label_field (row_at old n j)) ≡ codes "EDF Annotations ")
beside false n old h new i kept are lt speaks = absurd ((kept.each i lt).silent refl speaks)
beside true n old h new i kept are lt speaks =
    let found = some-label new h are in
    let low : found.0 < n = omega (arith, found.1, kept.many) in
    (found.0, low, was-labelled _ _ (kept.each found.0 low).kept found.2)
