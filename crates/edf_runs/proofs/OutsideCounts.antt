-- Annotations whose onset lies in none of some data records.
use Rattle.std.proofs.Common.{◌≡◌, ℕ, zero, suc, ◌+◌, ◌<◌, ◌≤◌, List, [], ◌∷◌, refl, sym}
use Rattle.std.proofs.Common.{ap, ◌∙◌, subst}
use Rattle.std.proofs.Common.{arith, inl, inr, Option, Some, None, All, Contains}
use Rattle.std.specs.Prelude.{Bool, true, false, cond, not, ◌&&◌, ◌||◌, nat_le, nat_lt, count_by}
use Rattle.std.proofs.lemmas.Bool.{le-leb, lt-leb, lt-ltb, le-ltb, cases_lt, and_from, and_left}
use Rattle.std.proofs.lemmas.Bool.{and_right}
use Rattle.std.proofs.lemmas.List.Elements.{All-head, All-tail}
use Rattle.std.proofs.lemmas.List.Sums.{sum_by-cons}
use Rattle.edf_field.specs.Number.{duration_of}
use Rattle.edf_header.specs.Key.{Key}
use Rattle.edf_tal.specs.Tal.{Annotation}
use Rattle.edf_fragment.specs.Fragment.{DataRecord}
use Rattle.edf_runs.specs.ByOnset.{annotations_of}
use Rattle.edf_runs.specs.OneByOnset.{lies_in, outside_count}
use Rattle.edf_runs.specs.Outline.{IsOutline}
use Rattle.edf_runs.specs.Inside.Counting.{lies_at}
use Rattle.edf_runs.specs.Inside.Moving.{LiesIn}
use Rattle.edf_runs.specs.Inside.Spaced.{Spaced}
use Rattle.edf_runs.specs.Inside.Stretching.{Rise}
use Rattle.edf_runs.specs.declared.outline.Outline.{Outline}
use Rattle.edf_runs.proofs.ByOnset.{spaced-sound}
use Rattle.edf_runs.proofs.Noted.{starts_of}

abbrev here : ℕ → ℕ → ℕ → Bool
here d s instant = nat_le s instant && nat_lt instant (s + d)

not-here : (d s instant : ℕ) → (s ≤ instant → s + d ≤ instant) → here d s instant ≡ false
not-here d s instant passed = elim (cases_lt instant s) [
  | inl before ↦ and_left (nat_le s instant) (nat_lt instant (s + d)) (lt-leb s instant before)
  | inr from ↦ and_right (nat_le s instant) (nat_lt instant (s + d))
      (le-ltb instant (s + d) (passed from))
]

lies-none : (d instant : ℕ) (starts : List ℕ) → All (λ s. s ≤ instant → s + d ≤ instant) starts →
    lies_at d starts instant ≡ false
lies-none d instant [] all = refl
lies-none d instant (s ∷ ss) all =
    ap (λ b. b || lies_at d ss instant)
    (not-here d s instant (All-head (λ s. s ≤ instant → s + d ≤ instant) s ss all))
    ∙ lies-none d instant ss (All-tail (λ s. s ≤ instant → s + d ≤ instant) s ss all)

or-true : (b : Bool) → (b || true) ≡ true
or-true true = refl
or-true false = refl

lies-some : (d instant s : ℕ) (starts : List ℕ) → Contains starts s → s ≤ instant →
    instant < s + d → lies_at d starts instant ≡ true
lies-some d instant s [] has from before = absurd (omega (arith, has.1))
lies-some d instant s (x ∷ xs) (zero, lt, same) from before =
    let is : here d x instant ≡ true = ap (λ (n : ℕ). here d n instant) same
    ∙ and_from (nat_le s instant) (nat_lt instant (s + d)) (le-leb s instant from)
    (lt-ltb instant (s + d) before) in
    ap (λ b. b || lies_at d xs instant) is
lies-some d instant s (x ∷ xs) (suc i, lt, same) from before =
    ap (λ b. here d x instant || b)
    (lies-some d instant s xs (i, omega (arith, lt), same) from before)
    ∙ or-true (here d x instant)

abbrev is-some : Option ℕ → Bool
is-some None = false
is-some (Some s) = true

pub outside-value : (d instant : ℕ) (starts : List ℕ) (result : Option ℕ) →
    LiesIn d starts instant result → lies_at d starts instant ≡ is-some result
outside-value d instant starts None lies = lies-none d instant starts lies
outside-value d instant starts (Some s) lies = lies-some d instant s starts lies.0 lies.1 lies.2

-- ---- of an outline

pub starts-rise : (d low : ℕ) (records : List DataRecord) → Spaced d low records →
    Rise d low (starts_of records)
starts-rise d low [] spaced = tt
starts-rise d low (r ∷ rs) spaced = (spaced.0, starts-rise d (r.start + d) rs spaced.1)

lies-alike : (d : ℕ) (records : List DataRecord) (instant : ℕ) →
    lies_in d records instant ≡ lies_at d (starts_of records) instant
lies-alike d [] instant = refl
lies-alike d (r ∷ rs) instant =
    ap (λ b. here d r.start instant || b) (lies-alike d rs instant)

counts-alike : (p q : Annotation → Bool) → ((a : Annotation) → p a ≡ q a) →
    (l : List Annotation) → count_by p l ≡ count_by q l
counts-alike p q same [] = refl
counts-alike p q same (a ∷ l) = simp sum_by-cons
    (ap (λ b. cond b 1 0 + count_by p l) (same a)
    ∙ ap (λ n. cond (q a) 1 0 + n) (counts-alike p q same l))

pub outline-outside : (k : Key) (records : List DataRecord) (outline : Outline) (count d : ℕ)
    (starts : List ℕ) (notes : List Annotation) → IsOutline k records outline →
    d ≡ duration_of k.duration → starts ≡ outline.spans.starts.items →
    notes ≡ outline.spans.notes.items → (Rise d 0 starts →
    count ≡ count_by (λ (a : Annotation). not (lies_at d starts a.onset)) notes) →
    count ≡ outside_count (duration_of k.duration) records
outline-outside k records outline count d starts notes is lasts starts-is notes-is counted =
    let s : starts ≡ starts_of records = starts-is ∙ is.spans.starts in
    let rise : Rise d 0 starts = subst (λ (n : ℕ). Rise n 0 starts) (sym lasts)
    (subst (Rise (duration_of k.duration) 0) (sym s) (starts-rise (duration_of k.duration) 0 records
    (spaced-sound k 0 records is.sound))) in
    counted rise
    ∙ ap (λ (n : ℕ). count_by (λ (a : Annotation). not (lies_at n starts a.onset)) notes) lasts
    ∙ ap (λ (l : List ℕ). count_by (λ (a : Annotation). not (lies_at (duration_of k.duration) l
    a.onset)) notes) s
    ∙ ap (count_by (λ (a : Annotation). not (lies_at (duration_of k.duration) (starts_of records)
    a.onset))) (notes-is ∙ is.spans.notes)
    ∙ counts-alike _ _ (λ a. ap not (sym (lies-alike (duration_of k.duration) records a.onset)))
    (annotations_of records)
