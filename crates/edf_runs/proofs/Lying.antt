-- Annotations that lie in a data record, of those that lie in any.
use Rattle.std.proofs.Common.{◌≡◌, ℕ, ◌+◌, ◌≤◌, ◌<◌, List, [], ◌∷◌, All, refl, sym, ap, ◌∙◌, arith}
use Rattle.std.proofs.Common.{inl, inr}
use Rattle.std.specs.Prelude.{Bool, true, false, ◌&&◌, ◌||◌, nat_le, nat_lt, filter}
use Rattle.std.proofs.lemmas.Bool.{le-leb, lt-leb, lt-ltb, le-ltb, and_left, and_right, and_from}
use Rattle.std.proofs.lemmas.Bool.{cases_lt}
use Rattle.std.proofs.lemmas.List.Elements.{All-nil, All-cons, filter_agree}
use Rattle.edf_tal.specs.Tal.{Annotation}
use Rattle.edf_fragment.specs.Fragment.{DataRecord}
use Rattle.edf_runs.specs.ByOnset.{is_before, is_between, assigned, each_assigned}
use Rattle.edf_runs.specs.ByOnset.{all_assigned}
use Rattle.edf_runs.specs.Inside.Spaced.{Spaced}
use Rattle.edf_runs.specs.OneByOnset.{lies_in}
use Rattle.edf_runs.proofs.Members.{filter-both}

-- an instant lies in a data record that starts then
abbrev pub lies_here : ℕ → ℕ → ℕ → Bool
lies_here d start instant = nat_le start instant && nat_lt instant (start + d)

-- before all of them
not-yet : (d low instant : ℕ) (rs : List DataRecord) → Spaced d low rs → instant < low →
    lies_in d rs instant ≡ false
not-yet d low instant [] spaced early = refl
not-yet d low instant (r ∷ rs) spaced early =
    ap (λ b. b || lies_in d rs instant)
    (and_left (nat_le r.start instant) (nat_lt instant (r.start + d))
    (lt-leb r.start instant (omega (arith, spaced.0, early))))
    ∙ not-yet d (r.start + d) instant rs spaced.1 (omega (arith, spaced.0, early))

-- a test that from an instant on is that of the data records that are left
abbrev pub IsLeftOf : ℕ → (ℕ → Bool) → ℕ → List DataRecord → Type 0
IsLeftOf low q d rs = (instant : ℕ) → low ≤ instant → q instant ≡ lies_in d rs instant

left-of-later : (q : ℕ → Bool) (d low : ℕ) (r : DataRecord) (next : ℕ) (rs : List DataRecord) →
    low ≤ next → r.start + d ≤ next → IsLeftOf low q d (r ∷ rs) → IsLeftOf next q d rs
left-of-later q d low r next rs le after left instant from =
    left instant (omega (arith, le, from))
    ∙ ap (λ b. b || lies_in d rs instant)
    (and_right (nat_le r.start instant) (nat_lt instant (r.start + d))
    (le-ltb instant (r.start + d) (omega (arith, after, from))))

-- after a data record has ended, one that lies in one of the others is not before these
past : (d low instant : ℕ) (rs : List DataRecord) → Spaced d low rs →
    (lies_in d rs instant && is_before rs instant) ≡ false
past d low instant [] spaced = refl
past d low instant (s ∷ ss) spaced = elim (cases_lt instant s.start) [
  | inl lt ↦ and_left (lies_in d (s ∷ ss) instant) (nat_lt instant s.start)
      (not-yet d s.start instant (s ∷ ss) (omega arith, spaced.1) lt)
  | inr ge ↦ and_right (lies_in d (s ∷ ss) instant) (nat_lt instant s.start)
      (le-ltb instant s.start ge)
]

before-next : (d low instant : ℕ) (rs : List DataRecord) → Spaced d low rs → instant < low →
    is_before rs instant ≡ true
before-next d low instant [] spaced lt = refl
before-next d low instant (s ∷ ss) spaced lt = lt-ltb instant s.start (omega (arith, spaced.0, lt))

and-last : (a b c : Bool) → (a && c) ≡ false → (a && (b && c)) ≡ false
and-last true true c is = is
and-last true false c is = refl
and-last false b c is = refl

-- of those that lie in any, the ones between lie here
pub one-here : (q : ℕ → Bool) (d low : ℕ) (r : DataRecord) (rs : List DataRecord) →
    low ≤ r.start → Spaced d (r.start + d) rs → IsLeftOf low q d (r ∷ rs) → (a : Annotation) →
    (q a.onset && is_between low rs a) ≡ lies_here d r.start a.onset
one-here q d low r rs le spaced left a =
    let t = a.onset in
    elim (cases_lt t low) [
      | inl early ↦
          and_right (q t) (is_between low rs a)
          (and_left (nat_le low t) (is_before rs t) (lt-leb low t early))
          ∙ sym (and_left (nat_le r.start t) (nat_lt t (r.start + d))
          (lt-leb r.start t (omega (arith, early, le))))
      | inr from ↦ elim (cases_lt t r.start) [
        | inl lt ↦
            let none : lies_here d r.start t ≡ false =
            and_left (nat_le r.start t) (nat_lt t (r.start + d)) (lt-leb r.start t lt) in
            and_left (q t) (is_between low rs a)
            (left t from ∙ ap (λ b. b || lies_in d rs t) none
            ∙ not-yet d (r.start + d) t rs spaced (omega (arith, lt)))
            ∙ sym none
        | inr ge ↦ elim (cases_lt t (r.start + d)) [
          | inl within ↦
              let here : lies_here d r.start t ≡ true =
              and_from (nat_le r.start t) (nat_lt t (r.start + d)) (le-leb r.start t ge)
              (lt-ltb t (r.start + d) within) in
              and_from (q t) (is_between low rs a)
              (left t from ∙ ap (λ b. b || lies_in d rs t) here)
              (and_from (nat_le low t) (is_before rs t) (le-leb low t from)
              (before-next d (r.start + d) t rs spaced within))
              ∙ sym here
          | inr over ↦
              let none : lies_here d r.start t ≡ false =
              and_right (nat_le r.start t) (nat_lt t (r.start + d)) (le-ltb t (r.start + d) over) in
              and-last (q t) (nat_le low t) (is_before rs t)
              (ap (λ b. b && is_before rs t)
              (left t from ∙ ap (λ b. b || lies_in d rs t) none)
              ∙ past d (r.start + d) t rs spaced)
              ∙ sym none
        ]
      ]
    ]

-- ---- each data record has those that lie in it

module _ (q : ℕ → Bool) (d : ℕ) (all : List Annotation) where
  abbrev lying : List Annotation
  lying = filter (λ a. q a.onset) all

  -- the annotations of all that lie in it
  abbrev pub HasOwn : DataRecord → Type 0
  HasOwn g = g.annotations ≡ filter (λ a. lies_here d g.start a.onset) all

  one-own : (low : ℕ) (r : DataRecord) (rs : List DataRecord) → low ≤ r.start →
      Spaced d (r.start + d) rs → IsLeftOf low q d (r ∷ rs) → HasOwn (assigned lying low r rs)
  one-own low r rs le spaced left =
      filter-both (is_between low rs) (λ a. q a.onset) all
      ∙ filter_agree (λ a. q a.onset && is_between low rs a)
      (λ a. lies_here d r.start a.onset) (one-here q d low r rs le spaced left) all

  each-own : (low : ℕ) (rs : List DataRecord) → Spaced d low rs → IsLeftOf low q d rs →
      All HasOwn (each_assigned lying rs)
  each-own low [] spaced left = All-nil HasOwn
  each-own low (r ∷ rs) spaced left =
      let here : IsLeftOf r.start q d (r ∷ rs) =
      λ instant from. left instant (omega (arith, spaced.0, from)) in
      All-cons HasOwn (assigned lying r.start r rs) (each_assigned lying rs)
      (one-own r.start r rs (omega arith) spaced.1 here)
      (each-own (r.start + d) rs spaced.1
      (left-of-later q d r.start r (r.start + d) rs (omega arith) (omega arith) here))

  pub all-own : (rs : List DataRecord) → Spaced d 0 rs → IsLeftOf 0 q d rs →
      All HasOwn (all_assigned lying rs)
  all-own [] spaced left = All-nil HasOwn
  all-own (r ∷ rs) spaced left =
      All-cons HasOwn (assigned lying 0 r rs) (each_assigned lying rs)
      (one-own 0 r rs (omega arith) spaced.1 left)
      (each-own (r.start + d) rs spaced.1
      (left-of-later q d 0 r (r.start + d) rs (omega arith) (omega arith) left))
