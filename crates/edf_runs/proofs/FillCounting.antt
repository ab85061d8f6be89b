-- What `fill` counts of starts, one after another.
use Rattle.std.proofs.Common.{◌≡◌, ℕ, suc, ◌+◌, ◌-◌, ◌*◌, ◌<◌, ◌≤◌, List, [], ◌∷◌, ◌++◌, length}
use Rattle.std.proofs.Common.{map}
use Rattle.std.proofs.Common.{All, Contains, refl, sym, ap, ◌∙◌, subst, arith, inl, inr, ◌⊎◌, drop}
use Rattle.std.proofs.Common.{get_or}
use Rattle.std.proofs.Common.{Option, Some, None, min, max}
use Rattle.std.specs.Prelude.{Bool, true, false, cond, count_by, nat_lt}
use Rattle.std.proofs.lemmas.Bool.{cases_lt, lt-ltb, le-ltb}
use Rattle.std.proofs.lemmas.List.{at_drop_more}
use Rattle.std.proofs.lemmas.List.Elements.{All-nil, All-cons, All-weaker}
use Rattle.std.proofs.lemmas.List.Sums.{sum_by-cons}
use Rattle.edf_runs.specs.FillAnswers.{neighbours, is_gap, is_closed, move_of, IsAllowed}
use Rattle.edf_runs.specs.FillAnswers.{AreFillCounts}
use Rattle.edf_runs.specs.Filled.{place_of}
use Rattle.edf_runs.specs.Inside.Filling.{gap_before, gaps_from, GapsWithin, furthest_from}
use Rattle.edf_runs.specs.Inside.Stretching.{Rise}
use Rattle.edf_runs.specs.declared.filled.FillCounts.{FillCounts}
use Rattle.edf_runs.specs.declared.filled.FillLimits.{FillLimits}

-- ---- the furthest move

pub furthest-more : (u first so_far : ℕ) (starts : List ℕ) (i s : ℕ) → i < length starts →
    s ≡ get_or starts i s → furthest_from u first so_far (drop i starts)
    ≡ furthest_from u first (max so_far (move_of u first s)) (drop (i + 1) starts)
furthest-more u first so_far starts i s lt is =
    at_drop_more (furthest_from u first so_far) starts i s lt
    ∙ ap (λ x. furthest_from u first (max so_far (move_of u first x)) (drop (i + 1) starts))
    (sym is)

pub at-least-so-far : (u first so_far : ℕ) (starts : List ℕ) →
    so_far ≤ furthest_from u first so_far starts
at-least-so-far u first so_far [] = omega arith
at-least-so-far u first so_far (s ∷ ss) =
    let more = at-least-so-far u first (max so_far (move_of u first s)) ss in omega (arith, more)

pub all-nearer : (u first so_far : ℕ) (starts : List ℕ) →
    All (λ s. move_of u first s ≤ furthest_from u first so_far starts) starts
all-nearer u first so_far [] = All-nil (λ s. move_of u first s ≤ so_far)
all-nearer u first so_far (s ∷ ss) =
    let m = max so_far (move_of u first s) in
    let f = furthest_from u first m ss in
    All-cons (λ x. move_of u first x ≤ f) s ss
    (let more = at-least-so-far u first m ss in omega (arith, more)) (all-nearer u first m ss)

reached-by : (u first so_far : ℕ) (starts : List ℕ) →
    (furthest_from u first so_far starts ≡ so_far)
    ⊎ Contains (map (move_of u first) starts) (furthest_from u first so_far starts)
reached-by u first so_far [] = inl refl
reached-by u first so_far (s ∷ ss) =
    let m = max so_far (move_of u first s) in
    let f = furthest_from u first m ss in
    elim (reached-by u first m ss) [
      | inl same ↦ elim (cases_lt so_far (move_of u first s)) [
        | inl lt ↦ inr (0, omega arith, omega (arith, same, lt))
        | inr le ↦ inl (omega (arith, same, le))
      ]
      | inr has ↦ inr (suc has.0, omega (arith, has.1), has.2)
    ]

pub furthest-reached : (u first s : ℕ) (ss : List ℕ) →
    Contains (map (move_of u first) (s ∷ ss)) (furthest_from u first 0 (s ∷ ss))
furthest-reached u first s ss =
    elim (reached-by u first (max 0 (move_of u first s)) ss) [
      | inl same ↦ (0, omega arith, omega (arith, same))
      | inr has ↦ (suc has.0, omega (arith, has.1), has.2)
    ]

-- ---- gaps

one-if : (a b : ℕ) → min (b - a) 1 ≡ cond {A = ℕ} (nat_lt a b) 1 0
one-if a b = elim (cases_lt a b) [
  | inl lt ↦ omega (arith, lt) ∙ sym (ap {B = ℕ} (λ x. cond x 1 0) (lt-ltb a b lt))
  | inr le ↦ omega (arith, le) ∙ sym (ap {B = ℕ} (λ x. cond x 1 0) (le-ltb a b le))
]

gaps-behind : (d s : ℕ) (ss : List ℕ) →
    gaps_from d (Some (s + d)) ss ≡ count_by (is_gap d) (neighbours (s ∷ ss))
gaps-behind d s [] = refl
gaps-behind d s (t ∷ ss) = omega (
  arith,
  one-if (s + d) t,
  gaps-behind d t ss,
  sum_by-cons (λ (x : ℕ × ℕ). cond (is_gap d x) 1 0) (s, t) (neighbours (t ∷ ss)),
)

pub gaps-counted : (d s : ℕ) (ss : List ℕ) →
    gaps_from d None (s ∷ ss) ≡ count_by (is_gap d) (neighbours (s ∷ ss))
gaps-counted d s ss = omega (arith, gaps-behind d s ss)

gaps-short : (longest d s : ℕ) (ss : List ℕ) → GapsWithin longest d (Some (s + d)) ss →
    All (λ (x : ℕ × ℕ). x.1 - (x.0 + d) ≤ longest) (neighbours (s ∷ ss))
gaps-short longest d s [] short = All-nil (λ (x : ℕ × ℕ). x.1 - (x.0 + d) ≤ longest)
gaps-short longest d s (t ∷ ss) short =
    All-cons (λ (x : ℕ × ℕ). x.1 - (x.0 + d) ≤ longest) (s, t) (neighbours (t ∷ ss)) short.0
    (gaps-short longest d t ss short.1)

pub all-short : (longest d s : ℕ) (ss : List ℕ) → GapsWithin longest d None (s ∷ ss) →
    All (λ (x : ℕ × ℕ). x.1 - (x.0 + d) ≤ longest) (neighbours (s ∷ ss))
all-short longest d s ss short = gaps-short longest d s ss short.1

pub short-more : (longest d : ℕ) (end : Option ℕ) (starts : List ℕ) (i s : ℕ) → i < length starts →
    s ≡ get_or starts i s → gap_before end s ≤ longest →
    GapsWithin longest d (Some (s + d)) (drop (i + 1) starts) →
    GapsWithin longest d end (drop i starts)
short-more longest d end starts i s lt is short more =
    let same = at_drop_more (λ l. l) starts i s lt
    ∙ ap (λ x. x ∷ drop (i + 1) starts) (sym is) in
    subst (GapsWithin longest d end) (sym same) (short, more)

-- ---- what comes next

abbrev pub behind : Option ℕ → List ℕ → List ℕ
behind None starts = starts
behind (Some before) starts = before ∷ starts

pub at-most-one : (b : Bool) → cond {A = ℕ} b 1 0 ≤ 1
at-most-one true = omega arith
at-most-one false = omega arith

pub behind-none : (before : Option ℕ) (f : ℕ × ℕ → Bool) →
    count_by f (neighbours (behind before [])) ≡ 0
behind-none None f = refl
behind-none (Some b) f = refl

pub behind-first : (f : ℕ × ℕ → Bool) (starts : List ℕ) (i s : ℕ) → i < length starts →
    s ≡ get_or starts i s → count_by f (neighbours (behind None (drop i starts)))
    ≡ count_by f (neighbours (behind (Some s) (drop (i + 1) starts)))
behind-first f starts i s lt is =
    at_drop_more (λ l. count_by f (neighbours l)) starts i s lt
    ∙ ap (λ x. count_by f (neighbours (x ∷ drop (i + 1) starts))) (sym is)

pub behind-next : (f : ℕ × ℕ → Bool) (b : ℕ) (starts : List ℕ) (i s : ℕ) → i < length starts →
    s ≡ get_or starts i s → count_by f (neighbours (behind (Some b) (drop i starts)))
    ≡ cond {A = ℕ} (f (b, s)) 1 0 + count_by f (neighbours (behind (Some s) (drop (i + 1) starts)))
behind-next f b starts i s lt is =
    at_drop_more (λ l. count_by f (neighbours (b ∷ l))) starts i s lt
    ∙ ap (λ x. count_by f (neighbours (b ∷ x ∷ drop (i + 1) starts))) (sym is)
    ∙ sum_by-cons (λ (x : ℕ × ℕ). cond (f x) 1 0) (b, s) (neighbours (s ∷ drop (i + 1) starts))

-- ---- the places

-- the parts of all come to no more places than there are up to those of the last
pub parts-fit : (g low : ℕ) (before : List ℕ) (last : ℕ) → Rise g low (before ++ last ∷ []) →
    low + g * length (before ++ last ∷ []) ≤ last + g
parts-fit g low [] last rise = omega (arith, rise.0)
parts-fit g low (b ∷ bs) last rise =
    let more = parts-fit g (b + g) bs last rise.1 in
    let n = length (bs ++ last ∷ []) in
    let e : g * suc n ≡ g + g * n = omega arith in
    omega (arith, more, rise.0, e)

pub last-of : (s : ℕ) (ss : List ℕ) →
    (before : List ℕ) × (last : ℕ) × (s ∷ ss ≡ before ++ last ∷ [])
last-of s [] = ([], s, refl)
last-of s (t ∷ ss) =
    let more = last-of t ss in
    (s ∷ more.0, more.1, ap (λ l. s ∷ l) more.2)

map-snoc : (f : ℕ → ℕ) (xs : List ℕ) (x : ℕ) → map f (xs ++ x ∷ []) ≡ map f xs ++ f x ∷ []
map-snoc f [] x = refl
map-snoc f (y ∷ ys) x = ap (λ l. f y ∷ l) (map-snoc f ys x)

length-same : (f : ℕ → ℕ) (xs : List ℕ) → length (map f xs) ≡ length xs
length-same f [] = refl
length-same f (x ∷ xs) = ap suc (length-same f xs)

-- ---- the answers

pub allowed : (limits : FillLimits) (d u first s : ℕ) (ss : List ℕ) →
    GapsWithin limits.longest_gap d None (s ∷ ss) →
    furthest_from u first 0 (s ∷ ss) ≤ limits.moved → IsAllowed limits d u first (s ∷ ss)
allowed limits d u first s ss short within = record {
  gaps = all-short limits.longest_gap d s ss short;
  moves = All-weaker (λ x. move_of u first x ≤ furthest_from u first 0 (s ∷ ss))
      (λ x. move_of u first x ≤ limits.moved) (λ x le. omega (arith, le, within)) (s ∷ ss)
      (all-nearer u first 0 (s ∷ ss));
}

module _ (d g u first s : ℕ) (ss : List ℕ) (counts : FillCounts) where
  pub are-counts : Rise g 0 (map (place_of u first) (s ∷ ss)) →
      ((before : List ℕ) (last : ℕ) → s ∷ ss ≡ before ++ last ∷ [] →
      counts.records ≡ place_of u first last + g) →
      (g * length (s ∷ ss) ≤ counts.records →
      counts.flat + g * length (s ∷ ss) ≡ counts.records) →
      counts.gaps ≡ gaps_from d None (s ∷ ss) →
      counts.closed ≡ count_by (is_closed d g u first) (neighbours (s ∷ ss)) →
      counts.moved ≡ furthest_from u first 0 (s ∷ ss) → AreFillCounts d g u first (s ∷ ss) counts
  are-counts rise all flat gaps closed moved =
      let end = last-of s ss in
      let before = end.0 in
      let last = end.1 in
      let p = place_of u first in
      let places : map p (s ∷ ss) ≡ map p before ++ p last ∷ [] =
      ap (map p) end.2 ∙ map-snoc p before last in
      let fit = parts-fit g 0 (map p before) (p last) (subst (λ l. Rise g 0 l) places rise) in
      let len : length (map p before ++ p last ∷ []) ≡ length (s ∷ ss) =
      ap (λ l. length l) (sym places) ∙ length-same p (s ∷ ss) in
      let n : g * length (map p before ++ p last ∷ []) ≡ g * length (s ∷ ss) = ap (λ x. g * x) len
      in
      record {
        records = all;
        flat = flat (omega (arith, fit, n, all before last end.2));
        gaps = gaps ∙ gaps-counted d s ss;
        closed = closed;
        reached = subst (Contains (map (move_of u first) (s ∷ ss))) (sym moved)
            (furthest-reached u first s ss);
        furthest = subst (λ m. All (λ x. move_of u first x ≤ m) (s ∷ ss)) (sym moved)
            (all-nearer u first 0 (s ∷ ss));
      }
