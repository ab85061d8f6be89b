-- The best division by the numbers of the signals' samples is that of the key.
use Rattle.std.proofs.Common.{◌≡◌, ℕ, zero, suc, ◌+◌, ◌*◌, ◌/◌, ◌%◌, ◌^◌, ◌≤◌, ◌<◌, List, [], ◌∷◌}
use Rattle.std.proofs.Common.{map}
use Rattle.std.proofs.Common.{All, length, arith, sym, ap, ◌∙◌, subst, inl, inr}
use Rattle.std.proofs.lemmas.Bool.{cases_lt}
use Rattle.std.proofs.lemmas.Nat.{div-add-mod', div-mul-add, mod-mul-add, mul-le}
use Rattle.std.proofs.lemmas.List.Elements.{All-map, All-head, All-tail, All-cons, All-nil}
use Rattle.edf_time.specs.Decimal.{short}
use Rattle.edf_field.specs.Number.{duration_of}
use Rattle.edf_header.specs.Key.{Key}
use Rattle.edf_header.specs.Signal.{samples}
use Rattle.edf_runs.specs.Filled.{Divides, IsDivision}
use Rattle.edf_runs.specs.Inside.Dividing.{DividesSizes, IsBestOf}

-- so many parts of one length make up the whole
whole-mod : (d g u : ℕ) → 0 < g → g * u ≡ d → d % g ≡ 0
whole-mod d g u some whole = let e : u * g + 0 ≡ d = omega (arith, whole) in
    ap (λ n. n % g) (sym e) ∙ mod-mul-add u g 0 some

whole-div : (d g u : ℕ) → 0 < g → g * u ≡ d → d / g ≡ u
whole-div d g u some whole = let e : u * g + 0 ≡ d = omega (arith, whole) in
    ap (λ n. n / g) (sym e) ∙ div-mul-add u g 0 some

mod-whole : (d g : ℕ) → d % g ≡ 0 → g * (d / g) ≡ d
mod-whole d g none = let e = div-add-mod' d g in omega (arith, e, none)

some-parts : (d g u : ℕ) → 0 < d → g * u ≡ d → 1 ≤ g
some-parts d zero u some whole = absurd (omega (arith, some, whole))
some-parts d (suc g) u some whole = omega arith

from-map : (g : ℕ) (rows : List (List ℕ)) → All (λ size. size % g ≡ 0) (map samples rows) →
    All (λ row. samples row % g ≡ 0) rows
from-map g [] all = All-nil (λ row. samples row % g ≡ 0)
from-map g (r ∷ rs) all = All-cons (λ row. samples row % g ≡ 0) r rs
    (All-head (λ size. size % g ≡ 0) (samples r) (map samples rs) all)
    (from-map g rs (All-tail (λ size. size % g ≡ 0) (samples r) (map samples rs) all))

-- a division of the key is one by the numbers of samples
to-sizes : (k : Key) (g u : ℕ) → 0 < duration_of k.duration → Divides k g u →
    DividesSizes (duration_of k.duration) (map samples k.signals) g
to-sizes k g u some is =
    let d = duration_of k.duration in
    let one = some-parts d g u some is.whole in
    record {
      whole = whole-mod d g u one is.whole;
      named = subst (λ n. length (short n) ≤ 8) (sym (whole-div d g u one is.whole)) is.named;
      even = All-map (λ size. size % g ≡ 0) samples k.signals is.even;
    }

pub divided : (k : Key) (g u : ℕ) → 0 < duration_of k.duration →
    IsBestOf (duration_of k.duration) (map samples k.signals) g u → IsDivision k g u
divided k g u some is =
    let d = duration_of k.duration in
    let lasts : (other long : ℕ) → Divides k other long → d / other ≡ long =
    λ other long divides. whole-div d other long (some-parts d other long some divides.whole)
    divides.whole in
    record {
      divides = record {
        whole = ap (λ n. g * n) is.lasts ∙ mod-whole d g is.divides.whole;
        even = from-map g k.signals is.divides.even;
        named = subst (λ n. length (short n) ≤ 8) (sym is.lasts) is.divides.named;
      };
      fewest = λ other long divides short. is.fewest other
          (some-parts d other long some divides.whole) (to-sizes k other long some divides)
          (subst (λ n. n ≤ 10 ^ 9) (sym (lasts other long divides)) short);
      most = λ other long divides longer. is.most other
          (some-parts d other long some divides.whole) (to-sizes k other long some divides) longer;
    }

-- ---- where all numbers of parts up to one were tried

-- what divides a number of samples is no greater
even-few : (size g : ℕ) → 1 ≤ size → size % g ≡ 0 → g ≤ size
even-few size g some none =
    let e = div-add-mod' size g in
    elim (cases_lt 0 (size / g)) [
      | inl more ↦ let m : 1 * g ≤ size / g * g = mul-le 1 g (size / g) g more (omega arith) in
          omega (arith, e, none, m)
      | inr none-of ↦ let z : size / g ≡ 0 = omega (arith, none-of) in
          let m : size / g * g ≡ 0 * g = ap (λ n. n * g) z in
          absurd (omega (arith, e, none, m, some))
    ]

pub best : (d : ℕ) (sizes : List ℕ) (size : ℕ) (others : List ℕ) (parts unit before : ℕ) →
    sizes ≡ size ∷ others → 1 ≤ size → size ≤ before → 1 ≤ parts → DividesSizes d sizes parts →
    unit ≡ d / parts →
    ((other : ℕ) → 1 ≤ other → other ≤ before → DividesSizes d sizes other →
    (10 ^ 9 < d / other) × (other ≤ parts)) → IsBestOf d sizes parts unit
best d sizes size others parts unit before first sized far some divides lasts tried =
    let few : (other : ℕ) → DividesSizes d sizes other → other ≤ before =
    λ other is. let none : size % other ≡ 0 = All-head (λ n. n % other ≡ 0) size others
    (subst (All (λ n. n % other ≡ 0)) first is.even) in
    omega (arith, even-few size other sized none, far) in
    record {
      some = some;
      divides = divides;
      lasts = lasts;
      fewest = λ other one is short. absurd
          (omega (arith, (tried other one (few other is) is).0, short));
      most = λ other one is longer. (tried other one (few other is) is).1;
    }
