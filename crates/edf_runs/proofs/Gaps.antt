-- A recording has no gap where none is counted.
use Rattle.std.proofs.Common.{◌≡◌, ℕ, ◌+◌, ◌<◌, List, [], ◌∷◌, map, Some, None, ap, ◌∙◌, subst}
use Rattle.std.proofs.Common.{length, drop, get_or, min, Option, sym}
use Rattle.std.proofs.Common.{arith, refl}
use Rattle.std.proofs.lemmas.List.{at_drop_more}
use Rattle.edf_fragment.specs.Fragment.{DataRecord}
use Rattle.edf_runs.specs.Runs.{StartFrom, IsTouching}
use Rattle.edf_runs.specs.Inside.Filling.{gap_before, gaps_from}
use Rattle.edf_runs.specs.Inside.Spaced.{Spaced}

abbrev starts_of : List DataRecord → List ℕ
starts_of records = map (λ (r : DataRecord). r.start) records

none-touch : (d end : ℕ) (rs : List DataRecord) → Spaced d end rs →
    gaps_from d (Some end) (starts_of rs) ≡ 0 → StartFrom d end rs
none-touch d end [] spaced none = tt
none-touch d end (r ∷ rs) spaced none =
    let same : r.start ≡ end = omega (arith, none, spaced.0) in
    let more : gaps_from d (Some (r.start + d)) (starts_of rs) ≡ 0 = omega (arith, none) in (
      same,
      subst (λ (n : ℕ). StartFrom d n rs) (ap (λ n. n + d) same)
          (none-touch d (r.start + d) rs spaced.1 more),
    )

touch-none : (d end : ℕ) (rs : List DataRecord) → StartFrom d end rs →
    gaps_from d (Some end) (starts_of rs) ≡ 0
touch-none d end [] from = refl
touch-none d end (r ∷ rs) from =
    let later : gaps_from d (Some (r.start + d)) (starts_of rs) ≡ 0 =
    ap (λ n. gaps_from d (Some (n + d)) (starts_of rs)) from.0 ∙ touch-none d (end + d) rs from.1 in
    omega (arith, from.0, later)

pub no-gap-touches : (d : ℕ) (r : DataRecord) (rs : List DataRecord) → Spaced d 0 (r ∷ rs) →
    gaps_from d None (starts_of (r ∷ rs)) ≡ 0 → IsTouching d (r ∷ rs)
no-gap-touches d r rs spaced none =
    none-touch d (r.start + d) rs spaced.1 (omega (arith, none))

pub touching-no-gap : (d : ℕ) (r : DataRecord) (rs : List DataRecord) → IsTouching d (r ∷ rs) →
    gaps_from d None (starts_of (r ∷ rs)) ≡ 0
touching-no-gap d r rs touching = omega (arith, touch-none d (r.start + d) rs touching)

-- one start more
pub gaps-more : (d : ℕ) (end : Option ℕ) (starts : List ℕ) (i s : ℕ) → i < length starts →
    s ≡ get_or starts i s → gaps_from d end (drop i starts)
    ≡ min (gap_before end s) 1 + gaps_from d (Some (s + d)) (drop (i + 1) starts)
gaps-more d end starts i s lt is =
    at_drop_more (gaps_from d end) starts i s lt
    ∙ ap (λ x. min (gap_before end x) 1 + gaps_from d (Some (x + d)) (drop (i + 1) starts)) (sym is)
