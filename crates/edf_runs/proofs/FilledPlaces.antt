-- Places of a filled file rise, and each is near what stands there.
use Rattle.std.proofs.Common.{◌≡◌, ℕ, suc, ◌+◌, ◌-◌, ◌*◌, ◌/◌, ◌≤◌, ◌<◌, arith, ap, ◌∙◌, inl, inr}
use Rattle.std.proofs.lemmas.Bool.{cases_lt}
use Rattle.std.proofs.lemmas.Nat.{mul-le, div-add-mod', mod_below}
use Rattle.edf_runs.specs.Filled.{place_of}
use Rattle.edf_runs.specs.FilledLaws.{PlacesRise, PlacesAreNear, PartsStayTogether}

-- how far the place of a distance is from it, twice
pub bounds : (u a : ℕ) → 0 < u → (2 * ((2 * a + u) / (2 * u) * u) ≤ 2 * a + u)
    × (2 * a < 2 * ((2 * a + u) / (2 * u) * u) + u)
bounds u a some =
    let e = div-add-mod' (2 * a + u) (2 * u) in
    let lt = mod_below (2 * a + u) (2 * u) (omega arith) in
    (omega (arith, e, lt), omega (arith, e, lt))

-- a place is no further than its distance, and one
pub few-places : (u a : ℕ) → 0 < u → (2 * a + u) / (2 * u) ≤ a + 1
few-places u a some =
    let p = (2 * a + u) / (2 * u) in
    let b = bounds u a some in
    elim (cases_lt (a + 1) p) [
      | inl lt ↦
          let m : (a + 2) * u ≤ p * u = mul-le (a + 2) u p u (omega (arith, lt)) (omega arith) in
          let n : a * 1 ≤ a * u = mul-le a 1 a u (omega arith) some in
          let e : (a + 2) * u ≡ a * u + 2 * u = omega arith in
          absurd (omega (arith, b.0, m, n, e, some))
      | inr le ↦ le
    ]

pub places-are-near : PlacesAreNear
places-are-near u first start some le =
    let b = bounds u (start - first) some in
    (omega (arith, b.0, b.1), omega (arith, b.0, b.1))

-- the place of a distance is the only number of parts that is so near
pub place-one : (u a n : ℕ) → 0 < u → 2 * (n * u) ≤ 2 * a + u → 2 * a < 2 * (n * u) + u →
    (2 * a + u) / (2 * u) ≡ n
place-one u a n some low high =
    let p = (2 * a + u) / (2 * u) in
    let b = bounds u a some in
    elim (cases_lt p n) [
      | inl lt ↦ let m : suc p * u ≤ n * u = mul-le (suc p) u n u lt (omega arith) in
          absurd (omega (arith, b.1, low, m))
      | inr ge ↦ elim (cases_lt n p) [
        | inl gt ↦ let m : suc n * u ≤ p * u = mul-le (suc n) u p u gt (omega arith) in
            absurd (omega (arith, b.0, high, m))
        | inr le ↦ omega (arith, ge, le)
      ]
    ]

pub parts-stay-together : PartsStayTogether
parts-stay-together u first start n some le =
    let a = start - first in
    let b = bounds u a some in
    let e : start + n * u - first ≡ a + n * u = omega (arith, le) in
    let p = (2 * a + u) / (2 * u) in
    let f : (p + n) * u ≡ p * u + n * u = omega arith in
    ap (λ x. (2 * x + u) / (2 * u)) e ∙ place-one u (a + n * u) (p + n) some (omega (arith, b.0, f))
    (omega (arith, b.1, f))

pub places-rise : PlacesRise
places-rise u g first start later some le far =
    let p = place_of u first start in
    let q = place_of u first later in
    let b = bounds u (start - first) some in
    let c = bounds u (later - first) some in
    elim (cases_lt q (p + g)) [
      | inl lt ↦ let m : suc q * u ≤ (p + g) * u = mul-le (suc q) u (p + g) u lt (omega arith) in
          let e : (p + g) * u ≡ p * u + g * u = omega arith in
          let f : suc q * u ≡ q * u + u = omega arith in
          absurd (omega (arith, b.0, c.1, m, e, f, le, far))
      | inr ge ↦ ge
    ]
