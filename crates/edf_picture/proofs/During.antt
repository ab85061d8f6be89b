-- Which samples of a data record are during a column, by their numbers.
use Rattle.std.proofs.Common.{◌≡◌, ◌<◌, ◌≤◌, ◌+◌, ◌-◌, ◌*◌, ◌/◌, ℕ, arith, min}
use Rattle.std.proofs.Math.Nat.{div-lt_iff_lt-mul, le-div_iff_mul-le}
use Rattle.edf_picture.specs.Bands.{Meets}

-- a sample ends after the column begins where its number is the quotient or more
ends-late : (f a d n : ℕ) → 0 < d → (f - a) / d ≤ n → f < a + (n + 1) * d
ends-late f a d n some le =
    let h : f - a < (n + 1) * d = (div-lt_iff_lt-mul some).0 (omega arith) in
    omega arith

is-late : (f a d n : ℕ) → 0 < d → f < a + (n + 1) * d → (f - a) / d ≤ n
is-late f a d n some lt =
    let h : (f - a) / d < n + 1 = (div-lt_iff_lt-mul some).1 (omega arith) in
    omega arith

-- it begins before the column ends where its number is below the quotient, rounded up
begins-early : (e a d n : ℕ) → 0 < d → n < ((e - a) + (d - 1)) / d → a + n * d < e
begins-early e a d n some lt =
    let h : (n + 1) * d ≤ (e - a) + (d - 1) = (le-div_iff_mul-le some).0 (omega arith) in
    omega arith

is-early : (e a d n : ℕ) → 0 < d → a + n * d < e → n < ((e - a) + (d - 1)) / d
is-early e a d n some lt =
    let h : n + 1 ≤ ((e - a) + (d - 1)) / d = (le-div_iff_mul-le some).1 (omega arith) in
    omega arith

module _ (length offset duration count column from to : ℕ) (some : 0 < duration)
    (from-is : from ≡ min ((length * count * column - offset * count * 1000) / (duration * 1000))
    count)
    (to-is : to ≡ min (((length * count * (column + 1) - offset * count * 1000)
    + (duration * 1000 - 1)) / (duration * 1000)) count) where
  pub meets : (n : ℕ) → n < count → from ≤ n → n < to →
      Meets length offset duration count n column
  meets n few low high = record {
    begins = omega (
      arith,
      begins-early (length * count * (column + 1)) (offset * count * 1000)
          (duration * 1000) n (omega arith) (omega arith),
    );
    ends = omega (
      arith,
      ends-late (length * count * column) (offset * count * 1000)
          (duration * 1000) n (omega arith) (omega arith),
    );
  }

  pub is-met : (n : ℕ) → n < count → Meets length offset duration count n column →
      (from ≤ n) × (n < to)
  is-met n few met =
      let late = is-late (length * count * column) (offset * count * 1000) (duration * 1000) n
      (omega arith) (omega (arith, met.ends)) in
      let early = is-early (length * count * (column + 1)) (offset * count * 1000)
      (duration * 1000) n (omega arith) (omega (arith, met.begins)) in
      (omega arith, omega arith)
