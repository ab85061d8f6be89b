-- The data records of a key have one part, or more.
use Rattle.std.proofs.Common.{◌≡◌, ℕ, ◌/◌, ◌^◌, ◌≤◌, ◌<◌, List, [], ◌∷◌, length, map, All}
use Rattle.std.proofs.Common.{refl, subst, arith}
use Rattle.std.proofs.lemmas.List.{length-take}
use Rattle.std.proofs.lemmas.List.Elements.{All-head}
use Rattle.edf_time.specs.Decimal.{short}
use Rattle.edf_time.proofs.Cited.{IsShortest-short}
use Rattle.edf_field.specs.Number.{duration_of, unpadded_len}
use Rattle.edf_field.proofs.Durations.{duration-value}
use Rattle.edf_header.specs.Key.{Key, IsKey}
use Rattle.edf_header.specs.Signal.{samples, HasSamples}
use Rattle.edf_header.proofs.Cited.{key-duration-bound}
use Rattle.edf_runs.specs.Inside.Dividing.{DividesSizes}

pub some-sizes : (rows : List (List ℕ)) → 1 ≤ length rows → All HasSamples rows →
    (size : ℕ) × (others : List ℕ) × (map samples rows ≡ size ∷ others) × (1 ≤ size)
some-sizes [] some all = absurd (omega (arith, some))
some-sizes (r ∷ rs) some all =
    (samples r, map samples rs, refl, (All-head HasSamples r rs all).some)

pub short-named : (k : Key) → IsKey k → length (short (duration_of k.duration)) ≤ 8
short-named k is =
    let nanos = is.duration.0 in
    let of = is.duration.1 in
    let value : nanos ≡ duration_of k.duration = duration-value k.duration nanos of in
    let few : nanos < 10 ^ 73 = omega (arith, value, key-duration-bound k is) in
    let least = (IsShortest-short nanos few).least _ of.seconds in
    subst (λ n. length (short n) ≤ 8) value
    (omega (arith, least, length-take (unpadded_len k.duration) k.duration, is.sized.duration))

pub one-divides : (k : Key) → IsKey k →
    DividesSizes (duration_of k.duration) (map samples k.signals) 1
one-divides k is = record {
  whole = omega arith;
  named = subst (λ n. length (short n) ≤ 8)
      (let e : duration_of k.duration ≡ duration_of k.duration / 1 = omega arith in e)
      (short-named k is);
  even = λ i e lt. omega arith;
}
