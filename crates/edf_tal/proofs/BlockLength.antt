-- How long a canonical block is at most.
use Rattle.std.proofs.Common.{ℕ, ◌+◌, ◌*◌, ◌≤◌, ◌<◌, List, [], ◌∷◌, ◌++◌, length, arith}
use Rattle.std.proofs.Common.{length-append, sum_by}
use Rattle.std.specs.List.{flat_map, AllByRecursion}
use Rattle.std.specs.Option.{IfSome}
use Rattle.std.specs.Prelude.{Option, None, Some, unsigned_abs, pos, ◌-ℤ◌}
use Rattle.std.proofs.lemmas.List.Sums.{sum_by-cons}
use Rattle.std.proofs.lemmas.Int.{ints}
use Rattle.std.proofs.lemmas.Str.{IsUtf8-nil}
use Rattle.edf_time.proofs.Cited.{length-short-window}
use Rattle.edf_time.specs.Civil.{window}
use Rattle.edf_tal.specs.Tal.{Annotation, IsValidAnnotation}
use Rattle.edf_tal.specs.Block.{IsWithinLimits}
use Rattle.edf_tal.specs.declared.limits.TheConstants.{MOST_CANONICAL_BLOCK_BYTES}
use Rattle.edf_tal.specs.Canonical.{onset_text, duration_text, tal_text, time_keeping_annotation}
use Rattle.edf_tal.specs.Canonical.{tals_text}

onset-length : (base onset : ℕ) → base < window → onset < window →
    length (onset_text base onset) ≤ 21
onset-length base onset low high =
    omega (arith, length-short-window (unsigned_abs (pos onset -ℤ pos base)) (omega (arith, ints)))

duration-length : (d : Option ℕ) → IfSome d (λ n. n < window) → length (duration_text d) ≤ 21
duration-length None h = omega arith
duration-length (Some n) h = omega (arith, length-short-window n h)

tal-length : (base : ℕ) (a : Annotation) → base < window → IsValidAnnotation a →
    length (tal_text base a) ≤ 45 + length a.text
tal-length base a low is =
    omega (
      arith,
      length-append (onset_text base a.onset) (duration_text a.duration
          ++ (20 ∷ (a.text ++ (20 ∷ 0 ∷ [])))),
      length-append (duration_text a.duration) (20 ∷ (a.text ++ (20 ∷ 0 ∷ []))),
      length-append a.text (20 ∷ 0 ∷ []),
      onset-length base a.onset low is.onset,
      duration-length a.duration is.duration,
    )

tals-length : (base : ℕ) (list : List Annotation) → base < window →
    AllByRecursion IsValidAnnotation list
    → length (flat_map (tal_text base) list) ≤ 45 * length list + sum_by (λ a. length a.text) list
tals-length base [] low all = omega arith
tals-length base (a ∷ list) low (is, all) =
    omega (
      arith,
      length-append (tal_text base a) (flat_map (tal_text base) list),
      tal-length base a low is,
      tals-length base list low all,
      sum_by-cons (λ (x : Annotation). length x.text) a list,
    )

-- a canonical block within the limits has at most this many bytes
pub block-length : (base start : ℕ) (list : List Annotation) → base < window → start < window →
    IsWithinLimits list → AllByRecursion IsValidAnnotation list
    → length (tals_text base start list) ≤ MOST_CANONICAL_BLOCK_BYTES
block-length base start list low start-in limits all =
    let keeps : IsValidAnnotation (time_keeping_annotation start) =
    record { onset = start-in; duration = tt; text = tt; utf8 = IsUtf8-nil } in
    omega (
      arith,
      length-append (tal_text base (time_keeping_annotation start)) (flat_map (tal_text base) list),
      tal-length base (time_keeping_annotation start) low keeps,
      tals-length base list low all,
      limits.count,
      limits.bytes,
    )
