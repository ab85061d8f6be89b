-- A filled file has the samples of each part at its place, and flat ones at all others.
use Rattle.std.proofs.Common.{◌≡◌, ℕ, zero, suc, ◌+◌, ◌-◌, ◌*◌, ◌<◌, ◌≤◌, List, [], ◌∷◌, length}
use Rattle.std.proofs.Common.{map}
use Rattle.std.proofs.Common.{Contains, refl, sym, ap, ◌∙◌, subst, arith, slice_get}
use Rattle.std.specs.Prelude.{option_map}
use Rattle.edf_tal.specs.Tal.{Annotation}
use Rattle.edf_header.specs.Key.{Key}
use Rattle.edf_fragment.specs.Fragment.{DataRecord}
use Rattle.edf_runs.specs.Filled.{place_of, part_samples, IsFree, HaveSamples}
use Rattle.edf_runs.specs.Runs.{StartFrom}
use Rattle.edf_runs.specs.Inside.Placing.{placed, bare, at_places}
use Rattle.edf_runs.specs.Inside.Spaced.{Spaced}
use Rattle.edf_runs.specs.Inside.Spreading.{spread}
use Rattle.edf_runs.specs.Inside.Stretching.{Rise}
use Rattle.edf_runs.proofs.FilledNotes.{places-of, places-rise-all, free-from}
use Rattle.edf_runs.proofs.Placed.{part-placed, flat-placed, last-placed}
use Rattle.edf_runs.proofs.Stretching.{Free}

pub starts-spread : (u instant : ℕ) (l : List Annotation) (sl : List (List ℕ)) →
    StartFrom u instant (spread l (bare u instant sl))
starts-spread u instant l [] = tt
starts-spread u instant l (s ∷ ss) = (refl, starts-spread u (instant + u) _ ss)

pub bare-spaced : (u instant low : ℕ) (sl : List (List ℕ)) → low ≤ instant →
    Spaced u low (bare u instant sl)
bare-spaced u instant low [] le = tt
bare-spaced u instant low (s ∷ ss) le =
    (le, bare-spaced u (instant + u) (instant + u) ss (omega arith))

samples-get : (u instant : ℕ) (l : List Annotation) (sl : List (List ℕ)) (j : ℕ) →
    option_map (λ (r : DataRecord). r.samples) (slice_get (spread l (bare u instant sl)) j)
    ≡ slice_get sl j
samples-get u instant l [] j = refl
samples-get u instant l (s ∷ ss) zero = refl
samples-get u instant l (s ∷ ss) (suc j) = samples-get u (instant + u) _ ss j

pub length-spread : (u instant : ℕ) (l : List Annotation) (sl : List (List ℕ)) →
    length (spread l (bare u instant sl)) ≡ length sl
length-spread u instant l [] = refl
length-spread u instant l (s ∷ ss) = ap suc (length-spread u (instant + u) _ ss)

pub places-are : (u first : ℕ) (records : List DataRecord) →
    map (λ (y : ℕ × List ℕ). y.0) (at_places u first records) ≡ places-of u first records
places-are u first [] = refl
places-are u first (r ∷ rs) =
    ap (λ (xs : List ℕ). place_of u first r.start ∷ xs) (places-are u first rs)

at-its-place : (u first : ℕ) (records : List DataRecord) (r : DataRecord) → Contains records r →
    Contains (at_places u first records) (place_of u first r.start, r.samples)
at-its-place u first [] r has = absurd (omega (arith, has.1))
at-its-place u first (x ∷ xs) r (zero, lt, same) =
    (0, omega arith, ap (λ (y : DataRecord). (place_of u first y.start, y.samples)) same)
at-its-place u first (x ∷ xs) r (suc i, lt, same) =
    let more = at-its-place u first xs r (i, omega (arith, lt), same) in
    (suc more.0, omega (arith, more.1), more.2)

pub have-samples : (k : Key) (g u : ℕ) (r : DataRecord) (rs : List DataRecord) (flat : List ℕ)
    (l : List Annotation) → 1 ≤ g → 0 < u → Spaced (g * u) 0 (r ∷ rs) →
    HaveSamples k g u r.start (r ∷ rs) flat (spread l (bare u r.start
    (placed g (part_samples k g) flat 0 (at_places u r.start (r ∷ rs)))))
have-samples k g u r rs flat l some lasts spaced =
    let xs = at_places u r.start (r ∷ rs) in
    let part = part_samples k g in
    let sl = placed g part flat 0 xs in
    let rise : Rise g 0 (map (λ (y : ℕ × List ℕ). y.0) xs) =
    subst (Rise g 0) (sym (places-are u r.start (r ∷ rs))) (places-rise-all g u r rs lasts spaced)
    in
    record {
      starts = starts-spread u r.start l sl;
      parts = λ x n has lt. samples-get u r.start l sl (place_of u r.start x.start + n)
          ∙ ap (slice_get sl) (omega arith)
          ∙ part-placed g part flat 0 xs (place_of u r.start x.start, x.samples) n rise
          (at-its-place u r.start (r ∷ rs) x has) lt;
      free = λ at other free is. flat-placed g part flat 0 xs at other.samples (omega arith) rise
          (subst (λ (ps : List ℕ). Free g ps at) (sym (places-are u r.start (r ∷ rs)))
          (free-from k g u r.start (r ∷ rs) at free))
          (ap (slice_get sl) (let e : at - 0 ≡ at = omega arith in e)
          ∙ sym (samples-get u r.start l sl at)
          ∙ ap (option_map (λ (x : DataRecord). x.samples)) is);
      last = λ free. last-placed g part flat 0 (place_of u r.start r.start, r.samples)
          (at_places u r.start rs) some rise
          (subst (λ (ps : List ℕ). Free g ps (0 + length sl - 1))
          (sym (places-are u r.start (r ∷ rs)))
          (free-from k g u r.start (r ∷ rs) (0 + length sl - 1)
          (subst (IsFree k g u r.start (r ∷ rs)) (let len = length-spread u r.start l sl in
          omega (arith, len)) free)));
    }
