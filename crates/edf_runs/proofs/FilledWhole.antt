-- Data records that were filled are those of a filled file.
use Rattle.std.proofs.Common.{◌≡◌, ℕ, ◌+◌, ◌*◌, ◌<◌, ◌≤◌, List, [], ◌∷◌, ◌++◌, length}
use Rattle.std.proofs.Common.{refl, sym, ap, subst, arith, suc}
use Rattle.std.specs.List.{AllZip}
use Rattle.edf_field.specs.Number.{duration_of}
use Rattle.edf_header.specs.Flat.{AreFlat}
use Rattle.edf_header.specs.Key.{Key}
use Rattle.edf_tal.specs.Tal.{Annotation}
use Rattle.edf_fragment.specs.Fragment.{DataRecord}
use Rattle.edf_fragment.specs.Sound.{AreSoundFrom}
use Rattle.edf_runs.specs.ByOnset.{annotations_of}
use Rattle.edf_runs.specs.Filled.{place_of, part_samples, Moves, HaveAnnotations, IsDivision}
use Rattle.edf_runs.specs.Filled.{IsFilledKey, IsFilled}
use Rattle.edf_runs.specs.Order.{in_order}
use Rattle.edf_runs.specs.Runs.{IsTouching}
use Rattle.edf_runs.specs.Inside.Moving.{notes_of}
use Rattle.edf_runs.specs.Inside.Placing.{placed, bare, at_places, filled_records}
use Rattle.edf_runs.specs.Inside.Spaced.{Spaced}
use Rattle.edf_runs.specs.Inside.Spreading.{spread}
use Rattle.edf_runs.specs.Inside.Stretching.{stretches}
use Rattle.edf_runs.proofs.ByOnset.{spaced-sound}
use Rattle.edf_runs.proofs.FilledNotes.{places-of, have-annotations}
use Rattle.edf_runs.proofs.FilledSamples.{bare-spaced, have-samples}
use Rattle.edf_runs.proofs.Placed.{length-placed}

record Begins (xs : List DataRecord) : Type 0 where
  first : DataRecord
  others : List DataRecord
  parts : xs ≡ first ∷ others

begins : (xs : List DataRecord) → 1 ≤ length xs → Begins xs
begins [] some = absurd (omega (arith, some))
begins (x ∷ xs) some = record { first = x; others = xs; parts = refl }

length-bare : (u instant : ℕ) (sl : List (List ℕ)) → length (bare u instant sl) ≡ length sl
length-bare u instant [] = refl
length-bare u instant (s ∷ ss) = ap suc (length-bare u (instant + u) ss)

pub is-filled : (k : Key) (g u : ℕ) (key : Key) (r : DataRecord) (rs : List DataRecord)
    (flat : List ℕ) (moved : List Annotation) → 1 ≤ g → 0 < u → g * u ≡ duration_of k.duration →
    u ≡ duration_of key.duration →
    (IsTouching (duration_of k.duration) (r ∷ rs) → (g ≡ 1) × (key ≡ k)) →
    ((¬ IsTouching (duration_of k.duration) (r ∷ rs)) → IsDivision k g u × IsFilledKey k g u key) →
    AreFlat key.signals flat → AreSoundFrom k 0 (r ∷ rs) →
    AllZip (Moves k g u r.start (r ∷ rs)) (annotations_of (r ∷ rs)) moved →
    IsFilled k r rs g u key (filled_records k g u r.start flat (in_order (moved
    ++ notes_of u r.start (stretches g 0 (places-of u r.start (r ∷ rs))))) (r ∷ rs))
is-filled k g u key r rs flat moved some lasts whole-is unit touching gap flat-is sound each =
    let xs = at_places u r.start (r ∷ rs) in
    let sl = placed g (part_samples k g) flat 0 xs in
    let spaced : Spaced (g * u) 0 (r ∷ rs) = subst (λ (d : ℕ). Spaced d 0 (r ∷ rs)) (sym whole-is)
    (spaced-sound k 0 (r ∷ rs) sound) in
    let notes = in_order (moved ++ notes_of u r.start (stretches g 0
    (places-of u r.start (r ∷ rs)))) in
    let len = length-placed g (part_samples k g) flat 0 (place_of u r.start r.start, r.samples)
    (at_places u r.start rs) (omega arith) in
    let long = length-bare u r.start sl in
    let front = begins (bare u r.start sl) (omega (arith, len, long, some)) in
    record {
      lasts = unit;
      whole = touching;
      divided = gap;
      flat = flat;
      are_flat = flat-is;
      samples = have-samples k g u r rs flat notes some lasts spaced;
      annotations = subst (λ (l : List DataRecord). HaveAnnotations k g u r.start (r ∷ rs)
          (spread notes l)) (sym front.parts)
          (have-annotations k g u r rs moved front.first front.others some lasts spaced
          (subst (λ (l : List DataRecord). Spaced u 0 l) front.parts
          (bare-spaced u r.start 0 sl (omega arith))) each);
    }
