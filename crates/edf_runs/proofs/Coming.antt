-- The samples of one place after another.
use Rattle.std.proofs.Common.{◌≡◌, ℕ, zero, suc, ◌+◌, ◌-◌, ◌<◌, ◌≤◌, List, [], ◌∷◌, ◌++◌, length}
use Rattle.std.proofs.Common.{map}
use Rattle.std.proofs.Common.{refl, sym, ap, ◌∙◌, subst, arith, get_or, drop}
use Rattle.std.specs.Prelude.{nat_lt}
use Rattle.std.specs.List.{prefix_len}
use Rattle.edf_tal.specs.Tal.{Annotation}
use Rattle.edf_fragment.specs.Fragment.{DataRecord}
use Rattle.edf_runs.specs.Filled.{place_of}
use Rattle.edf_runs.specs.Inside.Placing.{parts_from, placed, bare, at_places}
use Rattle.edf_runs.specs.Inside.Spreading.{count_before}
use Rattle.edf_runs.specs.Inside.Stretching.{Rise}
use Rattle.edf_runs.specs.Inside.ToCome.{StartAt, part_by, samples_from}
use Rattle.edf_runs.specs.declared.parted.FilledParts.{FilledParts}
use Rattle.edf_runs.proofs.Placed.{flat-next, first-part, length-placed}

-- data records that start so
pub first-start : (start : ℕ) (later : List ℕ) (r : DataRecord) (rs : List DataRecord) →
    StartAt (start ∷ later) (r ∷ rs) → r.start ≡ start
first-start start later r rs same = ap (λ (l : List ℕ). get_or l 0 0) same

pub later-start : (start : ℕ) (later : List ℕ) (r : DataRecord) (rs : List DataRecord) →
    StartAt (start ∷ later) (r ∷ rs) → StartAt later rs
later-start start later r rs same = ap (λ (l : List ℕ). drop 1 l) same

pub none-start : (records : List DataRecord) → StartAt [] records → records ≡ []
none-start [] same = refl
none-start (r ∷ rs) same = absurd (let f = same in cc)

module _ (parts : FilledParts) where
  abbrev g : ℕ
  g = parts.division.parts

  abbrev u : ℕ
  u = parts.division.unit

  abbrev flat : List ℕ
  flat = parts.flat.items

  abbrev pub places : List ℕ → List ℕ
  places starts = map (place_of u parts.first) starts

  -- another part of a data record
  pub later-comes : (nth left : ℕ) (last : List ℕ) (next : List DataRecord) → 0 < left → left ≤ g →
      samples_from parts nth left last next
      ≡ part_by parts (g - left) last ∷ samples_from parts (nth + 1) (left - 1) last next
  later-comes nth zero last next some le = absurd (omega (arith, some))
  later-comes nth (suc m) last next some le =
      let part = part_by parts in
      let xs = at_places u parts.first next in
      let a : (g - suc m) + 1 ≡ g - m = omega (arith, le) in
      let b : nth + suc m ≡ (nth + 1) + m = omega arith in
      let c : m ≡ suc m - 1 = omega arith in
      ap (λ n. part (g - suc m) last ∷ (parts_from part last n m
      ++ placed g part flat (nth + suc m) xs)) a
      ∙ ap (λ n. part (g - suc m) last ∷ (parts_from part last (g - m) m
      ++ placed g part flat n xs)) b
      ∙ ap (λ n. part (g - suc m) last ∷ samples_from parts (nth + 1) n last next) c

  -- a flat place
  flat-one : (nth : ℕ) (last : List ℕ) (r : DataRecord) (rs : List DataRecord) →
      nth < place_of u parts.first r.start → samples_from parts nth 0 last (r ∷ rs)
      ≡ flat ∷ samples_from parts (nth + 1) 0 last (r ∷ rs)
  flat-one nth last r rs lt =
      let part = part_by parts in
      let xs = at_places u parts.first rs in
      let x : ℕ × List ℕ = (place_of u parts.first r.start, r.samples) in
      let a : (nth + 0) + 1 ≡ (nth + 1) + 0 = omega arith in
      flat-next g part flat (nth + 0) x xs (omega (arith, lt))
      ∙ ap (λ n. flat ∷ placed g part flat n (x ∷ xs)) a

  pub flat-comes : (start : ℕ) (later : List ℕ) (nth left : ℕ) (last : List ℕ)
      (next : List DataRecord) → left ≡ 0 → nth < place_of u parts.first start →
      StartAt (start ∷ later) next → samples_from parts nth left last next
      ≡ flat ∷ samples_from parts (nth + 1) left last next
  flat-comes start later nth left last [] none lt same = absurd (let f = same in cc)
  flat-comes start later nth left last (r ∷ rs) none lt same =
      let is : start ≡ r.start = sym (first-start start later r rs same) in
      let far : nth < place_of u parts.first r.start =
      subst (λ s. nth < place_of u parts.first s) is lt in
      ap (λ n. samples_from parts nth n last (r ∷ rs)) none
      ∙ flat-one nth last r rs far
      ∙ ap (λ n. flat ∷ samples_from parts (nth + 1) n last (r ∷ rs)) (sym none)

  -- the first part of a data record
  pub first-comes : (nth left : ℕ) (last : List ℕ) (r : DataRecord) (rs : List DataRecord) →
      left ≡ 0 → 1 ≤ g → nth ≡ place_of u parts.first r.start →
      samples_from parts nth left last (r ∷ rs)
      ≡ part_by parts 0 r.samples ∷ samples_from parts (nth + 1) (g - 1) r.samples rs
  first-comes nth left last r rs none some here =
      let part = part_by parts in
      let xs = at_places u parts.first rs in
      let p = place_of u parts.first r.start in
      let a : g ≡ suc (g - 1) = omega (arith, some) in
      let b : 1 ≡ g - (g - 1) = omega (arith, some) in
      let e : p + g ≡ (nth + 1) + (g - 1) = omega (arith, here, some) in
      ap (λ n. samples_from parts nth n last (r ∷ rs)) none
      ∙ first-part g part flat (nth + 0) (g - 1) (p, r.samples) xs (omega (arith, here)) a
      ∙ ap (λ n. part 0 r.samples ∷ (parts_from part r.samples n (g - 1)
      ++ placed g part flat (p + g) xs)) b
      ∙ ap (λ n. part 0 r.samples ∷ (parts_from part r.samples (g - (g - 1)) (g - 1)
      ++ placed g part flat n xs)) e

  -- some places are to come
  pub some-come : (nth left : ℕ) (last : List ℕ) (later : List ℕ) (next : List DataRecord) →
      1 ≤ g → 1 ≤ left + length later → Rise g (nth + left) (places later) → StartAt later next →
      1 ≤ length (samples_from parts nth left last next)
  some-come nth (suc m) last later next one some rise same = omega arith
  some-come nth zero last [] next one some rise same = absurd (omega (arith, some))
  some-come nth zero last (s ∷ ss) [] one some rise same = absurd (let f = same in cc)
  some-come nth zero last (s ∷ ss) (r ∷ rs) one some rise same =
      let part = part_by parts in
      let xs = at_places u parts.first rs in
      let p = place_of u parts.first r.start in
      let is : s ≡ r.start = sym (first-start s ss r rs same) in
      let le : nth + 0 ≤ p = subst (λ x. nth + 0 ≤ place_of u parts.first x) is rise.0 in
      let len = length-placed g part flat (nth + 0) (p, r.samples) xs le in
      omega (arith, len, one)

  pub none-come : (nth left : ℕ) (last : List ℕ) (later : List ℕ) (next : List DataRecord) →
      left ≡ 0 → later ≡ [] → StartAt later next → samples_from parts nth left last next ≡ []
  none-come nth left last later next none empty same =
      let no : next ≡ [] = none-start next (same ∙ empty) in
      ap (λ n. samples_from parts nth n last next) none
      ∙ ap (λ (rs : List DataRecord). samples_from parts nth 0 last rs) no

  -- so many annotations are before them
  count-some : (notes : List Annotation) (at : ℕ) (ss : List (List ℕ)) → 1 ≤ length ss →
      count_before notes (bare u at ss) ≡ prefix_len (λ (a : Annotation). nat_lt a.onset at) notes
  count-some notes at [] some = absurd (omega (arith, some))
  count-some notes at (s ∷ ss) some = refl

  pub count-here : (notes : List Annotation) (at nth left : ℕ) (last : List ℕ) (later : List ℕ)
      (next : List DataRecord) → 1 ≤ g → 1 ≤ left + length later →
      Rise g (nth + left) (places later) → StartAt later next →
      prefix_len (λ (a : Annotation). nat_lt a.onset at) notes
      ≡ count_before notes (bare u at (samples_from parts nth left last next))
  count-here notes at nth left last later next one some rise same =
      sym (count-some notes at (samples_from parts nth left last next)
      (some-come nth left last later next one some rise same))

  pub count-last : (notes : List Annotation) (at nth left : ℕ) (last : List ℕ) (later : List ℕ)
      (next : List DataRecord) → left ≡ 0 → later ≡ [] → StartAt later next →
      length notes ≡ count_before notes (bare u at (samples_from parts nth left last next))
  count-last notes at nth left last later next none empty same =
      sym (ap (λ (ss : List (List ℕ)). count_before notes (bare u at ss))
      (none-come nth left last later next none empty same))
