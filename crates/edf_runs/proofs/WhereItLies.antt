-- An annotation whose onset lies in a data record is in that one by onset, and in no other.
use Rattle.std.proofs.Common.{ℕ, ◌+◌, ◌≤◌, ◌<◌, List, [], ◌∷◌, ◌++◌, Contains, arith, subst}
use Rattle.std.proofs.Common.{inl, inr}
use Rattle.std.proofs.lemmas.List.Elements.{All-contains, Contains-append_cases}
use Rattle.edf_field.specs.Number.{duration_of}
use Rattle.edf_fragment.specs.Fragment.{DataRecord}
use Rattle.edf_runs.specs.ByOnset.{annotations_of, by_onset, EachWhereItLies}
use Rattle.edf_runs.specs.Inside.Spaced.{Spaced}
use Rattle.edf_runs.specs.Order.{in_order}
use Rattle.edf_runs.proofs.ByOnset.{spaced-sound, spaced-all, before-each, placed-by_onset}
use Rattle.edf_runs.proofs.Members.{contains-cases, contains-none, parted}

-- ---- one of spaced data records

-- starts from `low` on
from-low : (d low : ℕ) (xs : List DataRecord) (g : DataRecord) (after : List DataRecord) →
    Spaced d low (xs ++ g ∷ after) → low ≤ g.start
from-low d low [] g after spaced = spaced.0
from-low d low (x ∷ xs) g after spaced =
    omega (arith, spaced.0, from-low d (x.start + d) xs g after spaced.1)

-- those after it start when it has ended
after-one : (d low : ℕ) (xs : List DataRecord) (g : DataRecord) (after : List DataRecord) →
    Spaced d low (xs ++ g ∷ after) → Spaced d (g.start + d) after
after-one d low [] g after spaced = spaced.1
after-one d low (x ∷ xs) g after spaced = after-one d (x.start + d) xs g after spaced.1

-- each before it has ended when it starts
before-one : (d low : ℕ) (xs : List DataRecord) (r g : DataRecord) (after : List DataRecord) →
    Spaced d low (xs ++ g ∷ after) → Contains xs r → r.start + d ≤ g.start
before-one d low [] r g after spaced c = absurd (contains-none r c)
before-one d low (x ∷ xs) r g after spaced c = elim (contains-cases x xs r c) [
  | inl same ↦
      subst (λ (y : DataRecord). y.start + d ≤ g.start) same
      (from-low d (x.start + d) xs g after spaced.1)
  | inr later ↦ before-one d (x.start + d) xs r g after spaced.1 later
]

pub each-where-it-lies : EachWhereItLies
each-where-it-lies k records r other a sound is-r is-a from to =
    let d = duration_of k.duration in
    let spaced = spaced-sound k 0 records sound in
    let rises : Spaced d 0 (by_onset records) =
    spaced-all (in_order (annotations_of records)) d 0 records spaced in
    let at = parted (by_onset records) r is-r in
    let here : Spaced d 0 (at.before ++ r ∷ at.after) = subst (Spaced d 0) at.parts rises in
    let later = after-one d 0 at.before r at.after here in (
      (placed-by_onset d records at.before r at.after a spaced at.parts).1 (
        is-a,
        record {
          started = inr from;
          last = before-each a.onset d (r.start + d) at.after later to;
        },
      ),
      λ is-other has.
          let one = parted (by_onset records) other is-other in
          let was = ((placed-by_onset d records one.before other one.after a spaced one.parts).0
          has).1 in
          let there : Spaced d 0 (one.before ++ other ∷ one.after) =
          subst (Spaced d 0) one.parts rises in
          elim (Contains-append_cases one.before (other ∷ one.after) r
          (subst (λ l. Contains l r) one.parts is-r)) [
            | inl earlier ↦ absurd (elim was.started [
              | inl none ↦ contains-none r (subst (λ l. Contains l r) none earlier)
              | inr by ↦ omega (
                arith,
                to,
                by,
                before-one d 0 one.before r other one.after there earlier,
              )
            ])
            | inr now ↦ elim (contains-cases other one.after r now) [
              | inl same ↦ same
              | inr later ↦ absurd (omega (
                arith,
                from,
                All-contains (λ x. a.onset < x.start) one.after r was.last later,
              ))
            ]
          ],
    )
