-- Annotations that moved with the data record in which they lie are those of a filled file.
use Rattle.std.proofs.Common.{◌≡◌, ℕ, zero, suc, ◌+◌, ◌-◌, ◌*◌, ◌<◌, ◌≤◌, List, [], ◌∷◌, map}
use Rattle.std.proofs.Common.{All, Contains, Option, Some, None, refl, sym, ap, ◌∙◌, subst, arith}
use Rattle.std.specs.List.{AllZip}
use Rattle.std.proofs.lemmas.List.Elements.{All-contains}
use Rattle.edf_field.specs.Number.{duration_of}
use Rattle.edf_header.specs.Key.{Key}
use Rattle.edf_tal.specs.Tal.{Annotation}
use Rattle.edf_fragment.specs.Fragment.{DataRecord}
use Rattle.edf_holdings.specs.Clash.{IntervalContains}
use Rattle.edf_runs.specs.Filled.{place_of, Moves}
use Rattle.edf_runs.specs.Inside.Moving.{LiesIn, moved_with, MovesNote}
use Rattle.edf_runs.specs.Inside.Spaced.{Spaced}
use Rattle.edf_runs.specs.Inside.Stretching.{Rise}
use Rattle.edf_runs.specs.declared.parted.Parted.{Parted}

pub starts-rise : (d low : ℕ) (records : List DataRecord) → Spaced d low records →
    Rise d low (map (λ (r : DataRecord). r.start) records)
starts-rise d low [] spaced = tt
starts-rise d low (r ∷ rs) spaced = (spaced.0, starts-rise d (r.start + d) rs spaced.1)

start-in : (records : List DataRecord) (r : DataRecord) → Contains records r →
    Contains (map (λ (x : DataRecord). x.start) records) r.start
start-in [] r has = absurd (omega (arith, has.1))
start-in (x ∷ xs) r (zero, lt, same) = (0, omega arith, ap (λ (y : DataRecord). y.start) same)
start-in (x ∷ xs) r (suc i, lt, same) =
    let more = start-in xs r (i, omega (arith, lt), same) in
    (suc more.0, omega (arith, more.1), more.2)

start-of : (records : List DataRecord) (s : ℕ) →
    Contains (map (λ (x : DataRecord). x.start) records) s →
    (r : DataRecord) × Contains records r × (r.start ≡ s)
start-of [] s has = absurd (omega (arith, has.1))
start-of (x ∷ xs) s (zero, lt, same) = (x, (0, omega arith, refl), same)
start-of (x ∷ xs) s (suc i, lt, same) =
    let more = start-of xs s (i, omega (arith, lt), same) in
    (more.0, (suc more.1.0, omega (arith, more.1.1), more.1.2), more.2)

from-low : (d low : ℕ) (starts : List ℕ) (s : ℕ) → Rise d low starts → Contains starts s → low ≤ s
from-low d low [] s rise has = absurd (omega (arith, has.1))
from-low d low (x ∷ xs) s rise (zero, lt, same) = omega (arith, rise.0, same)
from-low d low (x ∷ xs) s rise (suc i, lt, same) =
    let more = from-low d (x + d) xs s rise.1 (i, omega (arith, lt), same) in
    omega (arith, more, rise.0)

-- an instant lies in one data record at most
one-start : (d low : ℕ) (starts : List ℕ) (s t instant : ℕ) → Rise d low starts →
    Contains starts s → Contains starts t → s ≤ instant → instant < s + d → t ≤ instant →
    instant < t + d → s ≡ t
one-start d low [] s t instant rise has has' a b c e = absurd (omega (arith, has.1))
one-start d low (x ∷ xs) s t instant rise (zero, lt, same) (zero, lt', same') a b c e =
    sym same ∙ same'
one-start d low (x ∷ xs) s t instant rise (zero, lt, same) (suc j, lt', same') a b c e =
    let later = from-low d (x + d) xs t rise.1 (j, omega (arith, lt'), same') in
    absurd (omega (arith, later, same, b, c))
one-start d low (x ∷ xs) s t instant rise (suc i, lt, same) (zero, lt', same') a b c e =
    let later = from-low d (x + d) xs s rise.1 (i, omega (arith, lt), same) in
    absurd (omega (arith, later, same', a, e))
one-start d low (x ∷ xs) s t instant rise (suc i, lt, same) (suc j, lt', same') a b c e =
    one-start d (x + d) xs s t instant rise.1 (i, omega (arith, lt), same)
    (j, omega (arith, lt'), same') a b c e

module _ (k : Key) (g : ℕ) (p : Parted) (records : List DataRecord)
    (starts : p.starts.now ≡ map (λ (r : DataRecord). r.start) records)
    (lasts : p.duration ≡ duration_of k.duration)
    (spaced : Spaced (duration_of k.duration) 0 records)
  where
    lies : (instant : ℕ) (start : Option ℕ) → LiesIn p.duration p.starts.now instant start →
        LiesIn (duration_of k.duration) (map (λ (r : DataRecord). r.start) records) instant start
    lies instant start in-it =
        subst (λ (d : ℕ). LiesIn d (map (λ (r : DataRecord). r.start) records) instant start) lasts
        (subst (λ (l : List ℕ). LiesIn p.duration l instant start) starts in-it)

    with-it : (instant to : ℕ) (start : Option ℕ) (r : DataRecord) →
        LiesIn (duration_of k.duration) (map (λ (x : DataRecord). x.start) records) instant start →
        to ≡ moved_with p instant start → Contains records r →
        IntervalContains (duration_of k.duration) r instant →
        to ≡ p.first + place_of p.division.unit p.first r.start * p.division.unit
        + (instant - r.start)
    with-it instant to None r in-it is has inside =
        let past = All-contains (λ s. s ≤ instant → s + duration_of k.duration ≤ instant)
        (map (λ (x : DataRecord). x.start) records) r.start in-it (start-in records r has)
        inside.begun
        in absurd (omega (arith, past, inside.not_over))
    with-it instant to (Some s) r in-it is has inside =
        let same : s ≡ r.start = one-start (duration_of k.duration) 0
        (map (λ (x : DataRecord). x.start) records) s r.start instant
        (starts-rise (duration_of k.duration) 0 records spaced) in-it.0 (start-in records r has)
        in-it.1 in-it.2 inside.begun inside.not_over in
        is ∙ ap (λ (x : ℕ). p.first + place_of p.division.unit p.first x * p.division.unit
        + (instant - x)) same

    without : (instant to : ℕ) (start : Option ℕ) →
        LiesIn (duration_of k.duration) (map (λ (x : DataRecord). x.start) records) instant start →
        to ≡ moved_with p instant start →
        All (λ r. ¬ IntervalContains (duration_of k.duration) r instant) records → to ≡ instant
    without instant to None in-it is none = is
    without instant to (Some s) in-it is none =
        let of = start-of records s in-it.0 in
        absurd (All-contains (λ r. ¬ IntervalContains (duration_of k.duration) r instant) records
        of.0
        none of.1 (record {
          begun = omega (arith, in-it.1, of.2);
          not_over = omega (arith, in-it.2, of.2);
        }))

    moves-one : (a to : Annotation) → MovesNote p a to →
        Moves k g p.division.unit p.first records a to
    moves-one a to is =
        let start = is.onset.0 in
        let in-it = lies a.onset start is.onset.1 in
        record {
          same = (is.duration, is.text);
          moved = λ r has inside. with-it a.onset to.onset start r in-it is.onset.2 has inside;
          stays = λ none.
              ap (λ (x : ℕ). record { onset = x; duration = to.duration; text = to.text })
              (without a.onset to.onset start in-it is.onset.2 none)
              ∙ ap (λ (x : Option ℕ). record { onset = a.onset; duration = x; text = to.text })
              is.duration
              ∙ ap (λ (x : List ℕ). record { onset = a.onset; duration = a.duration; text = x })
              is.text;
        }

    pub moves-all : (all moved : List Annotation) → AllZip (MovesNote p) all moved →
        AllZip (Moves k g p.division.unit p.first records) all moved
    moves-all [] [] are = tt
    moves-all [] (to ∷ tos) are = absurd are
    moves-all (a ∷ all) [] are = absurd are
    moves-all (a ∷ all) (to ∷ tos) are = (moves-one a to are.0, moves-all all tos are.1)
