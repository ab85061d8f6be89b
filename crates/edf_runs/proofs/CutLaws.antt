-- Laws of outlines and of cut files.
use Rattle.std.proofs.Common.{◌≡◌, ℕ, ◌+◌, ◌-◌, ◌^◌, ◌<◌, List, [], ◌∷◌, ◌++◌, refl, sym, ap}
use Rattle.std.proofs.Common.{◌∙◌, inl, inr, subst, arith, All, Contains}
use Rattle.std.specs.Prelude.{Bool, true, ◌&&◌, nat_le, nat_lt, filter, min, max}
use Rattle.std.specs.List.{AllZip}
use Rattle.std.proofs.lemmas.Bool.{lt-ltb, ltb-true}
use Rattle.std.proofs.lemmas.List.Elements.{All-nil, All-cons, All-filter, All-weaker}
use Rattle.std.proofs.lemmas.List.Elements.{All-contains_itself}
use Rattle.edf_field.specs.Number.{duration_of}
use Rattle.edf_header.specs.Key.{Key}
use Rattle.edf_header.proofs.Cited.{key-duration-some}
use Rattle.edf_tal.specs.Tal.{Annotation}
use Rattle.edf_fragment.specs.Fragment.{DataRecord, IsFragmentFile}
use Rattle.edf_fragment.specs.Sound.{AreSoundFrom}
use Rattle.edf_fragment.proofs.Fragments.{fragment_of_all}
use Rattle.edf_fragment.proofs.OneFragment.{one-fragment}
use Rattle.edf_runs.specs.ByOnset.{annotations_of, is_between, each_assigned}
use Rattle.edf_runs.specs.ByOnset.{all_assigned, by_onset, AreAlike}
use Rattle.edf_canonical.proofs.Files.{its-own}
use Rattle.edf_runs.specs.Cut.{between}
use Rattle.edf_runs.specs.CutLaws.{IsOfItsFile, HasAll, StayByOnset, IsWholeOrCut, CutsAreTaken}
use Rattle.edf_runs.specs.CutLaws.{TakesWhatMeets}
use Rattle.edf_runs.specs.Order.{in_order}
use Rattle.edf_runs.specs.Outline.{IsOutline}
use Rattle.edf_runs.proofs.ByOnset.{stay-alike}
use Rattle.edf_runs.proofs.Filtered.{filter-all}
use Rattle.edf_runs.proofs.Members.{contains-kept, kept-contains}
use Rattle.edf_runs.proofs.Noted.{Noted, Sampled, one-joined}
use Rattle.edf_runs.proofs.Taken.{IsPart, parts-are-taken}

pub is-of-its-file : IsOfItsFile
is-of-its-file bytes rest k records outline reads spells =
    let same = one-fragment bytes reads.layout.key k reads.records records
    (fragment_of_all bytes rest reads.layout reads.records reads.read) spells in
    subst (λ (x : Key). IsOutline x records outline) same.key
    (subst (λ (x : List DataRecord). IsOutline reads.layout.key x outline) same.records
    reads.is_outline)

-- ---- the whole time

all-in : (k : Key) (low : ℕ) (records : List DataRecord) → 0 < duration_of k.duration →
    AreSoundFrom k low records → All (λ (r : DataRecord). nat_lt (max 0 r.start)
    (min (2 ^ 64 - 1) (r.start + duration_of k.duration)) ≡ true) records
all-in k low [] lasts sound = All-nil (λ (r : DataRecord). nat_lt (max 0 r.start)
    (min (2 ^ 64 - 1) (r.start + duration_of k.duration)) ≡ true)
all-in k low (r ∷ rs) lasts sound =
    let d = duration_of k.duration in
    All-cons (λ (r : DataRecord). nat_lt (max 0 r.start) (min (2 ^ 64 - 1) (r.start + d)) ≡ true)
    r rs (lt-ltb (max 0 r.start) (min (2 ^ 64 - 1) (r.start + d))
    (omega (arith, lasts, sound.0.start)))
    (all-in k (r.start + d) rs lasts sound.2)

pub has-all : HasAll
has-all k records key sound = filter-all (λ (r : DataRecord). nat_lt (max 0 r.start)
    (min (2 ^ 64 - 1) (r.start + duration_of k.duration))) records
    (all-in k 0 records (key-duration-some k key) sound)

-- ---- a time

pub takes-what-meets : TakesWhatMeets
takes-what-meets d from to records r =
    let meets : DataRecord → Bool =
    λ (x : DataRecord). nat_lt (max from x.start) (min to (x.start + d)) in (
      λ has.
          let taken = contains-kept meets records r has in
          let lt = ltb-true (max from r.start) (min to (r.start + d)) taken.1 in (
            taken.0,
            (
              max from r.start,
              record { begun = omega arith; not_over = omega (arith, lt) },
              omega arith,
              omega (arith, lt),
            ),
          ),
      λ all. kept-contains meets records r all.0
          (lt-ltb (max from r.start) (min to (r.start + d))
          (omega (arith, all.1.1.begun, all.1.1.not_over, all.1.2, all.1.3))),
    )

-- ---- by onset

same-annotations : (ones rs : List DataRecord) →
    AllZip (λ (one r : DataRecord). Noted one r) ones rs → annotations_of ones ≡ annotations_of rs
same-annotations [] [] noted = refl
same-annotations [] (r ∷ rs) noted = absurd noted
same-annotations (x ∷ xs) [] noted = absurd noted
same-annotations (x ∷ xs) (r ∷ rs) noted =
    ap (λ (l : List Annotation). l ++ annotations_of xs) noted.0.1
    ∙ ap (λ (l : List Annotation). r.annotations ++ l) (same-annotations xs rs noted.1)

same-filter : (all : List Annotation) (low : ℕ) (xs rs : List DataRecord) →
    AllZip (λ (one r : DataRecord). Noted one r) xs rs →
    filter (is_between low xs) all ≡ filter (is_between low rs) all
same-filter all low [] [] noted = refl
same-filter all low [] (r ∷ rs) noted = absurd noted
same-filter all low (x ∷ xs) [] noted = absurd noted
same-filter all low (x ∷ xs) (r ∷ rs) noted =
    ap (λ (n : ℕ). filter (λ (a : Annotation). nat_le low a.onset && nat_lt a.onset n) all)
    noted.0.0

same-each : (all : List Annotation) (xs rs : List DataRecord) →
    AllZip (λ (one r : DataRecord). Noted one r) xs rs →
    AllZip (λ (one r : DataRecord). Noted one r) (each_assigned all xs) (each_assigned all rs)
same-each all [] [] noted = tt
same-each all [] (r ∷ rs) noted = absurd noted
same-each all (x ∷ xs) [] noted = absurd noted
same-each all (x ∷ xs) (r ∷ rs) noted = (
  (
    noted.0.0,
    ap (λ (n : ℕ). filter (is_between n xs) all) noted.0.0
        ∙ same-filter all r.start xs rs noted.1,
  ),
  same-each all xs rs noted.1,
)

same-all : (all : List Annotation) (xs rs : List DataRecord) →
    AllZip (λ (one r : DataRecord). Noted one r) xs rs →
    AllZip (λ (one r : DataRecord). Noted one r) (all_assigned all xs) (all_assigned all rs)
same-all all [] [] noted = tt
same-all all [] (r ∷ rs) noted = absurd noted
same-all all (x ∷ xs) [] noted = absurd noted
same-all all (x ∷ xs) (r ∷ rs) noted =
    ((noted.0.0, same-filter all 0 xs rs noted.1), same-each all xs rs noted.1)

pub sampled-by : (others rs ss : List DataRecord) →
    AllZip (λ (other r : DataRecord). Sampled other r) others rs → AllZip AreAlike ss rs →
    AllZip (λ (other r : DataRecord). Sampled other r) others ss
sampled-by [] [] [] sampled alike = tt
sampled-by [] [] (s ∷ ss) sampled alike = absurd alike
sampled-by [] (r ∷ rs) ss sampled alike = absurd sampled
sampled-by (o ∷ os) [] ss sampled alike = absurd sampled
sampled-by (o ∷ os) (r ∷ rs) [] sampled alike = absurd alike
sampled-by (o ∷ os) (r ∷ rs) (s ∷ ss) sampled alike = (
  (sampled.0.0 ∙ sym alike.0.0, sampled.0.1 ∙ sym alike.0.1),
  sampled-by os rs ss sampled.1 alike.1,
)

pub stay-by-onset : StayByOnset
stay-by-onset k ones others records sorted sound joined onset =
    let same = same-annotations ones records joined.annotated in
    let noted = subst (λ (l : List Annotation).
    AllZip (λ (one r : DataRecord). Noted one r)
    (all_assigned (in_order (annotations_of ones)) ones) (all_assigned (in_order l) records)) same
    (same-all (in_order (annotations_of ones)) ones records joined.annotated) in
    one-joined (by_onset ones) others sorted (by_onset records) onset.annotated noted onset.sampled
    (sampled-by others records (by_onset records) joined.sampled (stay-alike k records sound).0)

-- ---- in a store

cut-is-part : (k : Key) (records : List DataRecord) (whole file : List ℕ) →
    IsFragmentFile whole k records →
    IsWholeOrCut whole k records file → IsPart k records file
cut-is-part k records whole file spells (inl same) = record {
  part = records;
  among = All-contains_itself records;
  spells = subst (λ (x : List ℕ). IsFragmentFile x k records) (sym same) spells;
}
cut-is-part k records whole file spells (inr (from, to, is)) = record {
  part = between (duration_of k.duration) from to records;
  among = All-filter _ (Contains records) records (All-contains_itself records);
  spells = its-own file k (between (duration_of k.duration) from to records) is;
}

pub cuts-are-taken : CutsAreTaken
cuts-are-taken cap h k records whole files submissions sound none few spells are tell =
    parts-are-taken cap h k records whole files submissions sound none few spells
    (All-weaker (IsWholeOrCut whole k records) (IsPart k records)
    (λ file is. cut-is-part k records whole file spells is) files are) tell
