-- Each annotation by onset is in the file of the run that covers its onset, where one does.
use Rattle.std.proofs.Common.{◌≡◌, ◌≢◌, ℕ, suc, ◌+◌, ◌*◌, ◌≤◌, ◌<◌, List, [], ◌∷◌, ◌++◌}
use Rattle.std.proofs.Common.{length, Contains, All, refl, sym, ap, ◌∙◌, subst, arith, inl, inr}
use Rattle.std.proofs.Common.{append_assoc}
use Rattle.std.specs.Prelude.{IsPermutation}
use Rattle.std.specs.List.{flat_map, AllZip}
use Rattle.std.proofs.Math.Nat.{suc-mul}
use Rattle.std.proofs.lemmas.Grind.{flat_map-append}
use Rattle.std.proofs.lemmas.List.Elements.{All-nil, All-cons, All-head, All-tail, All-contains}
use Rattle.std.proofs.lemmas.List.Elements.{Contains-append_cases}
use Rattle.std.proofs.lemmas.List.Sorted.{IsPermutation-sym}
use Rattle.edf_field.specs.Number.{duration_of}
use Rattle.edf_header.specs.Key.{Key}
use Rattle.edf_tal.specs.Tal.{Annotation}
use Rattle.edf_fragment.specs.Fragment.{DataRecord, IsFragmentFile}
use Rattle.edf_fragment.proofs.OneFragment.{one-fragment}
use Rattle.edf_runs.specs.ByOnset.{annotations_of, AreAlike, by_onset, Covers, BeginsBy}
use Rattle.edf_runs.specs.ByOnset.{BeginsAfter, IsLastBegun, AreWhereCovered, AreWhereBegun}
use Rattle.edf_runs.specs.ByOnset.{EachInItsRun}
use Rattle.edf_runs.specs.File.{IsRunFile}
use Rattle.edf_runs.specs.Runs.{IsRuns}
use Rattle.edf_runs.specs.Inside.Spaced.{Spaced}
use Rattle.edf_runs.proofs.Members.{parted, flat_map-joined, contains-none, contains-cases}
use Rattle.edf_runs.proofs.ByOnset.{stay-alike, spaced-sound, spaced-lower, spaced-all, once}
use Rattle.edf_runs.specs.Order.{in_order}
use Rattle.edf_runs.proofs.ByOnset.{placed-by_onset}
use Rattle.edf_runs.proofs.RunFiles.{run-file-spells}

abbrev all_of : List (List DataRecord) → List DataRecord
all_of runs = flat_map (λ run. run) runs

-- ---- the data record that has an annotation of a run

-- an annotation of data records is one of a data record
record HasIt (rs : List DataRecord) (a : Annotation) : Type 0 where
  before : List DataRecord
  r : DataRecord
  after : List DataRecord
  parts : rs ≡ before ++ r ∷ after
  is_one : Contains r.annotations a

has-it : (rs : List DataRecord) (a : Annotation) → Contains (annotations_of rs) a → HasIt rs a
has-it [] a c = absurd (contains-none a c)
has-it (r ∷ rs) a c = elim (Contains-append_cases r.annotations (annotations_of rs) a c) [
  | inl here ↦ record { before = []; r = r; after = rs; parts = refl; is_one = here }
  | inr later ↦ let more = has-it rs a later in
      record {
        before = r ∷ more.before;
        r = more.r;
        after = more.after;
        parts = ap (λ l. r ∷ l) more.parts;
        is_one = more.is_one;
      }
]

-- the data records of runs, where one run is parted at one of its data records
parts-of : (before after : List (List DataRecord)) (run rb ra : List DataRecord) (g : DataRecord) →
    run ≡ rb ++ g ∷ ra →
    all_of (before ++ run ∷ after) ≡ (all_of before ++ rb) ++ g ∷ (ra ++ all_of after)
parts-of before after run rb ra g is =
    flat_map-append (λ (x : List DataRecord). x) before (run ∷ after)
    ∙ ap (λ (l : List DataRecord). all_of before ++ (l ++ all_of after)) is
    ∙ ap (λ (l : List DataRecord). all_of before ++ l) (append_assoc rb (g ∷ ra) (all_of after))
    ∙ sym (append_assoc (all_of before) rb (g ∷ (ra ++ all_of after)))

-- ---- spaced data records

-- those after others
spaced-after : (d low : ℕ) (xs ys : List DataRecord) → Spaced d low (xs ++ ys) →
    Spaced d (low + length xs * d) ys
spaced-after d low [] ys spaced = spaced-lower d low (low + 0 * d) ys (omega arith) spaced
spaced-after d low (x ∷ xs) ys spaced =
    spaced-lower d ((x.start + d) + length xs * d) (low + suc (length xs) * d) ys
    (omega (arith, suc-mul (length xs) d, spaced.0)) (spaced-after d (x.start + d) xs ys spaced.1)

-- the first of them starts no later than another
begins-by : (d low : ℕ) (before : List DataRecord) (g : DataRecord) (after : List DataRecord)
    (instant : ℕ) → Spaced d low (before ++ g ∷ after) → g.start ≤ instant →
    BeginsBy (before ++ g ∷ after) instant
begins-by d low [] g after instant spaced by = by
begins-by d low (x ∷ xs) g after instant spaced by =
    omega (arith, by, (spaced-after d (x.start + d) xs (g ∷ after) spaced.1).0)

all-after : {X : Type 0} (P : X → Type 0) (xs ys : List X) → All P (xs ++ ys) → All P ys
all-after P [] ys all = all
all-after P (x ∷ xs) ys all = all-after P xs ys (All-tail P x (xs ++ ys) all)

-- the runs after an instant, where their data records are
begin-after : (instant : ℕ) (runs : List (List DataRecord)) → All (λ run. run ≢ []) runs →
    All (λ r. instant < r.start) (all_of runs) → All (BeginsAfter instant) runs
begin-after instant [] some later = All-nil (BeginsAfter instant)
begin-after instant ([] ∷ runs) some later =
    absurd (All-head (λ (x : List DataRecord). x ≢ []) [] runs some refl)
begin-after instant ((r ∷ rs) ∷ runs) some later =
    All-cons (BeginsAfter instant) (r ∷ rs) runs
    (All-head (λ x. instant < x.start) r (rs ++ all_of runs) later)
    (begin-after instant runs (All-tail (λ x. x ≢ []) (r ∷ rs) runs some)
    (all-after (λ x. instant < x.start) rs (all_of runs)
    (All-tail (λ x. instant < x.start) r (rs ++ all_of runs) later)))

-- runs before others have a data record
some-before : (before rest : List (List DataRecord)) (rb : List DataRecord) →
    All (λ run. run ≢ []) (before ++ rest) → all_of before ++ rb ≡ [] → before ≡ []
some-before [] rest rb some none = refl
some-before ([] ∷ before) rest rb some none =
    absurd (All-head (λ (x : List DataRecord). x ≢ []) [] (before ++ rest) some refl)
some-before ((r ∷ rs) ∷ before) rest rb some none =
    let no : ◌≡◌ {A = List DataRecord} (r ∷ ((rs ++ all_of before) ++ rb)) [] = none in cc

-- ---- each annotation where its run begins

module _ (d : ℕ) (records : List DataRecord) (runs : List (List DataRecord))
    (spaced : Spaced d 0 records) (is : IsRuns d (by_onset records) runs) where
  spaced-runs : Spaced d 0 (all_of runs)
  spaced-runs =
      subst (Spaced d 0) (sym is.joined)
      (spaced-all (in_order (annotations_of records)) d 0 records spaced)

  pub where-begun : AreWhereBegun runs
  where-begun before after run a same c =
      let it = has-it run a c in
      let whole : by_onset records ≡ (all_of before ++ it.before) ++ it.r
      ∷ (it.after ++ all_of after) = sym is.joined ∙ ap all_of same
      ∙ parts-of before after run it.before it.after it.r it.parts in
      let p = (placed-by_onset d records (all_of before ++ it.before) it.r (it.after
      ++ all_of after) a spaced whole).0 it.is_one in
      let some : All (λ x. x ≢ []) (before ++ run ∷ after) =
      subst (All (λ x. x ≢ [])) same is.none_empty in
      let here : Spaced d (0 + length (all_of before) * d) (run ++ all_of after) =
      spaced-after d 0 (all_of before) (run ++ all_of after)
      (subst (Spaced d 0) (ap all_of same ∙ flat_map-append (λ (x : List DataRecord). x) before
      (run ∷ after)) spaced-runs) in
      record {
        begun = elim p.1.started [
          | inl none ↦ inl (some-before before (run ∷ after) it.before some none)
          | inr by ↦ inr (run-begins run (all_of after) it (0
              + length (all_of before) * d) here a.onset by)
        ];
        last = begin-after a.onset after (all-after (λ x. x ≢ []) (before ++ run ∷ []) after
            (subst (All (λ x. x ≢ [])) (sym (append_assoc before (run ∷ []) after)) some))
            (all-after (λ x. a.onset < x.start) it.after (all_of after) p.1.last);
      }
    where
      run-begins : (run rest : List DataRecord) (it : HasIt run a) (low : ℕ) →
          Spaced d low (run ++ rest) → (instant : ℕ) → it.r.start ≤ instant → BeginsBy run instant
      run-begins run rest it low spaced instant by =
          subst (λ l. BeginsBy l instant) (sym it.parts)
          (begins-by d low it.before it.r it.after instant
          (front (it.before ++ it.r ∷ it.after) rest low
          (subst (λ l. Spaced d low (l ++ rest)) it.parts spaced)) by)
        where
          front : (xs ys : List DataRecord) (low : ℕ) → Spaced d low (xs ++ ys) → Spaced d low xs
          front [] ys low spaced = tt
          front (x ∷ xs) ys low spaced = (spaced.0, front xs ys (x.start + d) spaced.1)

  -- a run ends before one after it begins
  ends-before : (other : List DataRecord) (between : List (List DataRecord)) (run : List DataRecord)
      (after : List (List DataRecord)) (low instant : ℕ) →
      Spaced d low (other ++ all_of (between ++ run ∷ after)) →
      Covers d other instant → BeginsBy run instant → ⊥
  ends-before [] between run after low instant spaced covers by = covers
  ends-before (o ∷ os) between [] after low instant spaced covers by = by
  ends-before (o ∷ os) between (r ∷ rs) after low instant spaced covers by =
      let later = spaced-after d (o.start + d) os (all_of (between ++ (r ∷ rs) ∷ after))
      spaced.1 in
      let here = spaced-after d ((o.start + d) + length os * d) (all_of between) ((r ∷ rs)
      ++ all_of after) (subst (Spaced d ((o.start + d) + length os * d))
      (flat_map-append (λ (x : List DataRecord). x) between ((r ∷ rs) ∷ after)) later) in
      omega (arith, here.0, covers.1, by, suc-mul (length os) d)

  pub where-covered : AreWhereCovered d runs
  where-covered run other a is-run is-other c covers =
      let at = parted runs run is-run in
      let begun = where-begun at.before at.after run a at.parts c in
      elim (Contains-append_cases at.before (run ∷ at.after) other
      (subst (λ l. Contains l other) at.parts is-other)) [
        | inl earlier ↦ absurd (before-it at.before at.after at.parts begun earlier)
        | inr later ↦ elim (contains-cases run at.after other later) [
          | inl same ↦ same
          | inr after ↦ absurd (after-it other
              (All-contains (BeginsAfter a.onset) at.after other begun.last after) covers)
        ]
      ]
    where
      after-it : (o : List DataRecord) → BeginsAfter a.onset o → Covers d o a.onset → ⊥
      after-it [] after covers = after
      after-it (r ∷ rs) after covers = omega (arith, after, covers.0)

      before-it : (before after : List (List DataRecord)) → runs ≡ before ++ run ∷ after →
          IsLastBegun before run after a.onset → Contains before other → ⊥
      before-it before after same begun earlier =
          let at = parted before other earlier in
          let whole : all_of runs
          ≡ all_of at.before ++ (other ++ all_of (at.after ++ run ∷ after)) =
          ap all_of (same ∙ ap (λ l. l ++ run ∷ after) at.parts
          ∙ append_assoc at.before (other ∷ at.after) (run ∷ after))
          ∙ flat_map-append (λ (x : List DataRecord). x) at.before (other ∷ (at.after
          ++ run ∷ after)) in
          elim begun.begun [
            | inl none ↦ contains-none other (subst (λ l. Contains l other) none earlier)
            | inr by ↦ ends-before other at.after run after (0 + length (all_of at.before) * d)
                a.onset (spaced-after d 0 (all_of at.before) (other ++ all_of (at.after
                ++ run ∷ after)) (subst (Spaced d 0) whole spaced-runs)) covers by
          ]

  pub once-in-runs : IsPermutation (flat_map annotations_of runs) (annotations_of records)
  once-in-runs =
      subst (λ l. IsPermutation l (annotations_of records))
      (sym (flat_map-joined (λ (r : DataRecord). r.annotations) runs ∙ ap annotations_of is.joined))
      (IsPermutation-sym _ _ (once d records spaced))

-- ---- the files of the runs spell them

spell-runs : (k : Key) (files : List (List ℕ)) (runs spelled : List (List DataRecord)) →
    AllZip (λ file run. IsRunFile file k run) files runs →
    AllZip (λ file run. IsFragmentFile file k run) files spelled → runs ≡ spelled
spell-runs k [] [] [] are spell = refl
spell-runs k [] [] (s ∷ ss) are spell = absurd spell
spell-runs k [] (run ∷ runs) spelled are spell = absurd are
spell-runs k (f ∷ fs) [] spelled are spell = absurd are
spell-runs k (f ∷ fs) (run ∷ runs) [] are spell = absurd spell
spell-runs k (f ∷ fs) (run ∷ runs) (s ∷ ss) are spell =
    let first : run ≡ s =
    (one-fragment f k k run s (run-file-spells f k run are.0) spell.0).records in
    ap (λ x. x ∷ runs) first ∙ ap (λ l. s ∷ l) (spell-runs k fs runs ss are.1 spell.1)

pub each-in-its-run : EachInItsRun
each-in-its-run k records runs spelled files key sound is are spell =
    let spaced = spaced-sound k 0 records sound in
    let d = duration_of k.duration in
    subst (λ l. IsPermutation (flat_map annotations_of l) (annotations_of records)
    × AreWhereCovered d l × AreWhereBegun l × AllZip AreAlike (flat_map (λ x. x) l) records)
    (spell-runs k files runs spelled are spell) (
      once-in-runs d records runs spaced is,
      where-covered d records runs spaced is,
      where-begun d records runs spaced is,
      subst (λ l. AllZip AreAlike l records) (sym is.joined) (stay-alike k records sound).0,
    )
