-- Annotations that are counted data record by data record.
use Rattle.std.proofs.Common.{◌≡◌, ℕ, ◌+◌, ◌*◌, ◌≤◌, ◌<◌, List, [], ◌∷◌, ◌++◌, length, sym, ap}
use Rattle.std.proofs.Common.{◌∙◌, arith, append-nil, length-append, inl, inr}
use Rattle.std.proofs.Math.Nat.{suc-mul}
use Rattle.std.specs.Prelude.{Bool, true, false, ◌||◌, cond, count_by, nat_le, nat_lt}
use Rattle.std.specs.List.{AllByRecursion}
use Rattle.std.proofs.lemmas.Grind.{flat_map-append}
use Rattle.std.proofs.lemmas.Bool.{le-leb, lt-leb, lt-ltb, le-ltb, cases_lt}
use Rattle.std.proofs.lemmas.List.Sums.{sum_by-append}
use Rattle.edf_header.specs.Key.{Key}
use Rattle.edf_tal.specs.Tal.{Annotation}
use Rattle.edf_tal.specs.declared.limits.TheConstants.{MOST_ANNOTATIONS}
use Rattle.edf_fragment.specs.Fragment.{DataRecord}
use Rattle.edf_fragment.specs.Sound.{IsSoundRecord}
use Rattle.edf_runs.specs.ByOnset.{annotations_of}
use Rattle.edf_runs.specs.Counted.{AreCounted, is_outside, run_end, OutsideIsNotCovered}
use Rattle.edf_runs.specs.declared.run.Run.{Run}
use Rattle.edf_runs.proofs.Growing.{run_end as ends-at}

pub annotations-more : (records : List DataRecord) (r : DataRecord) →
    annotations_of (records ++ r ∷ []) ≡ annotations_of records ++ r.annotations
annotations-more records r = flat_map-append (λ (x : DataRecord). x.annotations) records (r ∷ [])
    ∙ ap (λ (l : List Annotation). annotations_of records ++ l) (append-nil r.annotations)

pub counted-more : (d : ℕ) (run : Run) (records : List DataRecord) (r : DataRecord)
    (annotations outside more out : ℕ) → AreCounted d run records annotations outside →
    more ≡ length r.annotations
    → out ≡ count_by (is_outside run.first (run_end d run)) r.annotations →
    AreCounted d run (records ++ r ∷ []) (annotations + more) (outside + out)
counted-more d run records r annotations outside more out before more-is out-is =
    let p = is_outside run.first (run_end d run) in
    let longer = annotations-more records r in
    record {
      all = omega (
        arith,
        before.all,
        more-is,
        ap (λ (l : List Annotation). length l) longer,
        length-append (annotations_of records) r.annotations,
      );
      out = omega (
        arith,
        before.out,
        out-is,
        ap (λ (l : List Annotation). count_by p l) longer,
        sum_by-append (λ (a : Annotation). cond (p a) 1 0) (annotations_of records) r.annotations,
      );
    }

-- each has 10,000 at most
pub few-annotations : (k : Key) (records : List DataRecord) →
    AllByRecursion (IsSoundRecord k) records →
    length (annotations_of records) ≤ length records * MOST_ANNOTATIONS
few-annotations k [] sound = omega arith
few-annotations k (r ∷ rs) sound =
    let later = few-annotations k rs sound.1 in
    omega (
      arith,
      later,
      sound.0.limits.count,
      length-append r.annotations (annotations_of rs),
      suc-mul (length rs) MOST_ANNOTATIONS,
    )

-- ---- outside is where the data records don't cover

either : (a b : Bool) → a ≡ false → b ≡ false → (a || b) ≡ true → ⊥
either a b first second is =
    let e : false ≡ true = sym (ap (λ x. x || b) first ∙ second) ∙ is in cc

one-of : (first end onset : ℕ) → ((first ≤ onset) × (onset < end) → ⊥) →
    (nat_lt onset first || nat_le end onset) ≡ true
one-of first end onset out = elim (cases_lt onset first) [
  | inl before ↦ ap (λ x. x || nat_le end onset) (lt-ltb onset first before)
  | inr from ↦ elim (cases_lt onset end) [
    | inl within ↦ absurd (out (from, within))
    | inr past ↦ ap (λ x. x || nat_le end onset) (le-ltb onset first from)
        ∙ le-leb end onset past
  ]
]

pub outside-is-not-covered : OutsideIsNotCovered
outside-is-not-covered d [] run a is = absurd (omega (arith, is.count, run.records_some))
outside-is-not-covered d (r ∷ rs) run a is =
    let end = ends-at d (r ∷ rs) run is in
    let start = is.starts.0 in (
      λ out covers. either (nat_lt a.onset run.first) (nat_le (run_end d run) a.onset)
          (le-ltb a.onset run.first (omega (arith, covers.0, start)))
          (lt-leb (run_end d run) a.onset (omega (arith, covers.1, start, end))) out,
      λ none. one-of run.first (run_end d run) a.onset
          (λ within. none (omega (arith, within.0, start), omega (arith, within.1, start, end))),
    )
