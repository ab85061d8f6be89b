-- How many runs data records have that are passed one after another.
use Rattle.std.proofs.Common.{◌≡◌, ◌≢◌, ℕ, zero, suc, ◌+◌, ◌<◌, ◌≤◌, List, [], ◌∷◌, ◌++◌, length}
use Rattle.std.proofs.Common.{◌⊎◌, inl, inr, refl, sym, ap, ◌∙◌, subst, arith, length-append}
use Rattle.std.proofs.Common.{Option, Some, None, get_or, append_assoc}
use Rattle.std.specs.Prelude.{true, false, take}
use Rattle.std.specs.List.{flat_map}
use Rattle.std.specs.List.Sorted.{IsPartitionPoint}
use Rattle.std.proofs.Math.Seq.{take-append_seam}
use Rattle.std.proofs.lemmas.Bool.{leb-true, le-leb, both_ways, cases_lt}
use Rattle.std.proofs.lemmas.List.Elements.{All-nil}
use Rattle.edf_fragment.specs.Fragment.{DataRecord}
use Rattle.edf_canonical.proofs.Measures.{all_last}
use Rattle.edf_runs.specs.Crowded.{IsRunCount}
use Rattle.edf_runs.specs.Runs.{StartFrom, IsTouching, IsRuns}
use Rattle.edf_runs.specs.Inside.Stretching.{Rise}
use Rattle.edf_runs.proofs.Growing.{first_run, longer_run, next_run, joined_more}
use Rattle.edf_runs.proofs.Growing.{touching_from, from_touching}
use Rattle.edf_runs.proofs.LyingIn.{apart, begun}
use Rattle.edf_runs.proofs.Noted.{starts_of}

-- when the last of some data records ends, where there is one
abbrev pub end_of : ℕ → List DataRecord → Option ℕ
end_of d [] = None
end_of d (r ∷ []) = Some (r.start + d)
end_of d (r ∷ s ∷ rs) = end_of d (s ∷ rs)

end-append : (d : ℕ) (xs : List DataRecord) (y : DataRecord) (ys : List DataRecord) →
    end_of d (xs ++ y ∷ ys) ≡ end_of d (y ∷ ys)
end-append d [] y ys = refl
end-append d (x ∷ []) y ys = refl
end-append d (x ∷ z ∷ xs) y ys = end-append d (z ∷ xs) y ys

-- ---- a data record that starts where a run ends

starts-more : (d at : ℕ) (x : DataRecord) (xs : List DataRecord) (r : DataRecord) →
    StartFrom d at (x ∷ xs) → end_of d (x ∷ xs) ≡ Some r.start →
    StartFrom d at ((x ∷ xs) ++ r ∷ [])
starts-more d at x [] r starts end =
    let e : x.start + d ≡ r.start = let f = end in cc in
    (starts.0, (omega (arith, e, starts.0), tt))
starts-more d at x (y ∷ ys) r starts end =
    (starts.0, starts-more d (at + d) y ys r starts.1 end)

last-starts : (d at : ℕ) (x : DataRecord) (xs : List DataRecord) (r : DataRecord) →
    StartFrom d at ((x ∷ xs) ++ r ∷ []) → end_of d (x ∷ xs) ≡ Some r.start
last-starts d at x [] r starts =
    let e : x.start + d ≡ r.start = omega (arith, starts.0, starts.1.0) in
    ap (λ (n : ℕ). Some n) e
last-starts d at x (y ∷ ys) r starts = last-starts d (at + d) y ys r starts.1

module _ (d : ℕ) (x : DataRecord) (xs : List DataRecord) (r : DataRecord) where
  touches : IsTouching d (x ∷ xs) → end_of d (x ∷ xs) ≡ Some r.start →
      IsTouching d ((x ∷ xs) ++ r ∷ [])
  touches touching end = touching_from d x.start ((x ∷ xs) ++ r ∷ [])
      (starts-more d x.start x xs r (from_touching d x.start x xs refl touching) end)

  touched : IsTouching d ((x ∷ xs) ++ r ∷ []) → end_of d (x ∷ xs) ≡ Some r.start
  touched touching = last-starts d x.start x xs r
      (from_touching d x.start x (xs ++ r ∷ []) refl touching)

-- ---- one data record more

-- the runs end with one that has a data record, or there are none
record EndsWith (runs : List (List DataRecord)) : Type 0 where
  front : List (List DataRecord)
  x : DataRecord
  xs : List DataRecord
  parts : runs ≡ front ++ (x ∷ xs) ∷ []

some-end : (d : ℕ) (records : List DataRecord) (front : List (List DataRecord))
    (run : List DataRecord) → IsRuns d records (front ++ run ∷ []) → EndsWith (front ++ run ∷ [])
some-end d records front [] is =
    absurd (all_last (λ (x : List DataRecord). x ≢ []) front [] is.none_empty refl)
some-end d records front (x ∷ xs) is =
    record { front = front; x = x; xs = xs; parts = refl }

last-of : (runs : List (List DataRecord)) → (runs ≡ [])
    ⊎ ((front : List (List DataRecord)) × (run : List DataRecord) × (runs ≡ front ++ run ∷ []))
last-of [] = inl refl
last-of (x ∷ xs) = elim (last-of xs) [
  | inl none ↦ inr ([], x, ap (λ (l : List (List DataRecord)). x ∷ l) none)
  | inr some ↦ inr (x ∷ some.0, some.1, ap (λ (l : List (List DataRecord)). x ∷ l) some.2)
]

ends-with : (d : ℕ) (records : List DataRecord) (runs : List (List DataRecord)) →
    IsRuns d records runs → (runs ≡ []) ⊎ EndsWith runs
ends-with d records runs is = elim (last-of runs) [
  | inl none ↦ inl none
  | inr some ↦ inr (subst EndsWith (sym some.2)
      (some-end d records some.0 some.1 (subst (IsRuns d records) some.2 is)))
]

pub record CountedRuns (d : ℕ) (records : List DataRecord) (count : ℕ) (end : Option ℕ) : Type 0
  where
    pub counted : IsRunCount d records count
    pub end_is : end ≡ end_of d records

pub none-counted : (d : ℕ) → CountedRuns d [] 0 None
none-counted d = record {
  counted = record {
    runs = [];
    are_runs = record {
      joined = refl;
      none_empty = All-nil (λ (run : List DataRecord). run ≢ []);
      touching = All-nil (IsTouching d);
      parted = tt;
    };
    count_is = refl;
  };
  end_is = refl;
}

module _ (d : ℕ) (records : List DataRecord) (count : ℕ) (end : Option ℕ)
    (so : CountedRuns d records count end) (r : DataRecord) where
  is : IsRunCount d records count
  is = so.counted

  -- the last run ends when the data records do
  own-end : (e : EndsWith is.runs) → end_of d (e.x ∷ e.xs) ≡ end
  own-end e =
      let joined = flat_map (λ (run : List DataRecord). run) e.front in
      let whole : joined ++ e.x ∷ e.xs ≡ records =
      sym (joined_more e.front (e.x ∷ e.xs))
      ∙ ap (flat_map (λ (run : List DataRecord). run)) (sym e.parts) ∙ is.are_runs.joined in
      sym (end-append d joined e.x e.xs) ∙ ap (end_of d) whole ∙ sym so.end_is

  last-touches : (e : EndsWith is.runs) → IsTouching d (e.x ∷ e.xs)
  last-touches e = all_last (IsTouching d) e.front (e.x ∷ e.xs)
      (subst (IsRuns d records) e.parts is.are_runs).touching

  none-before : is.runs ≡ [] → end ≡ None
  none-before none =
      let empty : [] ≡ records =
      ap (flat_map (λ (run : List DataRecord). run)) (sym none) ∙ is.are_runs.joined in
      so.end_is ∙ ap (end_of d) (sym empty)

  pub joins : end ≡ Some r.start → CountedRuns d (records ++ r ∷ []) count (Some (r.start + d))
  joins at = record {
    counted = elim (ends-with d records is.runs is.are_runs) [
      | inl none ↦ let no : None ≡ Some r.start = sym (none-before none) ∙ at in cc
      | inr e ↦ record {
        runs = e.front ++ ((e.x ∷ e.xs) ++ r ∷ []) ∷ [];
        are_runs = longer_run d records e.front (e.x ∷ e.xs) r
            (subst (IsRuns d records) e.parts is.are_runs)
            (touches d e.x e.xs r (last-touches e) (own-end e ∙ at));
        count_is = is.count_is ∙ ap (λ (l : List (List DataRecord)). length l) e.parts
            ∙ length-append e.front ((e.x ∷ e.xs) ∷ [])
            ∙ sym (length-append e.front (((e.x ∷ e.xs) ++ r ∷ []) ∷ []));
      }
    ];
    end_is = sym (end-append d records r []);
  }

  pub begins : (end ≡ Some r.start → ⊥) →
      CountedRuns d (records ++ r ∷ []) (count + 1) (Some (r.start + d))
  begins apart = record {
    counted = elim (ends-with d records is.runs is.are_runs) [
      | inl none ↦ record {
        runs = (r ∷ []) ∷ [];
        are_runs = first_run d records r (subst (IsRuns d records) none is.are_runs);
        count_is = ap (λ (n : ℕ). n + 1) (is.count_is
            ∙ ap (λ (l : List (List DataRecord)). length l) none);
      }
      | inr e ↦ record {
        runs = (e.front ++ (e.x ∷ e.xs) ∷ []) ++ (r ∷ []) ∷ [];
        are_runs = next_run d records e.front (e.x ∷ e.xs) r
            (subst (IsRuns d records) e.parts is.are_runs)
            (λ touching. apart (sym (own-end e) ∙ touched d e.x e.xs r touching));
        count_is = ap (λ (n : ℕ). n + 1) (is.count_is
            ∙ ap (λ (l : List (List DataRecord)). length l) e.parts)
            ∙ sym (length-append (e.front ++ (e.x ∷ e.xs) ∷ []) ((r ∷ []) ∷ []));
      }
    ];
    end_is = sym (end-append d records r []);
  }

-- ---- the data records of the first starts

pub record NextTaken (records : List DataRecord) (i start : ℕ) : Type 0 where
  pub r : DataRecord
  pub start_is : r.start ≡ start
  pub next : take (suc i) records ≡ take i records ++ r ∷ []

pub next-taken : (records : List DataRecord) (i start : ℕ) →
    take (suc i) (starts_of records) ≡ take i (starts_of records) ++ start ∷ [] →
    NextTaken records i start
next-taken [] zero start is = cc
next-taken [] (suc i) start is = cc
next-taken (r ∷ rs) zero start is =
    let e : r.start ∷ [] ≡ start ∷ [] = is in
    record { r = r; start_is = cc; next = refl }
next-taken (r ∷ rs) (suc i) start is =
    let e : take (suc i) (starts_of rs) ≡ take i (starts_of rs) ++ start ∷ [] = cc in
    let more = next-taken rs i start e in
    record {
      r = more.r;
      start_is = more.start_is;
      next = ap (λ (l : List DataRecord). r ∷ l) more.next;
    }

pub one-more : (d : ℕ) (records : List DataRecord) (i start nanos count count' : ℕ)
    (end : Option ℕ) → NextTaken records i start → nanos ≡ start →
    CountedRuns d (take i records) count end →
    ((end ≡ Some nanos) × (count' ≡ count)) ⊎ ((end ≡ Some nanos → ⊥) × (count' ≡ count + 1)) →
    CountedRuns d (take (i + 1) records) count' (Some (nanos + d))
one-more d records i start nanos count count' end n is so test =
    let e : i + 1 ≡ suc i = omega arith in
    let at : nanos ≡ n.r.start = is ∙ sym n.start_is in
    let more : take (i + 1) records ≡ take i records ++ n.r ∷ [] =
    ap (λ (k : ℕ). take k records) e ∙ n.next in
    subst (λ (l : List DataRecord). CountedRuns d l count' (Some (nanos + d))) (sym more)
    (subst (λ (m : ℕ). CountedRuns d (take i records ++ n.r ∷ []) count' (Some (m + d))) (sym at)
    (elim test [
      | inl joined ↦ subst (λ (k : ℕ). CountedRuns d (take i records ++ n.r ∷ []) k
          (Some (n.r.start + d))) (sym joined.1)
          (joins d (take i records) count end so n.r
          (joined.0 ∙ ap (λ (m : ℕ). Some m) at))
      | inr begun-now ↦ subst (λ (k : ℕ). CountedRuns d (take i records ++ n.r ∷ []) k
          (Some (n.r.start + d))) (sym begun-now.1)
          (begins d (take i records) count end so n.r
          (λ same. begun-now.0 (same ∙ ap (λ (m : ℕ). Some m) (sym at))))
    ]))

pub taken-all : (records : List DataRecord) (i : ℕ) → length (starts_of records) ≤ i →
    take i records ≡ records
taken-all [] zero le = refl
taken-all [] (suc i) le = refl
taken-all (r ∷ rs) zero le = absurd (omega (arith, le))
taken-all (r ∷ rs) (suc i) le =
    ap (λ (l : List DataRecord). r ∷ l) (taken-all rs i (omega (arith, le)))

-- ---- the data records up to one that starts then

get-there : (xs : List ℕ) (y : ℕ) (zs : List ℕ) (e : ℕ) → get_or (xs ++ y ∷ zs) (length xs) e ≡ y
get-there [] y zs e = refl
get-there (x ∷ xs) y zs e = get-there xs y zs e

module _ (d instant n : ℕ) (front back starts : List ℕ) (some : 0 < d)
    (parts : starts ≡ front ++ instant ∷ back) (rise : Rise d 0 starts) (few : n ≤ length starts)
    (point : IsPartitionPoint (λ (s : ℕ). begun instant s ≡ true)
    (λ (s : ℕ). begun instant s ≡ false) starts n) where
  whole : length starts ≡ length front + suc (length back)
  whole = ap (λ (l : List ℕ). length l) parts ∙ length-append front (instant ∷ back)

  there : (e : ℕ) → get_or starts (length front) e ≡ instant
  there e = ap (λ (l : List ℕ). get_or l (length front) e) parts ∙ get-there front instant back e

  begun-then : length front < n
  begun-then = elim (cases_lt (length front) n) [
    | inl lt ↦ lt
    | inr le ↦
        let at = there 0 in
        absurd (both_ways (begun instant (get_or starts (length front) 0))
        (point.1 (length front) 0 le (omega (arith, whole)))
        (le-leb (get_or starts (length front) 0) instant (omega (arith, at))))
  ]

  none-later : n ≤ length front + 1
  none-later = elim (cases_lt (length front + 1) n) [
    | inl lt ↦
        let at = there 0 in
        let next = leb-true (get_or starts (length front + 1) 0) instant
        (point.0 (length front + 1) 0 (omega arith) lt) in
        let gap = apart d 0 starts (length front) (length front + 1) 0 rise (omega arith)
        (omega (arith, lt, few)) in
        absurd (omega (arith, at, next, gap, some))
    | inr le ↦ le
  ]

  pub through : take n starts ≡ front ++ instant ∷ []
  through =
      let many : n ≡ length (front ++ instant ∷ []) =
      omega (arith, begun-then, none-later, length-append front (instant ∷ [])) in
      ap (λ (k : ℕ). take k starts) many
      ∙ ap (take (length (front ++ instant ∷ [])))
      (parts ∙ sym (append_assoc front (instant ∷ []) back))
      ∙ take-append_seam (front ++ instant ∷ []) back
