-- Each list of data records has its runs, and no others.
use Rattle.std.proofs.Common.{◌≡◌, ◌≢◌, ℕ, ◌+◌, Bool, true, false, List, [], ◌∷◌, ◌++◌, refl, sym}
use Rattle.std.proofs.Common.{ap, ◌∙◌, subst, eqb}
use Rattle.std.proofs.lemmas.Bool.{eqb-true, eqb-false, eq-eqb, ne_eqb}
use Rattle.std.proofs.lemmas.List.Elements.{All-nil, All-cons, All-head, All-tail}
use Rattle.std.specs.Prelude.{All}
use Rattle.std.specs.List.{flat_map}
use Rattle.edf_fragment.specs.Fragment.{DataRecord}
use Rattle.edf_runs.specs.Runs.{StartFrom, IsTouching, AreParted, IsRuns}
use Rattle.edf_runs.proofs.Growing.{touching_from}

abbrev IsSome : List DataRecord → Type 0
IsSome run = run ≢ []

abbrev joined : List (List DataRecord) → List DataRecord
joined runs = flat_map (λ run. run) runs

-- ---- the runs of a list, found from its back

-- whether data records that come next start at this instant
abbrev pub begins_at : ℕ → List DataRecord → Bool
begins_at instant [] = true
begins_at instant (s ∷ rs) = eqb s.start instant

-- a data record before a run and others: it joins the run, or is a run of its own
abbrev pub put_before : Bool → DataRecord → List DataRecord → List (List DataRecord) →
    List (List DataRecord)
put_before true r run runs = (r ∷ run) ∷ runs
put_before false r run runs = (r ∷ []) ∷ (run ∷ runs)

abbrev pub before_runs : ℕ → DataRecord → List (List DataRecord) → List (List DataRecord)
before_runs d r [] = (r ∷ []) ∷ []
before_runs d r (run ∷ runs) = put_before (begins_at (r.start + d) run) r run runs

abbrev pub runs_of : ℕ → List DataRecord → List (List DataRecord)
runs_of d [] = []
runs_of d (r ∷ rs) = before_runs d r (runs_of d rs)

-- ---- data records that start from an instant on

-- another instant that is the same
from-same : (d a b : ℕ) (rs : List DataRecord) → a ≡ b → StartFrom d (a + d) rs →
    StartFrom d (b + d) rs
from-same d a b rs same from = subst (λ (n : ℕ). StartFrom d (n + d) rs) same from

touching-start : (d instant : ℕ) (rs : List DataRecord) → begins_at instant rs ≡ true →
    IsTouching d rs → StartFrom d instant rs
touching-start d instant [] begins touching = tt
touching-start d instant (s ∷ rs) begins touching =
    let same = eqb-true s.start instant begins in
    (same, from-same d s.start instant rs same touching)

start-begins : (d instant : ℕ) (rs : List DataRecord) → begins_at instant rs ≡ false →
    ¬ StartFrom d instant rs
start-begins d instant [] begins from = cc
start-begins d instant (s ∷ rs) begins from = eqb-false s.start instant begins from.0

some-cons : (r : DataRecord) (run : List DataRecord) → IsSome (r ∷ run)
some-cons r run e = let none : ◌≡◌ {A = List DataRecord} (r ∷ run) [] = e in cc

parted-later : (d : ℕ) (run : List DataRecord) (runs : List (List DataRecord)) →
    AreParted d (run ∷ runs) → AreParted d runs
parted-later d run [] parted = tt
parted-later d run (next ∷ runs) parted = parted.1

-- ---- they are the runs

-- with a data record before its first run, a list of runs is parted as it was
parted-longer : (d : ℕ) (r : DataRecord) (run : List DataRecord) (runs : List (List DataRecord)) →
    AreParted d (run ∷ runs) → AreParted d ((r ∷ run) ∷ runs)
parted-longer d r run [] parted = tt
parted-longer d r run (next ∷ runs) parted =
    (λ touching. parted.0 (touching_from d (r.start + d) (run ++ next) touching), parted.1)

put-runs : (d : ℕ) (r : DataRecord) (rs : List DataRecord) (b : Bool) (run : List DataRecord)
    (runs : List (List DataRecord)) → begins_at (r.start + d) run ≡ b
    → IsRuns d rs (run ∷ runs) → IsRuns d (r ∷ rs) (put_before b r run runs)
put-runs d r rs true run runs begins are = record {
  joined = ap (λ (l : List DataRecord). r ∷ l) are.joined;
  none_empty = All-cons IsSome (r ∷ run) runs (some-cons r run)
      (All-tail IsSome run runs are.none_empty);
  touching = All-cons (IsTouching d) (r ∷ run) runs
      (touching-start d (r.start + d) run begins (All-head (IsTouching d) run runs are.touching))
      (All-tail (IsTouching d) run runs are.touching);
  parted = parted-longer d r run runs are.parted;
}
put-runs d r rs false run runs begins are = record {
  joined = ap (λ (l : List DataRecord). r ∷ l) are.joined;
  none_empty = All-cons IsSome (r ∷ []) (run ∷ runs) (some-cons r []) are.none_empty;
  touching = All-cons (IsTouching d) (r ∷ []) (run ∷ runs) tt are.touching;
  parted = (start-begins d (r.start + d) run begins, are.parted);
}

before-runs : (d : ℕ) (r : DataRecord) (rs : List DataRecord) (runs : List (List DataRecord)) →
    IsRuns d rs runs → IsRuns d (r ∷ rs) (before_runs d r runs)
before-runs d r rs [] are = record {
  joined = ap (λ (l : List DataRecord). r ∷ l) are.joined;
  none_empty = All-cons IsSome (r ∷ []) [] (some-cons r []) (All-nil IsSome);
  touching = All-cons (IsTouching d) (r ∷ []) [] tt (All-nil (IsTouching d));
  parted = tt;
}
before-runs d r rs (run ∷ runs) are =
    put-runs d r rs (begins_at (r.start + d) run) run runs refl are

pub are-runs : (d : ℕ) (records : List DataRecord) → IsRuns d records (runs_of d records)
are-runs d [] = record {
  joined = refl;
  none_empty = All-nil IsSome;
  touching =
      All-nil (IsTouching d);
  parted = tt;
}
are-runs d (r ∷ rs) = before-runs d r rs (runs_of d rs) (are-runs d rs)

pub some-runs : (d : ℕ) (records : List DataRecord) → (runs : List (List DataRecord))
    × IsRuns d records runs
some-runs d records = (runs_of d records, are-runs d records)

-- ---- and no others are

-- a run of one data record
alone : (d : ℕ) (r : DataRecord) (runs : List (List DataRecord)) → All IsSome runs →
    All (IsTouching d) runs → AreParted d ((r ∷ []) ∷ runs)
    → before_runs d r runs ≡ (r ∷ []) ∷ runs
alone d r [] some touching parted = refl
alone d r ([] ∷ runs) some touching parted = absurd (All-head IsSome [] runs some refl)
alone d r ((s ∷ run) ∷ runs) some touching parted =
    let from = All-head (IsTouching d) (s ∷ run) runs touching in
    ap (λ (b : Bool). put_before b r (s ∷ run) runs)
    (ne_eqb s.start (r.start + d) (λ same.
    parted.0 (same, from-same d s.start (r.start + d) run same from)))

-- a run of more, without its first
parted-shorter : (d : ℕ) (r s : DataRecord) (run : List DataRecord)
    (runs : List (List DataRecord)) → s.start ≡ r.start + d → AreParted d ((r ∷ (s ∷ run)) ∷ runs)
    → AreParted d ((s ∷ run) ∷ runs)
parted-shorter d r s run [] same parted = tt
parted-shorter d r s run (next ∷ runs) same parted = (
  λ touching. parted.0 (same, from-same d s.start (r.start + d) (run ++ next) same touching),
  parted.1,
)

run-back : (d : ℕ) (r : DataRecord) (run : List DataRecord) (runs : List (List DataRecord)) →
    runs_of d (joined runs) ≡ runs → All IsSome runs → All (IsTouching d) runs
    → StartFrom d (r.start + d) run → AreParted d ((r ∷ run) ∷ runs) →
    runs_of d (r ∷ (run ++ joined runs)) ≡ (r ∷ run) ∷ runs
run-back d r [] runs later some touching from parted = ap (before_runs d r) later
    ∙ alone d r runs some touching parted
run-back d r (s ∷ run) runs later some touching from parted =
    ap (before_runs d r)
    (run-back d s run runs later some touching
    (from-same d (r.start + d) s.start run (sym from.0) from.1)
    (parted-shorter d r s run runs from.0 parted))
    ∙ ap (λ (b : Bool). put_before b r (s ∷ run) runs) (eq-eqb s.start (r.start + d) from.0)

runs-back : (d : ℕ) (runs : List (List DataRecord)) → All IsSome runs → All (IsTouching d) runs →
    AreParted d runs → runs_of d (joined runs) ≡ runs
runs-back d [] some touching parted = refl
runs-back d ([] ∷ runs) some touching parted = absurd (All-head IsSome [] runs some refl)
runs-back d ((r ∷ run) ∷ runs) some touching parted =
    let some-later = All-tail IsSome (r ∷ run) runs some in
    let touching-later = All-tail (IsTouching d) (r ∷ run) runs touching in
    run-back d r run runs (runs-back d runs some-later touching-later
    (parted-later d (r ∷ run) runs parted)) some-later touching-later
    (All-head (IsTouching d) (r ∷ run) runs touching) parted

pub are-runs-of : (d : ℕ) (records : List DataRecord) (runs : List (List DataRecord)) →
    IsRuns d records runs → runs ≡ runs_of d records
are-runs-of d records runs are = sym (runs-back d runs are.none_empty are.touching are.parted)
    ∙ ap (runs_of d) are.joined

pub one-runs : (d : ℕ) (records : List DataRecord) (runs others : List (List DataRecord)) →
    IsRuns d records runs → IsRuns d records others → runs ≡ others
one-runs d records runs others are other-are = are-runs-of d records runs are
    ∙ sym (are-runs-of d records others other-are)
