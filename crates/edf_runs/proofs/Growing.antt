-- Runs grow data record by data record.
use Rattle.std.proofs.Common.{◌≡◌, ◌≢◌, ℕ, zero, suc, ◌+◌, ◌-◌, ◌*◌, ◌/◌, ◌≤◌, ◌<◌, min, max, List}
use Rattle.std.proofs.Common.{[], ◌∷◌, ◌++◌, length, refl, sym, ap, ◌∙◌, subst, arith, append_assoc}
use Rattle.std.proofs.Common.{append-nil, length-append}
use Rattle.std.specs.List.{flat_map, AllZip}
use Rattle.std.proofs.Math.Nat.{suc-mul}
use Rattle.std.proofs.lemmas.Grind.{flat_map-append}
use Rattle.std.proofs.lemmas.List.Elements.{All-nil, All-cons, All-push, All-weaker}
use Rattle.edf_header.specs.declared.limits.TheConstants.{MOST_RECORDS}
use Rattle.edf_fragment.specs.Fragment.{DataRecord}
use Rattle.edf_canonical.specs.File.{second_of, block_of, BlocksFit}
use Rattle.edf_canonical.proofs.Measures.{all_front, all_last, samples_hold, samples_least}
use Rattle.edf_runs.specs.Runs.{StartFrom, IsTouching, AreParted, IsRuns, IsListed, AreListed}
use Rattle.edf_runs.specs.declared.run.Run.{Run}

-- ---- starts one after another

pub starts_more : (d at : ℕ) (rs : List DataRecord) (r : DataRecord) → StartFrom d at rs →
    r.start ≡ at + length rs * d → StartFrom d at (rs ++ r ∷ [])
starts_more d at [] r from is = (omega (arith, is), tt)
starts_more d at (x ∷ xs) r from is =
    let e = suc-mul (length xs) d in
    (from.0, starts_more d (at + d) xs r from.1 (omega (arith, is, e)))

pub last_start : (d at : ℕ) (rs : List DataRecord) (r : DataRecord) →
    StartFrom d at (rs ++ r ∷ []) → r.start ≡ at + length rs * d
last_start d at [] r from = omega (arith, from.0)
last_start d at (x ∷ xs) r from =
    let e = suc-mul (length xs) d in
    let later = last_start d (at + d) xs r from.1 in
    omega (arith, later, e)

pub starts_front : (d at : ℕ) (rs ss : List DataRecord) → StartFrom d at (rs ++ ss) →
    StartFrom d at rs
starts_front d at [] ss from = tt
starts_front d at (x ∷ xs) ss from = (from.0, starts_front d (at + d) xs ss from.1)

pub touching_from : (d at : ℕ) (rs : List DataRecord) → StartFrom d at rs → IsTouching d rs
touching_from d at [] from = tt
touching_from d at (x ∷ xs) from = subst (λ n. StartFrom d (n + d) xs) (sym from.0) from.1

pub from_touching : (d at : ℕ) (x : DataRecord) (xs : List DataRecord) → x.start ≡ at →
    IsTouching d (x ∷ xs) → StartFrom d at (x ∷ xs)
from_touching d at x xs is touching = (is, subst (λ n. StartFrom d (n + d) xs) is touching)

pub touching_front : (d : ℕ) (rs ss : List DataRecord) → IsTouching d (rs ++ ss) → IsTouching d rs
touching_front d [] ss touching = tt
touching_front d (x ∷ xs) ss touching = starts_front d (x.start + d) xs ss touching

-- ---- the last run grows, or another begins

parted_longer : (d : ℕ) (runs : List (List DataRecord)) (run more : List DataRecord) →
    AreParted d (runs ++ run ∷ []) → AreParted d (runs ++ (run ++ more) ∷ [])
parted_longer d [] run more parted = tt
parted_longer d (p ∷ []) run more parted = (
  λ touching. parted.0 (touching_front d (p
      ++ run) more (subst (IsTouching d) (sym (append_assoc p run more)) touching)),
  tt,
)
parted_longer d (p ∷ q ∷ ps) run more parted =
    (parted.0, parted_longer d (q ∷ ps) run more parted.1)

parted_more : (d : ℕ) (runs : List (List DataRecord)) (run next : List DataRecord) →
    AreParted d (runs ++ run ∷ []) → ¬ IsTouching d (run ++ next)
    → AreParted d ((runs ++ run ∷ []) ++ next ∷ [])
parted_more d [] run next parted apart = (apart, tt)
parted_more d (p ∷ []) run next parted apart = (parted.0, (apart, tt))
parted_more d (p ∷ q ∷ ps) run next parted apart =
    (parted.0, parted_more d (q ∷ ps) run next parted.1 apart)

abbrev joined : List (List DataRecord) → List DataRecord
joined runs = flat_map (λ run. run) runs

pub joined_more : (runs : List (List DataRecord)) (run : List DataRecord) →
    joined (runs ++ run ∷ []) ≡ joined runs ++ run
joined_more runs run = flat_map-append (λ (x : List DataRecord). x) runs (run ∷ [])
    ∙ ap (λ (x : List DataRecord). joined runs ++ x) (append-nil run)

pub some_more : (run : List DataRecord) (r : DataRecord) → (run ++ r ∷ []) ≢ []
some_more [] r same = let none : ◌≡◌ {A = List DataRecord} (r ∷ []) [] = same in cc
some_more (x ∷ xs) r same = let none : ◌≡◌ {A = List DataRecord} (x ∷ (xs ++ r ∷ [])) [] = same in
    cc

pub first_run : (d : ℕ) (records : List DataRecord) (r : DataRecord) → IsRuns d records [] →
    IsRuns d (records ++ r ∷ []) ((r ∷ []) ∷ [])
first_run d records r is = record {
  joined = ap (λ (x : List DataRecord). x ++ r ∷ []) is.joined;
  none_empty = All-cons (λ run. run ≢ []) (r ∷ []) [] (some_more [] r) (All-nil (λ run. run ≢ []));
  touching = All-cons (IsTouching d) (r ∷ []) [] tt (All-nil (IsTouching d));
  parted = tt;
}

pub longer_run : (d : ℕ) (records : List DataRecord) (runs : List (List DataRecord))
    (run : List DataRecord) (r : DataRecord) → IsRuns d records (runs ++ run ∷ [])
    → IsTouching d (run ++ r ∷ []) → IsRuns d (records ++ r ∷ []) (runs ++ (run ++ r ∷ []) ∷ [])
longer_run d records runs run r is touching = record {
  joined = joined_more runs (run ++ r ∷ []) ∙ sym (append_assoc (joined runs) run (r ∷ []))
      ∙ ap (λ (x : List DataRecord). x ++ r ∷ []) (sym (joined_more runs run) ∙ is.joined);
  none_empty = All-push (λ x. x ≢ []) runs (run
      ++ r ∷ []) (all_front (λ x. x ≢ []) runs (run ∷ []) is.none_empty) (some_more run r);
  touching = All-push (IsTouching d) runs (run
      ++ r ∷ []) (all_front (IsTouching d) runs (run ∷ []) is.touching) touching;
  parted = parted_longer d runs run (r ∷ []) is.parted;
}

pub next_run : (d : ℕ) (records : List DataRecord) (runs : List (List DataRecord))
    (run : List DataRecord) (r : DataRecord) → IsRuns d records (runs ++ run ∷ [])
    → ¬ IsTouching d (run ++ r ∷ []) →
    IsRuns d (records ++ r ∷ []) ((runs ++ run ∷ []) ++ (r ∷ []) ∷ [])
next_run d records runs run r is apart = record {
  joined = joined_more (runs ++ run ∷ []) (r ∷ [])
      ∙ ap (λ (x : List DataRecord). x ++ r ∷ []) is.joined;
  none_empty = All-push (λ x. x ≢ []) (runs ++ run ∷ []) (r ∷ []) is.none_empty (some_more [] r);
  touching = All-push (IsTouching d) (runs ++ run ∷ []) (r ∷ []) is.touching tt;
  parted = parted_more d runs run (r ∷ []) is.parted apart;
}

-- ---- what is listed of them

pub last_end : (n d : ℕ) → 1 ≤ n → (n - 1) * d + d ≡ n * d
last_end zero d some = absurd (omega arith)
last_end (suc n) d some = let e : suc n - 1 ≡ n = omega arith in ap (λ m. m * d + d) e
    ∙ sym (suc-mul n d)

-- where the run ends
pub run_end : (d : ℕ) (records : List DataRecord) (run : Run) → IsListed d records run →
    run.last + d ≡ run.first + length records * d
run_end d records run is =
    let count : run.records * d ≡ length records * d = ap (λ n. n * d) is.count in
    omega (arith, is.last, last_end run.records d run.records_some, count)

pub listed_more : (d : ℕ) (records : List DataRecord) (run new : Run) (r : DataRecord) →
    IsListed d records run → r.start ≡ run.last + d → length records < MOST_RECORDS
    → new.first ≡ run.first → new.last ≡ r.start → new.records ≡ min (run.records + 1) MOST_RECORDS
    → new.block_samples ≡ max run.block_samples
    ((length (block_of (second_of run.first) r) + 1) / 2) → IsListed d (records ++ r ∷ []) new
listed_more d records run new r is next few first last count samples =
    let ends = run_end d records run is in
    let more : length (records ++ r ∷ []) ≡ length records + 1 = length-append records (r ∷ []) in
    let counted : new.records ≡ length records + 1 = omega (arith, count, is.count) in
    let before : (new.records - 1) * d ≡ length records * d =
    ap (λ n. n * d) (omega (arith, counted)) in
    let base : second_of new.first ≡ second_of run.first = ap second_of first in
    let here : (length (block_of (second_of run.first) r) + 1) / 2 ≤ new.block_samples =
    omega (arith, samples) in
    let fits : ℕ → ℕ → DataRecord → Type 0 = λ from n x. length (block_of from x) ≤ 2 * n in
    record {
      count = counted ∙ sym more;
      starts = subst (λ at. StartFrom d at (records ++ r ∷ [])) (sym first)
          (starts_more d run.first records r is.starts (omega (arith, next, ends)));
      last = omega (arith, last, next, ends, first, before);
      holds = subst (λ from. BlocksFit from new.block_samples (records ++ r ∷ [])) (sym base)
          (All-push (fits (second_of run.first) new.block_samples) records r
          (All-weaker (fits (second_of run.first) run.block_samples)
          (fits (second_of run.first) new.block_samples) (λ x h. omega (arith, h, samples))
          records is.holds)
          (samples_hold _ new.block_samples here));
      least = λ fewer hold.
          let held : BlocksFit (second_of run.first) fewer (records ++ r ∷ []) =
          subst (λ from. BlocksFit from fewer (records ++ r ∷ [])) base hold in
          let low = is.least fewer (all_front (fits (second_of run.first) fewer) records (r ∷ [])
          held) in
          let high = samples_least _ fewer (all_last (fits (second_of run.first) fewer) records r
          held) in
          omega (arith, samples, low, high);
    }

-- ---- lists of what is listed

-- the last of a list, and what is listed of it
pub record LastListed (d : ℕ) (runs : List (List DataRecord)) (before : List Run) (run : Run) : Type
    0 where
  pub front : List (List DataRecord)
  pub last : List DataRecord
  pub parts : runs ≡ front ++ last ∷ []
  pub each : AllZip (IsListed d) front before
  pub listed : IsListed d last run

pub last_listed : (d : ℕ) (runs : List (List DataRecord)) (before : List Run) (run : Run) →
    AllZip (IsListed d) runs (before ++ run ∷ []) → LastListed d runs before run
last_listed d [] [] run each = absurd each
last_listed d [] (x ∷ xs) run each = absurd each
last_listed d (r ∷ []) [] run each =
    record { front = []; last = r; parts = refl; each = tt; listed = each.0 }
last_listed d (r ∷ s ∷ rs) [] run each = absurd each.1
last_listed d (r ∷ rs) (x ∷ xs) run each =
    let later = last_listed d rs xs run each.1 in
    record {
      front = r ∷ later.front;
      last = later.last;
      parts =
          ap (λ (l : List (List DataRecord)). r ∷ l) later.parts;
      each = (each.0, later.each);
      listed = later.listed;
    }

pub none_listed : (d : ℕ) (runs : List (List DataRecord)) → AllZip (IsListed d) runs [] → runs ≡ []
none_listed d [] each = refl
none_listed d (r ∷ rs) each = absurd each

zip_more : (d : ℕ) (runs : List (List DataRecord)) (listed : List Run) (run : List DataRecord)
    (x : Run) → AllZip (IsListed d) runs listed → IsListed d run x
    → AllZip (IsListed d) (runs ++ run ∷ []) (listed ++ x ∷ [])
zip_more d [] [] run x each is = (is, tt)
zip_more d [] (y ∷ ys) run x each is = absurd each
zip_more d (r ∷ rs) [] run x each is = absurd each
zip_more d (r ∷ rs) (y ∷ ys) run x each is = (each.0, zip_more d rs ys run x each.1 is)

pub few_in : (d : ℕ) (records : List DataRecord) (runs : List (List DataRecord))
    (run : List DataRecord) → IsRuns d records (runs ++ run ∷ []) → length run ≤ length records
few_in d records runs run is =
    let all : length (joined runs ++ run) ≡ length records =
    ap (λ (x : List DataRecord). length x) (sym (joined_more runs run) ∙ is.joined) in
    omega (arith, all, length-append (joined runs) run)

pub first_listed : (d : ℕ) (records : List DataRecord) (r : DataRecord) (run : Run) →
    IsListed d (r ∷ []) run → AreListed d records [] → AreListed d (records ++ r ∷ []) (run ∷ [])
first_listed d records r run one are = record {
  runs = (r ∷ []) ∷ [];
  are_runs = first_run d records r (subst (IsRuns d records) (none_listed d are.runs are.each)
      are.are_runs);
  each = (one, tt);
}

pub longer_listed : (d : ℕ) (records : List DataRecord) (before : List Run) (run new : Run)
    (r : DataRecord) → AreListed d records (before ++ run ∷ []) → r.start ≡ run.last + d
    → ((rs : List DataRecord) → IsListed d rs run → length rs ≤ length records →
    IsListed d (rs ++ r ∷ []) new) → AreListed d (records ++ r ∷ []) (before ++ new ∷ [])
longer_listed d records before run new r are next more =
    let l = last_listed d are.runs before run are.each in
    let ends = run_end d l.last run l.listed in
    let runs : IsRuns d records (l.front ++ l.last ∷ []) =
    subst (IsRuns d records) l.parts are.are_runs in
    let touching : IsTouching d (l.last ++ r ∷ []) =
    touching_from d run.first (l.last ++ r ∷ [])
    (starts_more d run.first l.last r l.listed.starts (omega (arith, next, ends))) in
    record {
      runs = l.front ++ (l.last ++ r ∷ []) ∷ [];
      are_runs = longer_run d records l.front l.last r runs touching;
      each = zip_more d l.front before (l.last ++ r ∷ []) new l.each
          (more l.last l.listed (few_in d records l.front l.last runs));
    }

pub parts_touch : (d : ℕ) (rs : List DataRecord) (run : Run) (r : DataRecord) → IsListed d rs run →
    IsTouching d (rs ++ r ∷ []) → r.start ≡ run.last + d
parts_touch d [] run r is touching = absurd (omega (arith, is.count, run.records_some))
parts_touch d (x ∷ xs) run r is touching =
    let from : StartFrom d run.first (x ∷ (xs ++ r ∷ [])) =
    from_touching d run.first x (xs ++ r ∷ []) is.starts.0 touching in
    let at = last_start d run.first (x ∷ xs) r from in
    omega (arith, at, run_end d (x ∷ xs) run is)

pub next_listed : (d : ℕ) (records : List DataRecord) (before : List Run) (run new : Run)
    (r : DataRecord) → AreListed d records (before ++ run ∷ []) → (r.start ≡ run.last + d → ⊥)
    → IsListed d (r ∷ []) new → AreListed d (records ++ r ∷ []) ((before ++ run ∷ []) ++ new ∷ [])
next_listed d records before run new r are apart one =
    let l = last_listed d are.runs before run are.each in
    let runs : IsRuns d records (l.front ++ l.last ∷ []) =
    subst (IsRuns d records) l.parts are.are_runs in
    record {
      runs = (l.front ++ l.last ∷ []) ++ (r ∷ []) ∷ [];
      are_runs = next_run d records l.front l.last r runs
          (λ touching. apart (parts_touch d l.last run r l.listed touching));
      each = zip_more d (l.front ++ l.last ∷ []) (before
          ++ run ∷ []) (r ∷ []) new (zip_more d l.front before l.last run l.each l.listed) one;
    }

-- before the first
pub nothing_listed : (d : ℕ) → AreListed d [] []
nothing_listed d = record {
  runs = [];
  are_runs = record {
    joined = refl;
    none_empty = All-nil (λ run. run ≢ []);
    touching =
        All-nil (IsTouching d);
    parted = tt;
  };
  each = tt;
}
