-- The runs of data records are those that they have without their samples.
use Rattle.std.proofs.Common.{◌≡◌, ◌≢◌, ℕ, suc, ◌+◌, ◌*◌, ◌≤◌, length, List, [], ◌∷◌, ◌++◌, map}
use Rattle.std.proofs.Common.{refl, sym}
use Rattle.std.proofs.Common.{ap}
use Rattle.std.proofs.Common.{◌∙◌, subst, All}
use Rattle.std.specs.List.{AllZip, flat_map}
use Rattle.std.proofs.lemmas.List.{map-append}
use Rattle.std.proofs.lemmas.List.Elements.{All-nil, All-cons, All-head, All-tail}
use Rattle.edf_fragment.specs.Fragment.{DataRecord}
use Rattle.edf_canonical.specs.File.{second_of, block_of, BlocksFit}
use Rattle.edf_runs.specs.Runs.{StartFrom, IsTouching, AreParted, IsListed, AreListed}
use Rattle.edf_runs.specs.declared.run.Run.{Run}

-- a data record without its samples
abbrev pub without_samples : DataRecord → DataRecord
without_samples r = record { start = r.start; samples = []; annotations = r.annotations }

with-samples : (base n : ℕ) (rs : List DataRecord) → BlocksFit base n (map without_samples rs) →
    BlocksFit base n rs
with-samples base n [] fits = All-nil (λ r. length (block_of base r) ≤ 2 * n)
with-samples base n (r ∷ rs) fits =
    let fit : DataRecord → Type 0 = λ x. length (block_of base x) ≤ 2 * n in
    All-cons fit r rs (All-head fit (without_samples r) (map without_samples rs) fits)
    (with-samples base n rs (All-tail fit (without_samples r) (map without_samples rs) fits))

samples-off : (base n : ℕ) (rs : List DataRecord) → BlocksFit base n rs →
    BlocksFit base n (map without_samples rs)
samples-off base n [] fits = All-nil (λ r. length (block_of base r) ≤ 2 * n)
samples-off base n (r ∷ rs) fits =
    let fit : DataRecord → Type 0 = λ x. length (block_of base x) ≤ 2 * n in
    All-cons fit (without_samples r) (map without_samples rs) (All-head fit r rs fits)
    (samples-off base n rs (All-tail fit r rs fits))

pub as-many : (rs : List DataRecord) → length (map without_samples rs) ≡ length rs
as-many [] = refl
as-many (r ∷ rs) = ap suc (as-many rs)

abbrev bare : List DataRecord → List DataRecord
bare records = map without_samples records

record IsSplit (xs ys records : List DataRecord) : Type 0 where
  front : List DataRecord
  back : List DataRecord
  parts : records ≡ front ++ back
  front_is : bare front ≡ xs
  back_is : bare back ≡ ys

split : (xs ys records : List DataRecord) → bare records ≡ xs ++ ys → IsSplit xs ys records
split [] ys records is = record {
  front = [];
  back = records;
  parts = refl;
  front_is = refl;
  back_is = is;
}
split (x ∷ xs) ys [] is = cc
split (x ∷ xs) ys (r ∷ rs) is =
    let head : without_samples r ≡ x = cc in
    let rest : bare rs ≡ xs ++ ys = cc in
    let more = split xs ys rs rest in
    record {
      front = r ∷ more.front;
      back = more.back;
      parts = ap (λ (l : List DataRecord). r ∷ l) more.parts;
      front_is = ap (λ (l : List DataRecord). without_samples r ∷ l) more.front_is
          ∙ ap (λ (y : DataRecord). y ∷ xs) head;
      back_is = more.back_is;
    }

abbrev IsBareOf : List DataRecord → List DataRecord → Type 0
IsBareOf run other = bare run ≡ other

record Regrouped (others : List (List DataRecord)) (records : List DataRecord) : Type 0 where
  runs : List (List DataRecord)
  joined : flat_map (λ (run : List DataRecord). run) runs ≡ records
  each : AllZip IsBareOf runs others

none-bare : (records : List DataRecord) → bare records ≡ [] → records ≡ []
none-bare [] is = refl
none-bare (r ∷ rs) is = cc

regroup : (others : List (List DataRecord)) (records : List DataRecord) →
    flat_map (λ (run : List DataRecord). run) others ≡ bare records → Regrouped others records
regroup [] records is =
    record { runs = []; joined = sym (none-bare records (sym is)); each = tt }
regroup (other ∷ others) records is =
    let here = split other (flat_map (λ (run : List DataRecord). run) others) records (sym is) in
    let more = regroup others here.back (sym here.back_is) in
    record {
      runs = here.front ∷ more.runs;
      joined = ap (λ (l : List DataRecord). here.front ++ l) more.joined ∙ sym here.parts;
      each = (here.front_is, more.each);
    }

-- ---- what is known of each

start-bare : (d instant : ℕ) (rs : List DataRecord) → StartFrom d instant (bare rs) →
    StartFrom d instant rs
start-bare d instant [] starts = tt
start-bare d instant (r ∷ rs) starts = (starts.0, start-bare d (instant + d) rs starts.1)

bare-start : (d instant : ℕ) (rs : List DataRecord) → StartFrom d instant rs →
    StartFrom d instant (bare rs)
bare-start d instant [] starts = tt
bare-start d instant (r ∷ rs) starts = (starts.0, bare-start d (instant + d) rs starts.1)

touch-bare : (d : ℕ) (rs : List DataRecord) → IsTouching d (bare rs) → IsTouching d rs
touch-bare d [] touching = tt
touch-bare d (r ∷ rs) touching = start-bare d (r.start + d) rs touching

bare-touch : (d : ℕ) (rs : List DataRecord) → IsTouching d rs → IsTouching d (bare rs)
bare-touch d [] touching = tt
bare-touch d (r ∷ rs) touching = bare-start d (r.start + d) rs touching

some-bare : (runs others : List (List DataRecord)) → AllZip IsBareOf runs others →
    All (λ (run : List DataRecord). run ≢ []) others →
    All (λ (run : List DataRecord). run ≢ []) runs
some-bare [] [] each some = All-nil (λ (run : List DataRecord). run ≢ [])
some-bare [] (o ∷ os) each some = absurd each
some-bare (x ∷ xs) [] each some = absurd each
some-bare (x ∷ xs) (o ∷ os) each some = All-cons (λ (run : List DataRecord). run ≢ []) x xs
    (λ none. All-head (λ (run : List DataRecord). run ≢ []) o os some
    (sym each.0 ∙ ap bare none))
    (some-bare xs os each.1 (All-tail (λ (run : List DataRecord). run ≢ []) o os some))

all-touch : (d : ℕ) (runs others : List (List DataRecord)) → AllZip IsBareOf runs others →
    All (IsTouching d) others → All (IsTouching d) runs
all-touch d [] [] each touching = All-nil (IsTouching d)
all-touch d [] (o ∷ os) each touching = absurd each
all-touch d (x ∷ xs) [] each touching = absurd each
all-touch d (x ∷ xs) (o ∷ os) each touching = All-cons (IsTouching d) x xs
    (touch-bare d x (subst (IsTouching d) (sym each.0) (All-head (IsTouching d) o os touching)))
    (all-touch d xs os each.1 (All-tail (IsTouching d) o os touching))

all-parted : (d : ℕ) (runs others : List (List DataRecord)) → AllZip IsBareOf runs others →
    AreParted d others → AreParted d runs
all-parted d [] [] each parted = tt
all-parted d [] (o ∷ os) each parted = absurd each
all-parted d (x ∷ xs) [] each parted = absurd each
all-parted d (x ∷ []) (o ∷ []) each parted = tt
all-parted d (x ∷ []) (o ∷ p ∷ os) each parted = absurd each.1
all-parted d (x ∷ y ∷ xs) (o ∷ []) each parted = absurd each.1
all-parted d (x ∷ y ∷ xs) (o ∷ p ∷ os) each parted = (
  λ touching. parted.0 (subst (IsTouching d) (map-append without_samples x y
      ∙ ap (λ (l : List DataRecord). l ++ bare y) each.0
      ∙ ap (λ (l : List DataRecord). o ++ l) each.1.0) (bare-touch d (x ++ y) touching)),
  all-parted d (y ∷ xs) (p ∷ os) each.1 parted.1,
)

listed-bare : (d : ℕ) (rs : List DataRecord) (run : Run) → IsListed d (bare rs) run →
    IsListed d rs run
listed-bare d rs run is = record {
  count = is.count ∙ as-many rs;
  starts = start-bare d run.first rs is.starts;
  last = is.last;
  holds = with-samples (second_of run.first) run.block_samples rs is.holds;
  least = λ fewer holds. is.least fewer (samples-off (second_of run.first) fewer rs holds);
}

all-listed : (d : ℕ) (runs others : List (List DataRecord)) (listed : List Run) →
    AllZip IsBareOf runs others → AllZip (IsListed d) others listed →
    AllZip (IsListed d) runs listed
all-listed d [] [] [] each are = tt
all-listed d [] [] (l ∷ ls) each are = absurd are
all-listed d [] (o ∷ os) listed each are = absurd each
all-listed d (x ∷ xs) [] listed each are = absurd each
all-listed d (x ∷ xs) (o ∷ os) [] each are = absurd are
all-listed d (x ∷ xs) (o ∷ os) (l ∷ ls) each are = (
  listed-bare d x l (subst (λ (rs : List DataRecord). IsListed d rs l) (sym each.0) are.0),
  all-listed d xs os ls each.1 are.1,
)

pub bare-listed : (d : ℕ) (records : List DataRecord) (listed : List Run) →
    AreListed d (bare records) listed → AreListed d records listed
bare-listed d records listed are =
    let g = regroup are.runs records are.are_runs.joined in
    record {
      runs = g.runs;
      are_runs = record {
        joined = g.joined;
        none_empty = some-bare g.runs are.runs g.each are.are_runs.none_empty;
        touching = all-touch d g.runs are.runs g.each are.are_runs.touching;
        parted = all-parted d g.runs are.runs g.each are.are_runs.parted;
      };
      each = all-listed d g.runs are.runs listed g.each are.each;
    }
