-- The answer of the check of all rows.
use Rattle.std.proofs.Common.{append_assoc, drop, ap₂, is_lt, int_cmp, Ordering, Less, Equal}
use Rattle.std.proofs.Common.{Greater, None, IsSorted, ◌≡◌, ◌≢◌, ◌⊎◌, inl, inr, ℕ, ◌+◌, ◌<◌, ◌≤◌, ℤ}
use Rattle.std.proofs.Common.{Bool, true, false, min, nat_eq, List, [], ◌∷◌, filter, length, take}
use Rattle.std.proofs.Common.{get_or, Option, Some, Contains, All, IsTrue, ◌++◌, IsPermutation}
use Rattle.std.proofs.Common.{refl, sym, ap, subst, ◌∙◌, arith, is_eq, true≢false}
use Rattle.std.specs.List.{AllByRecursion, list_any}
use Rattle.std.proofs.lemmas.Bool.Decides.{nat_tests}
use Rattle.std.proofs.lemmas.List.{take_more, take-append-drop}
use Rattle.std.proofs.lemmas.List.Elements.{All-from_recursion}
use Rattle.std.proofs.lemmas.List.Sorted.{IsPermutation-append_comm, IsPermutation-trans}
use Rattle.std.proofs.lemmas.List.Sorted.{IsPermutation-sym, Contains-permutation}
use Rattle.std.specs.Ordering.{ordering_reverse}
use Rattle.std.proofs.lemmas.Cmp.{int_ranked, int_cmp_total}
use Rattle.sqlite.specs.declared.types.Value.TheVariants.{Int}
use Rattle.sqlite_value.proofs.OrderLemmas.{value_cmp-Int}
use Rattle.edf_tables.specs.Columns.{by_column}
use Rattle.edf_tables.proofs.Sorting.{sorted_neighbours}
use Rattle.sqlite.specs.Order.{Row}
use Rattle.sqlite.specs.Tree.{Trees}
use Rattle.sqlite.specs.Effect.{Database, IsDatabase}
use Rattle.sqlite.specs.State.{State, IsUnchanged}
use Rattle.sqlite_value.specs.Order.{column, value_cmp}
use Rattle.sqlite_schema.specs.Rules.{Obeys}
use Rattle.sqlite_trees.proofs.ListLemmas.{all-permutation}
use Rattle.edf_tables.specs.declared.row.TheConstants.{MOST_COUNTED}
use Rattle.edf_tables.specs.Schema.{Others, schema_with, HasBoth}
use Rattle.edf_tables.proofs.Keeping.{same_left, same_keeps, keeps_then}
use Rattle.edf_rows.specs.Cells.{recording_cells, recordings_in}
use Rattle.edf_rows.specs.Rows.{BelongsToRecording, AreTwoOf, DifferInIdAndKey}
use Rattle.edf_rows.specs.Foreign.{IsForeign, without_recording, twice}
use Rattle.edf_rows.specs.Inside.Shape.{HasRecords}
use Rattle.edf_rows.proofs.Rows.{here, there, cases_first, no_member}
use Rattle.edf_rows.proofs.Kept.{held_of, are-kept}
use Rattle.edf_rows.specs.Inside.All.{IsAfter, IsNotAfter, owns, AreCounted, Answers}
use Rattle.edf_rows.specs.Inside.Checked.{KeepsRows, ChecksRow}
use Rattle.edf_rows.proofs.Counts.{IsUpTo, IsLastOf, is_id, counted_push, up_push}
use Rattle.edf_rows.proofs.Apart.{other_ids, other_identities}

pub rows_same : (a : State) → KeepsRows a a
rows_same a = record { now_is = refl; commit = same_keeps a; mode = refl; stays = λ h. h }

pub rows_left : (a b : State) → IsUnchanged a b → KeepsRows a b
rows_left a b h = record {
  now_is = h.0.now_is;
  commit = same_left a b h;
  mode = h.0.mode;
  stays =
      λ _. h.0.is_open;
}

pub rows_then : (a b c : State) → KeepsRows a b → KeepsRows b c → KeepsRows a c
rows_then a b c p q = record {
  now_is = q.now_is ∙ p.now_is;
  commit =
      keeps_then a b c p.commit q.commit;
  mode = q.mode ∙ p.mode;
  stays = λ h. q.stays (p.stays h);
}

-- ---- the records that are owned
pub any_here : (rows : List Row) (g r : Row) → Contains rows g → owns g r ≡ true →
    list_any (λ g. owns g r) rows ≡ true
any_here [] g r c h = absurd (no_member g c)
any_here (x ∷ rows) g r c h = go (owns x r) refl (cases_first x g rows c) (any_here rows g r)
  where
    go : (b : Bool) → owns x r ≡ b → (x ≡ g) ⊎ Contains rows g →
        (Contains rows g → owns g r ≡ true → list_any (λ g. owns g r) rows ≡ true) →
        list_any (λ g. owns g r) (x ∷ rows) ≡ true
    go true e d more = rw e refl
    go false e (inl s) more = absurd (true≢false (sym h ∙ ap (λ y. owns y r) (sym s) ∙ e))
    go false e (inr c) more = rw e (more c h)

owner : (cap : ℕ) (trees : Trees) (rows : List Row) (r : Row) →
    AllByRecursion (HasRecords cap trees) rows → list_any (λ g. owns g r) rows ≡ true → (g : Row)
    × HasRecords cap trees g × Contains rows g × (owns g r ≡ true)
owner cap trees [] r has h = absurd (true≢false (sym h))
owner cap trees (x ∷ rows) r has h = go (owns x r) refl (owner cap trees rows r has.1)
  where
    go : (b : Bool) → owns x r ≡ b → (list_any (λ g. owns g r) rows ≡ true → (g : Row)
        × HasRecords cap trees g × Contains rows g × (owns g r ≡ true))
        → (g : Row) × HasRecords cap trees g × Contains (x ∷ rows) g × (owns g r ≡ true)
    go true e more = (x, has.0, here x rows, e)
    go false e more = let it = more (rw e at h) in (it.0, it.1, there x it.0 rows it.2, it.3)

pub shorter : (p : Row → Bool) (xs : List Row) → length (filter p xs) ≤ length xs
shorter p [] = omega arith
shorter p (x ∷ xs) = go (p x) refl (shorter p xs)
  where
    go : (a : Bool) → p x ≡ a → length (filter p xs) ≤ length xs →
        length (filter p (x ∷ xs)) ≤ length (x ∷ xs)
    go true e more = rw e (omega (arith, more))
    go false e more = rw e (omega (arith, more))

all_full : (p : Row → Bool) (xs : List Row) → length (filter p xs) ≡ length xs →
    AllByRecursion (λ x. p x ≡ true) xs
all_full p [] same = tt
all_full p (x ∷ xs) same = go (p x) refl (all_full p xs) (shorter p xs)
  where
    go : (a : Bool) → p x ≡ a → (length (filter p xs) ≡ length xs →
        AllByRecursion (λ x. p x ≡ true) xs) → length (filter p xs) ≤ length xs →
        AllByRecursion (λ x. p x ≡ true) (x ∷ xs)
    go true e more less = let s : length (x ∷ filter p xs) ≡ length (x ∷ xs) = rw e at same in
        (e, more (omega (arith, s)))
    go false e more less = absurd (let s : length (filter p xs) ≡ length (x ∷ xs) = rw e at same in
        omega (arith, s, less))

one_missing : (p : Row → Bool) (xs : List Row) → length (filter p xs) ≢ length xs → (x : Row)
    × Contains xs x × (p x ≡ false)
one_missing p [] other = absurd (other refl)
one_missing p (x ∷ xs) other = go (p x) refl (one_missing p xs)
  where
    go : (a : Bool) → p x ≡ a → (length (filter p xs) ≢ length xs → (x : Row) × Contains xs x
        × (p x ≡ false)) → (y : Row) × Contains (x ∷ xs) y × (p y ≡ false)
    go false e more = (x, here x xs, e)
    go true e more =
        let it = more (λ s. other (rw e (omega (arith, s)))) in
        (it.0, there x it.0 xs it.1, it.2)

-- a record that one of the recordings owns
pub owned_by_one : (cap : ℕ) (trees : Trees) (rows : List Row) (r : Row) →
    IsPermutation (recordings_in trees) rows → AllByRecursion (HasRecords cap trees) rows →
    list_any (λ g. owns g r) rows ≡ true → BelongsToRecording trees r
owned_by_one cap trees rows r same all h =
    let it = owner cap trees rows r all h in
    let has = it.1 in
    let id : column it.0 0 ≡ Rattle.sqlite.specs.declared.types.Value.TheVariants.Int has.id =
    ap (λ (r : Row). column r 0) has.cells in
    let c : Contains (recordings_in trees) it.0 =
    Contains-permutation rows (recordings_in trees) it.0 (IsPermutation-sym _ _ same) it.2 in
    record {
      id = has.id;
      key = has.key;
      there = record { row = subst (Contains (recordings_in trees)) has.cells c; key = has.is_key };
      owned = subst (λ v. IsTrue (is_eq (value_cmp (column r 1) v))) id it.3;
    }

module _ (cap : ℕ) (trees : Trees) (rows : List Row) (sum : ℕ)
    (same : IsPermutation (recordings_in trees) rows) (counted : AreCounted cap trees rows sum)
  where
    all_owned : (rs : List Row) → AllByRecursion (λ r. list_any (λ g. owns g r) rows ≡ true) rs →
        AllByRecursion (BelongsToRecording trees) rs
    all_owned [] all = tt
    all_owned (r ∷ rs) all = (
      owned_by_one cap trees rows r same counted.has all.0,
      all_owned rs all.1,
    )

    kept : (o : Others) → Obeys (schema_with o) trees → sum ≡ length (trees 2) →
        Answers cap trees true
    kept o obeys full =
        let has : AllByRecursion (HasRecords cap trees) (recordings_in trees) =
        all-permutation (HasRecords cap trees) rows (recordings_in trees)
        (IsPermutation-sym _ _ same) counted.has in
        let ids : (a b : Row) → AreTwoOf (recordings_in trees) a b → column a 0 ≢ column b 0 =
        λ a b two. other_ids rows a b counted.apart (
          two.0,
          IsPermutation-trans _ _ _ (IsPermutation-sym _ _ same) two.1,
        ) in
        let first : (a b : Row) → AreTwoOf (recordings_in trees) a b →
        Contains (recordings_in trees) a = λ a b two.
        Contains-permutation _ _ a (IsPermutation-sym _ _ two.1) (here a (b ∷ two.0)) in
        let second : (a b : Row) → AreTwoOf (recordings_in trees) a b →
        Contains (recordings_in trees) b = λ a b two.
        Contains-permutation _ _ b (IsPermutation-sym _ _ two.1)
        (there a b (b ∷ two.0) (here b two.0)) in
        let apart : (a b : Row) → AreTwoOf (recordings_in trees) a b → DifferInIdAndKey a b =
        λ a b two. record {
          id = ids a b two;
          identity =
              other_identities cap trees o obeys has a b (first a b two) (second a b two)
              (ids a b two);
        } in
        let owners : All (BelongsToRecording trees) (trees 2) =
        All-from_recursion (BelongsToRecording trees) (trees 2)
        (all_owned (trees 2) (all_full (λ r. list_any (λ g. owns g r) rows) (trees 2)
        (sym counted.sums ∙ full))) in
        (held_of cap trees (recordings_in trees) has, are-kept cap trees has apart owners)

    foreign : sum ≢ length (trees 2) → IsForeign cap trees
    foreign other =
        let it = one_missing (λ r. list_any (λ g. owns g r) rows) (trees 2)
        (λ s. other (counted.sums ∙ s)) in
        without_recording it.0 it.1 (λ id k is own.
        true≢false (sym (any_here rows (recording_cells id k) it.0
        (Contains-permutation (recordings_in trees) rows (recording_cells id k) same is.row) own)
        ∙ it.2))

    pub answered : (b : Bool) (all : ℕ) (o : Others) → Obeys (schema_with o) trees →
        sum < MOST_COUNTED → all ≡ min (length (trees 2)) MOST_COUNTED →
        b ≡ nat_eq sum all → Answers cap trees b
    answered true all o obeys low is e =
        kept o obeys (let h : nat_eq sum all ≡ true = sym e in grind (arith, nat_tests, low, is))
    answered false all o obeys low is e =
        foreign (λ s. absurd (let h : nat_eq sum all ≡ false = sym e in
        grind (arith, nat_tests, low, is, s)))

pub row_in : (listed rows : List Row) (i : ℕ) (row : Row) → IsPermutation listed rows →
    i < length rows → row ≡ get_or rows i row → Contains listed row
row_in listed rows i row same low is =
    Contains-permutation rows listed row (IsPermutation-sym _ _ same) (i, low, sym is)

pub told_all : (cap : ℕ) (old mid was now : Database) (rows : List Row) (sum all : ℕ) (b : Bool) →
    mid ≡ old → was ≡ old → now ≡ old → HasBoth old.schema →
    IsPermutation (recordings_in old.trees) rows
    → AreCounted cap mid.trees rows sum → IsDatabase now → sum < MOST_COUNTED →
    all ≡ min (length (was.trees 2)) MOST_COUNTED → b ≡ nat_eq sum all → Answers cap old.trees b
told_all cap old mid was now rows sum all b m w n has same counted live low is e =
    let obeys : Obeys old.schema old.trees =
    subst (λ (d : Database). Obeys d.schema d.trees) n live.obeys in
    answered cap old.trees rows sum same
    (subst (λ (d : Database). AreCounted cap d.trees rows sum) m counted) b all has.others
    (subst (λ s. Obeys s old.trees) has.is obeys) low
    (is ∙ ap (λ (d : Database). min (length (d.trees 2)) MOST_COUNTED) w) e

given_two_in : (trees : Trees) (rows front tail : List Row) (a b : Row) →
    IsPermutation (recordings_in trees) (front ++ a ∷ b ∷ tail) → AreTwoOf (recordings_in trees) a b
given_two_in trees rows front tail a b same =
    (tail ++ front, IsPermutation-trans _ _ _ same (IsPermutation-append_comm front (a ∷ b ∷ tail)))

-- ---- one row more
more_rows : (rows : List Row) (i : ℕ) (row : Row) → i < length rows → row ≡ get_or rows i row →
    take i rows ++ row ∷ [] ≡ take (i + 1) rows
more_rows rows i row low is = ap (λ (r : Row). take i rows ++ r ∷ []) is
    ∙ sym (take_more rows i row low)

pub up_more : (rows : List Row) (i : ℕ) (row : Row) (last : Option ℤ) (id : ℤ) → i < length rows →
    row ≡ get_or rows i row → AllByRecursion (IsUpTo last) (take i rows) → IsAfter last row id →
    AllByRecursion (IsUpTo (Some id)) (take (i + 1) rows)
up_more rows i row last id low is up after =
    subst (AllByRecursion (IsUpTo (Some id))) (more_rows rows i row low is)
    (up_push last id row (take i rows) up after)

pub last_more : (rows : List Row) (i : ℕ) (row : Row) (last : Option ℤ) (id : ℤ) → i < length rows →
    row ≡ get_or rows i row → IsAfter last row id → IsLastOf (Some id) (take (i + 1) rows)
last_more rows i row last id low is after =
    (take i rows, row, sym (more_rows rows i row low is), is_id last id row after)

-- an id that does not come after the last one, where the rows are in order, occurs twice
pub id_twice : (cap : ℕ) (trees : Trees) (rows : List Row) (i : ℕ) (row : Row) (last : Option ℤ)
    (id : ℤ) → IsPermutation (recordings_in trees) rows → IsSorted (by_column 0) rows →
    i < length rows → row ≡ get_or rows i row
    → IsLastOf last (take i rows) → column row 0 ≡ Int id → IsNotAfter last row →
    IsForeign cap trees
id_twice cap trees rows i row None id same sorted low is met at none = absurd (none id at)
id_twice cap trees rows i row (Some last) id same sorted low is met at none =
    let front = met.0 in
    let other = met.1 in
    let all : rows ≡ front ++ other ∷ row ∷ drop (i + 1) rows =
    sym (take-append-drop (i + 1) rows)
    ∙ ap (λ l. l ++ drop (i + 1) rows) (sym (more_rows rows i row low is)
    ∙ ap (λ l. l ++ row ∷ []) met.2)
    ∙ append_assoc (front ++ other ∷ []) (row ∷ []) (drop (i + 1) rows)
    ∙ append_assoc front (other ∷ []) (row ∷ drop (i + 1) rows) in
    let apart : is_lt (value_cmp (column row 0) (column other 0)) ≡ false =
    sorted_neighbours (by_column 0) front (drop (i + 1) rows) other row
    (subst (IsSorted (by_column 0)) all sorted) in
    let numbers : is_lt (int_cmp id last) ≡ false =
    sym (ap is_lt (ap₂ value_cmp at met.3 ∙ value_cmp-Int id last)) ∙ apart in
    let tied : int_cmp id last ≡ Equal = go (int_cmp id last) refl numbers in
    let ids : id ≡ last = int_ranked id last Equal (sym tied) in
    twice other row (given_two_in trees rows front (drop (i + 1) rows) other row
    (subst (IsPermutation (recordings_in trees)) all same))
    (inl (met.3 ∙ ap Int (sym ids) ∙ sym at))
  where
    go : (o : Ordering) → int_cmp id last ≡ o → is_lt (int_cmp id last) ≡ false →
        int_cmp id last ≡ Equal
    go Less e h = absurd (true≢false (sym (ap is_lt e) ∙ h))
    go Equal e h = e
    go Greater e h = absurd (none id (at, int_cmp_total.antisymm last id ∙ ap ordering_reverse e))

pub counted_more : (cap : ℕ) (old was : Database) (rows : List Row) (i : ℕ) (row : Row)
    (sum count more : ℕ) (last : Option ℤ) (id : ℤ) → was ≡ old →
    IsPermutation (recordings_in old.trees) rows → i < length rows → row ≡ get_or rows i row →
    more ≡ count
    → AreCounted cap old.trees (take i rows) sum → AllByRecursion (IsUpTo last) (take i rows) →
    IsAfter last row id → ChecksRow cap was.trees row (Some count) →
    AreCounted cap old.trees (take (i + 1) rows) (sum + more)
counted_more cap old was rows i row sum count more last id same listed low is size counted up after
    told =
    let has = subst (λ (d : Database). ChecksRow cap d.trees row (Some count)) same told
    (row_in (recordings_in old.trees) rows i row listed low is) in
    subst (λ n. AreCounted cap old.trees (take (i + 1) rows) (sum + n)) (sym size)
    (subst (λ l. AreCounted cap old.trees l (sum + count)) (more_rows rows i row low is)
    (counted_push cap old.trees (take i rows) row sum count last id counted up after has))
