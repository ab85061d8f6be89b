-- The identities and the summary that are read off the rows.
use Rattle.std.proofs.Common.{◌≡◌, ◌≢◌, ℕ, ℤ, pos, ◌⊎◌, inl, inr, false, List, [], ◌∷◌, map}
use Rattle.std.proofs.Common.{Contains, IsPermutation, refl, sym, ap, subst, ◌∙◌, slice_get, Option}
use Rattle.std.proofs.Common.{Some, None, is_gt, Ordering, Less, Equal, Greater, true≢false}
use Rattle.std.specs.Option.{option_map}
use Rattle.std.specs.List.{AllByRecursion}
use Rattle.std.specs.List.Sorted.{IsStrictlySortedBy}
use Rattle.std.proofs.lemmas.List.Elements.{recursion_from_All, All-contains}
use Rattle.std.proofs.lemmas.List.Sorted.{IsPermutation-map, IsPermutation-sym}
use Rattle.std.proofs.lemmas.Map.Lookups.{exact_bytes}
use Rattle.sqlite_value.specs.declared.value.Value.{Value}
use Rattle.sqlite_value.specs.declared.value.Value.TheVariants.{Int, Blob}
use Rattle.sqlite_value.specs.Order.{Row, column, value_cmp}
use Rattle.sqlite_value.proofs.OrderLemmas.{value_cmp-Blob}
use Rattle.sqlite_trees.specs.Tree.{Trees, IsAscending}
use Rattle.sqlite_trees.proofs.ListLemmas.{all-permutation}
use Rattle.sqlite_keyed.proofs.ListLemmas.{all_unmap, ascending-map, ascending_from_map}
use Rattle.sqlite_keyed.proofs.ListLemmas.{ascending_weaker}
use Rattle.sqlite_keyed.proofs.SortLemmas.{IsPermutation-sort_by}
use Rattle.edf_header.specs.Key.{Key, IsKey, key_bytes}
use Rattle.edf_fragment.specs.Fragment.{DataRecord}
use Rattle.edf_holdings.specs.Holdings.{Holdings}
use Rattle.edf_holdings.specs.Keys.{key_cmp, AreKeysOf}
use Rattle.edf_tables.specs.Columns.{by_column}
use Rattle.edf_tables.specs.Recordings.{by_identity}
use Rattle.edf_tables.proofs.Answers.{column_total}
use Rattle.edf_tables.proofs.Sorting.{rising_sort}
use Rattle.edf_rows.specs.Cells.{record_cells, recording_cells, recordings_in}
use Rattle.edf_rows.specs.Rows.{HasRecordingRow, IsRecordingRow, DifferInIdAndKey, Represent}
use Rattle.edf_rows.specs.Rows.{RepresentCommitted}
use Rattle.edf_rows.proofs.Rows.{here, there, cases_first, no_member, same-keys, finds, Finds}
use Rattle.edf_store.proofs.StoredRows.{Show, start_cell}
use Rattle.edf_store.proofs.Found.{pairs_of, pairs_along, member_along, shown}
use Rattle.edf_rows.proofs.RowCells.{blob-bytes, int-number}

-- ---- the identities differ, so sorted they rise
asc_all : (P : Row → Type 0) (R S T : Row → Row → Type 0) →
    ((a b : Row) → P a → P b → R a b → S a b → T a b) → (xs : List Row) → AllByRecursion P xs →
    IsAscending R xs → IsAscending S xs → IsAscending T xs
asc_all P R S T make [] all r s = tt
asc_all P R S T make (x ∷ xs) all r s =
    (both xs all.1 r.0 s.0, asc_all P R S T make xs all.1 r.1 s.1)
  where
    both : (ys : List Row) → AllByRecursion P ys → AllByRecursion (R x) ys →
        AllByRecursion (S x) ys → AllByRecursion (T x) ys
    both [] p q u = tt
    both (y ∷ ys) p q u = (make x y all.0 p.0 q.0 u.0, both ys p.1 q.1 u.1)

abbrev AtMost : Row → Row → Type 0
AtMost a b = is_gt (by_column 2 a b) ≡ false

abbrev Differ : Row → Row → Type 0
Differ a b = DifferInIdAndKey (shown a) (shown b)

below_of : (a b : Row) → IsRecordingRow (shown a) → IsRecordingRow (shown b) → AtMost a b →
    Differ a b → by_column 2 a b ≡ Less
below_of a b p q most other = go (by_column 2 a b) refl most
  where
    left : column a 2 ≡ Blob (key_bytes p.key)
    left = ap (λ (r : Row). column r 1) p.cells

    right : column b 2 ≡ Blob (key_bytes q.key)
    right = ap (λ (r : Row). column r 1) q.cells

    go : (o : Ordering) → by_column 2 a b ≡ o → is_gt (by_column 2 a b) ≡ false →
        by_column 2 a b ≡ Less
    go Less e m = e
    go Equal e m =
        let bytes : key_bytes p.key ≡ key_bytes q.key =
        exact_bytes _ _ (sym (value_cmp-Blob (key_bytes p.key) (key_bytes q.key))
        ∙ rw (left, right) at e) in
        absurd (other.identity (left ∙ ap (λ (l : List ℕ). Blob l) bytes ∙ sym right))
    go Greater e m = absurd (true≢false (sym (ap is_gt e) ∙ m))

pub identities_rise : (trees : Trees) (h : Holdings) → Represent trees h →
    IsAscending (λ a b. by_column 2 a b ≡ Less) (by_identity (trees 0))
identities_rise trees h stand =
    let moved = IsPermutation-sym _ _ (IsPermutation-sort_by (by_column 2) (column_total 2)
    (trees 0)) in
    let all = all_unmap IsRecordingRow shown (trees 0)
    (recursion_from_All IsRecordingRow (recordings_in trees) stand.recordings) in
    let pairs = ascending_from_map DifferInIdAndKey shown (by_identity (trees 0))
    ((pairs_along _ _ (IsPermutation-map shown (trees 0) (by_identity (trees 0)) moved)).1
    (pairs_of (recordings_in trees) stand.apart)) in
    asc_all (λ r. IsRecordingRow (shown r)) AtMost Differ (λ a b. by_column 2 a b ≡ Less) below_of
    (by_identity (trees 0)) (all-permutation (λ r. IsRecordingRow (shown r)) (trees 0)
    (by_identity (trees 0)) moved all) (rising_sort (by_column 2) (column_total 2) (trees 0)) pairs

-- ---- members of mapped lists
to_mapped : {X Y : Type 0} (f : X → Y) (xs : List X) (x : X) → Contains xs x →
    Contains (map f xs) (f x)
to_mapped f [] x c = absurd (no_member x c)
to_mapped f (y ∷ xs) x c = go (cases_first y x xs c) (to_mapped f xs x)
  where
    go : (y ≡ x) ⊎ Contains xs x → (Contains xs x → Contains (map f xs) (f x)) →
        Contains (map f (y ∷ xs)) (f x)
    go (inl p) more = subst (λ z. Contains (f z ∷ map f xs) (f x)) (sym p) (here (f x) (map f xs))
    go (inr m) more = there (f y) (f x) (map f xs) (more m)

from_mapped : {X Y : Type 0} (f : X → Y) (xs : List X) (y : Y) → Contains (map f xs) y → (x : X)
    × Contains xs x × (f x ≡ y)
from_mapped f [] y c = absurd (no_member y c)
from_mapped f (x ∷ xs) y c = go (cases_first (f x) y (map f xs) c) (from_mapped f xs y)
  where
    go : (f x ≡ y) ⊎ Contains (map f xs) y →
        (Contains (map f xs) y → (z : _) × Contains xs z × (f z ≡ y)) → (z : _)
        × Contains (x ∷ xs) z × (f z ≡ y)
    go (inl p) more = (x, here x xs, p)
    go (inr m) more = let it = more m in (it.0, there x it.0 xs it.1, it.2)

abbrev identity_of : Row → Value
identity_of row = column row 2

abbrev cell_of : Key → Value
cell_of k = Blob (key_bytes k)

sorted_keys : (keys : List Key) → IsAscending (λ a b. key_cmp a b ≡ Less) keys →
    IsStrictlySortedBy key_cmp keys
unfolding IsStrictlySortedBy
sorted_keys [] up = tt
sorted_keys (k ∷ keys) up = (up.0, sorted_keys keys up.1)

-- the keys whose bytes are the identities in their order are those that hold records
pub are_keys : (cap : ℕ) (trees : Trees) (h : Holdings) (keys : List Key) →
    RepresentCommitted cap trees h →
    AllByRecursion IsKey keys → map cell_of keys ≡ map identity_of (by_identity (trees 0)) →
    AreKeysOf h keys
are_keys cap trees h keys kept good same =
    record { rising = rising; held = λ k. (held k, listed k) }
  where
    moved : IsPermutation (trees 0) (by_identity (trees 0))
    moved = IsPermutation-sym _ _ (IsPermutation-sort_by (by_column 2) (column_total 2) (trees 0))

    rising : IsStrictlySortedBy key_cmp keys
    rising = sorted_keys keys (ascending_weaker (λ a b. value_cmp (cell_of a) (cell_of b) ≡ Less)
        (λ a b. key_cmp a b ≡ Less) (λ a b e. sym (value_cmp-Blob (key_bytes a) (key_bytes b))
        ∙ e) keys (ascending_from_map (λ u v. value_cmp u v ≡ Less) cell_of keys
        (subst (IsAscending (λ u v. value_cmp u v ≡ Less)) (sym same)
        (ascending-map (λ u v. value_cmp u v ≡ Less) identity_of (by_identity (trees 0))
        (identities_rise trees h kept.stand)))))

    holds_some : (id : ℤ) (k : Key) → HasRecordingRow trees id k → h k ≢ []
    holds_some id k there none = kept.each id k there (kept.stand.held id k there
        ∙ ap (map record_cells) none)

    key_in : (k : Key) → Contains keys k → IsKey k
    key_in k c = go keys good c
      where
        go : (ks : List Key) → AllByRecursion IsKey ks → Contains ks k → IsKey k
        go [] all m = absurd (no_member k m)
        go (q ∷ ks) all m = pick (cases_first q k ks m) (go ks all.1)
          where
            pick : (q ≡ k) ⊎ Contains ks k → (Contains ks k → IsKey k) → IsKey k
            pick (inl p) more = subst IsKey p all.0
            pick (inr n) more = more n

    held : (k : Key) → Contains keys k → h k ≢ []
    held k c =
        let cell = subst (λ (vs : List Value). Contains vs (cell_of k)) same
        (to_mapped cell_of keys k c) in
        let it = from_mapped identity_of (by_identity (trees 0)) (cell_of k) cell in
        let member = member_along _ _ (IsPermutation-sym _ _ moved) it.0 it.1 in
        let is = recording_in (shown it.0) (to_mapped shown (trees 0) it.0 member) in
        let bytes : key_bytes is.key ≡ key_bytes k =
        blob-bytes _ _ (sym (ap (λ (r : Row). column r 1) is.cells) ∙ it.2) in
        let key = same-keys is.key k is.is_key (key_in k c) bytes in
        holds_some is.id k (record {
          row =
              subst (Contains (recordings_in trees)) (is.cells ∙ ap (recording_cells is.id) key)
              (to_mapped shown (trees 0) it.0 member);
          key = key_in k c;
        })
      where
        recording_in : (row : Row) → Contains (recordings_in trees) row → IsRecordingRow row
        recording_in row m = All-contains IsRecordingRow (recordings_in trees) row
            kept.stand.recordings m

    listed : (k : Key) → h k ≢ [] → Contains keys k
    listed k some =
        go (finds (recordings_in trees) (recursion_from_All IsRecordingRow (recordings_in trees)
        kept.stand.recordings) k)
      where
        go : Finds (recordings_in trees) k → Contains keys k
        go (inr none) = absurd (some (kept.stand.others k (λ id it. none id it.row it.key)))
        go (inl is) =
            let row = from_mapped shown (trees 0) (recording_cells is.0 k) is.1 in
            let cell : identity_of row.0 ≡ cell_of k = ap (λ (r : Row). column r 1) row.2 in
            let inside = subst (λ v. Contains (map identity_of (by_identity (trees 0))) v) cell
            (to_mapped identity_of (by_identity (trees 0)) row.0
            (member_along _ _ moved row.0 row.1)) in
            let it = from_mapped cell_of keys (cell_of k)
            (subst (λ (vs : List Value). Contains vs (cell_of k)) (sym same) inside) in
            subst (Contains keys) (same-keys it.0 k (key_in it.0 it.1) is.2 (blob-bytes _ _ it.2))
            it.1

-- ---- first and last starts
pub first_is : (rows : List Row) (xs : List DataRecord) (start : Option ℤ) → Show rows xs →
    option_map Int start ≡ option_map (λ row. column row 2) (slice_get rows 0) →
    start ≡ option_map (λ (r : DataRecord). pos r.start) (slice_get xs 0)
first_is [] [] None s e = refl
first_is [] [] (Some n) s e = absurd (cc)
first_is [] (x ∷ xs) start s e = absurd s
first_is (row ∷ rows) [] start s e = absurd s
first_is (row ∷ rows) (x ∷ xs) None s e = absurd (cc)
first_is (row ∷ rows) (x ∷ xs) (Some n) s e =
    let cell : ◌≡◌ {A = Value} (Int n) (column row 2) = cc in
    ap Some (int-number n (pos x.start) (cell ∙ start_cell row x s.0))
