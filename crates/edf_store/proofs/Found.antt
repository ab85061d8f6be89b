-- Which recordings are there, and what the tables stand for with one recording more.
use Rattle.std.proofs.Common.{◌≡◌, ◌≢◌, ℕ, ℤ, ◌⊎◌, inl, inr, Bool, true, false, List, [], ◌∷◌, map}
use Rattle.std.proofs.Common.{length, Contains, All, IsPermutation, refl, sym, ap, subst, ◌∙◌}
use Rattle.std.proofs.Common.{arith, true≢false, is_eq, Ordering, Less, Equal, Greater}
use Rattle.std.specs.List.{AllByRecursion}
use Rattle.std.specs.Ordering.{int_cmp, ordering_reverse}
use Rattle.std.proofs.lemmas.Cmp.{tied_itself, alike_right}
use Rattle.std.proofs.lemmas.List.Elements.{All-from_recursion, recursion_from_All, All-contains}
use Rattle.std.proofs.lemmas.List.Sorted.{IsPermutation-trans, IsPermutation-cons}
use Rattle.std.proofs.lemmas.List.Sorted.{IsPermutation-sym, IsPermutation-middle}
use Rattle.std.proofs.lemmas.List.Sorted.{IsPermutation-refl, IsPermutation-map}
use Rattle.std.proofs.lemmas.Map.Lookups.{exact_bytes}
use Rattle.sqlite_value.specs.declared.value.Value.TheVariants.{Int, Blob}
use Rattle.sqlite_value.specs.Order.{Row, column, value_cmp}
use Rattle.sqlite_value.proofs.OrderLemmas.{value_cmp_total, value_cmp-Int, value_cmp-Blob}
use Rattle.sqlite_trees.specs.Tree.{Trees, put_row, rowid, IsAscending}
use Rattle.sqlite_rules.specs.Edit.{next_rowid}
use Rattle.sqlite.specs.State.{State}
use Rattle.sqlite_keyed.specs.Lists.{sort_by}
use Rattle.sqlite_keyed.proofs.ListLemmas.{all_weaker, none_from_any, along_permutation}
use Rattle.sqlite_keyed.proofs.ListLemmas.{filter_none}
use Rattle.edf_header.specs.Key.{Key, IsKey, key_bytes}
use Rattle.edf_holdings.specs.Holdings.{Holdings}
use Rattle.edf_tables.specs.Row.{named_cells, new_row, HasRecording}
use Rattle.edf_tables.specs.Records.{records_of, shown_record}
use Rattle.edf_tables.specs.Columns.{by_column, is_of}
use Rattle.edf_tables.specs.Recordings.{named}
use Rattle.edf_tables.proofs.Apart.{equal_of}
use Rattle.edf_rows.specs.Cells.{record_cells, recording_cells, recordings_in, records_in}
use Rattle.edf_rows.specs.Rows.{HasRecordingRow, IsRecordingRow, BelongsToRecording, AreTwoOf}
use Rattle.edf_rows.specs.Rows.{DifferInIdAndKey, Represent}
use Rattle.edf_rows.proofs.Rows.{here, there, cases_first, no_member, same-recordings}
use Rattle.edf_rows.proofs.Kept.{first_two, two_later}
use Rattle.edf_store.proofs.Standing.{other_id}

abbrev pub shown : Row → Row
shown row = column row 0 ∷ column row 2 ∷ []

blob_of : (a b : List ℕ) → is_eq (value_cmp (Blob a) (Blob b)) ≡ true → a ≡ b
blob_of a b h = exact_bytes a b (sym (value_cmp-Blob a b) ∙ equal_of _ h)

found_in : (id : ℤ) (k : Key) (rows : List Row) → AllByRecursion IsRecordingRow (map shown rows) →
    Contains (map (λ row. column row 0) (named (key_bytes k) rows)) (Int id) →
    Contains (map shown rows) (recording_cells id k)
found_in id k [] all c = absurd (no_member (Int id) c)
found_in id k (row ∷ rows) all c =
    go (is_eq (value_cmp (column row 2) (Blob (key_bytes k)))) refl c (found_in id k rows all.1)
  where
    go : (b : Bool) → is_eq (value_cmp (column row 2) (Blob (key_bytes k))) ≡ b →
        Contains (map (λ row. column row 0) (named (key_bytes k) (row ∷ rows))) (Int id)
        → (Contains (map (λ row. column row 0) (named (key_bytes k) rows)) (Int id) →
        Contains (map shown rows) (recording_cells id k)) →
        Contains (map shown (row ∷ rows)) (recording_cells id k)
    go false e c more = there (shown row) (recording_cells id k) (map shown rows) (more (rw e at c))
    go true e c more =
        pick (cases_first (column row 0) (Int id)
        (map (λ row. column row 0) (named (key_bytes k) rows)) (rw e at c)) more
      where
        cell : column row 2 ≡ Blob (key_bytes all.0.key)
        cell = ap (λ (r : Row). column r 1) all.0.cells

        named_so : column row 2 ≡ Blob (key_bytes k)
        named_so = cell ∙ ap (λ (b : List ℕ). Blob b)
            (blob_of (key_bytes all.0.key) (key_bytes k) (rw cell at e))

        pick : (column row 0 ≡ Int id)
            ⊎ Contains (map (λ row. column row 0) (named (key_bytes k) rows)) (Int id)
            → (Contains (map (λ row. column row 0) (named (key_bytes k) rows)) (Int id) →
            Contains (map shown rows) (recording_cells id k)) →
            Contains (map shown (row ∷ rows)) (recording_cells id k)
        pick (inl p) more =
            let is : shown row ≡ recording_cells id k = λ i. p i ∷ named_so i ∷ [] in
            subst (λ r. Contains (r ∷ map shown rows) (recording_cells id k)) (sym is)
            (here (recording_cells id k) (map shown rows))
        pick (inr m) more = there (shown row) (recording_cells id k) (map shown rows) (more m)

-- a row with the identity of a key is its recording
pub found : (trees : Trees) (h : Holdings) (id : ℤ) (k : Key) → Represent trees h → IsKey k →
    Contains (map (λ row. column row 0) (named (key_bytes k) (trees 0))) (Int id) →
    HasRecordingRow trees id k
found trees h id k stand key c =
    record {
      row = found_in id k (trees 0)
          (recursion_from_All IsRecordingRow (recordings_in trees) stand.recordings) c;
      key = key;
    }

-- none has it
abbrev IsUnnamed : Key → List Row → Type 0
IsUnnamed k = AllByRecursion (λ row. is_eq (value_cmp (column row 2) (Blob (key_bytes k))) ≡ false)

unnamed : (k : Key) (rows : List Row) → named (key_bytes k) rows ≡ [] → IsUnnamed k rows
unnamed k [] none = tt
unnamed k (row ∷ rows) none = go (is_eq (value_cmp (column row 2) (Blob (key_bytes k)))) refl none
    (unnamed k rows)
  where
    go : (b : Bool) → is_eq (value_cmp (column row 2) (Blob (key_bytes k))) ≡ b →
        named (key_bytes k) (row ∷ rows) ≡ [] → (named (key_bytes k) rows ≡ [] → IsUnnamed k rows) →
        IsUnnamed k (row ∷ rows)
    go false e none more = (e, more (rw e at none))
    go true e none more = absurd (let n : ◌≡◌ {A = ℕ} (length (row ∷ named (key_bytes k) rows)) 0 =
        ap length (rw e at none) in omega (arith, n))

absent_in : (id : ℤ) (k : Key) (rows : List Row) → IsUnnamed k rows →
    ¬ Contains (map shown rows) (recording_cells id k)
absent_in id k [] none c = no_member (recording_cells id k) c
absent_in id k (row ∷ rows) none c =
    go (cases_first (shown row) (recording_cells id k) (map shown rows) c)
    (absent_in id k rows none.1)
  where
    go : (shown row ≡ recording_cells id k) ⊎ Contains (map shown rows) (recording_cells id k) →
        ¬ Contains (map shown rows) (recording_cells id k) → ⊥
    go (inl p) more =
        let cell : column row 2 ≡ Blob (key_bytes k) = ap (λ (r : Row). column r 1) p in
        true≢false (sym (ap (λ v. is_eq (value_cmp v (Blob (key_bytes k)))) cell
        ∙ ap is_eq (tied_itself value_cmp_total (Blob (key_bytes k)))) ∙ none.0)
    go (inr m) more = more m

pub absent : (trees : Trees) (k : Key) → named (key_bytes k) (trees 0) ≡ [] → (id : ℤ) →
    ¬ HasRecordingRow trees id k
absent trees k none id it = absent_in id k (trees 0) (unnamed k (trees 0) none) it.row

-- ---- permutations
pub member_along : (xs ys : List Row) → IsPermutation xs ys → (x : Row) → Contains xs x →
    Contains ys x
member_along = along_permutation (λ xs ys. (x : Row) → Contains xs x → Contains ys x) (λ xs x c. c)
    (λ y xs ys more x c. elim (cases_first y x xs c) [
      | inl p ↦ subst (λ z. Contains (z ∷ ys) x) (sym p) (here x ys)
      | inr m ↦ there y x ys (more x m)
    ]) (λ a b xs x c. elim (cases_first a x (b ∷ xs) c) [
      | inl p ↦ there b x (a ∷ xs) (subst (λ z. Contains (z ∷ xs) x) (sym p) (here x xs))
      | inr m ↦ elim (cases_first b x xs m) [
        | inl p ↦ subst (λ z. Contains (z ∷ a ∷ xs) x) (sym p) (here x (a ∷ xs))
        | inr n ↦ there b x (a ∷ xs) (there a x xs n)
      ]
    ]) (λ xs ys zs f g x c. g x (f x c))

turned : (a b : Row) → DifferInIdAndKey a b → DifferInIdAndKey b a
turned a b o = record { id = λ p. o.id (sym p); identity = λ p. o.identity (sym p) }

abbrev pub PairsAlong : List Row → List Row → Type 0
PairsAlong xs ys = ((x : Row) → AllByRecursion (DifferInIdAndKey x) xs →
    AllByRecursion (DifferInIdAndKey x) ys)
    × (IsAscending DifferInIdAndKey xs → IsAscending DifferInIdAndKey ys)

pub pairs_along : (xs ys : List Row) → IsPermutation xs ys → PairsAlong xs ys
pairs_along = along_permutation PairsAlong (λ xs. ((λ x all. all), (λ all. all)))
    (λ y xs ys more. ((λ x all. (all.0, more.0 x all.1)), (λ all. (more.0 y all.0, more.1 all.1))))
    (λ a b xs. (
      (λ x all. (all.1.0, (all.0, all.1.1))),
      (λ all. ((turned a b all.0.0, all.1.0), (all.0.1, all.1.1))),
    )) (λ xs ys zs f g. ((λ x all. g.0 x (f.0 x all)), (λ all. g.1 (f.1 all))))

all_members : (P : Row → Type 0) (xs : List Row) → ((x : Row) → Contains xs x → P x) →
    AllByRecursion P xs
all_members P [] each = tt
all_members P (x ∷ xs) each = (
  each x (here x xs),
  all_members P xs (λ y c. each y (there x y xs c)),
)

pub pairs_of : (rows : List Row) → ((a b : Row) → AreTwoOf rows a b → DifferInIdAndKey a b) →
    IsAscending DifferInIdAndKey rows
pairs_of [] apart = tt
pairs_of (row ∷ rows) apart = (
  all_members (DifferInIdAndKey row) rows (λ x c. apart row x (first_two row x rows c)),
  pairs_of rows (λ a b two. apart a b (two_later row a b rows two)),
)

from_pairs : (rows : List Row) → IsAscending DifferInIdAndKey rows → (a b : Row) →
    AreTwoOf rows a b → DifferInIdAndKey a b
from_pairs rows pairs a b two = ((pairs_along rows (a ∷ b ∷ two.0) two.1).1 pairs).0.0

put_permutes : (new : Row) (rows : List Row) →
    AllByRecursion (λ r. is_eq (value_cmp (rowid r) (rowid new)) ≡ false) rows →
    IsPermutation (new ∷ rows) (put_row new rows)
put_permutes new [] fresh = IsPermutation-refl (new ∷ [])
put_permutes new (r ∷ rows) fresh =
    go (value_cmp (rowid r) (rowid new)) refl (put_permutes new rows fresh.1)
  where
    go : (o : Ordering) → value_cmp (rowid r) (rowid new) ≡ o →
        IsPermutation (new ∷ rows) (put_row new rows) →
        IsPermutation (new ∷ r ∷ rows) (put_row new (r ∷ rows))
    go Less e more = rw e (IsPermutation-trans _ _ _ (IsPermutation-middle (new ∷ []) r rows)
        (IsPermutation-cons r _ _ more))
    go Equal e more = absurd (true≢false (sym (ap is_eq e) ∙ fresh.0))
    go Greater e more = rw e (IsPermutation-refl (new ∷ r ∷ rows))

-- ---- a recording more
module _ (old new : State) (id : ℤ) (k : Key) (h : Holdings)
    (has : HasRecording old new (named_cells (key_bytes k)))
    (is_id : id ≡ next_rowid (old.now.trees 0)) (stand : Represent old.now.trees h) (key : IsKey k)
    (none : named (key_bytes k) (old.now.trees 0) ≡ []) where
  abbrev row : Row
  row = new_row (old.now.trees 0) (named_cells (key_bytes k))

  fresh : AllByRecursion (λ r. is_eq (value_cmp (rowid r) (rowid row)) ≡ false) (old.now.trees 0)
  fresh = none_from_any (λ r. is_eq (value_cmp (rowid r) (rowid row))) (old.now.trees 0) has.fresh

  own : shown row ≡ recording_cells id k
  own = ap (λ n. recording_cells n k) (sym is_id)

  moved : IsPermutation (shown row ∷ recordings_in old.now.trees) (recordings_in new.now.trees)
  moved = subst (λ (rows : List Row). IsPermutation (map shown (row ∷ old.now.trees 0))
      (map shown rows)) (sym has.recordings)
      (IsPermutation-map shown (row ∷ old.now.trees 0) (put_row row (old.now.trees 0))
      (put_permutes row (old.now.trees 0) fresh))

  others_in : (rows : List Row) →
      AllByRecursion (λ r. is_eq (value_cmp (rowid r) (rowid row)) ≡ false) rows →
      IsUnnamed k rows → AllByRecursion (DifferInIdAndKey (shown row)) (map shown rows)
  others_in [] apart other = tt
  others_in (r ∷ rows) apart other = (
    record {
      id = λ p. true≢false (sym (ap (λ v. is_eq (value_cmp v (rowid row))) (sym p)
          ∙ ap is_eq (tied_itself value_cmp_total (rowid row))) ∙ apart.0);
      identity = λ p. true≢false (sym (ap (λ v. is_eq (value_cmp v (Blob (key_bytes k)))) (sym p)
          ∙ ap is_eq (tied_itself value_cmp_total (Blob (key_bytes k)))) ∙ other.0);
    },
    others_in rows apart.1 other.1,
  )

  others : AllByRecursion (DifferInIdAndKey (shown row)) (recordings_in old.now.trees)
  others = others_in (old.now.trees 0) fresh (unnamed k (old.now.trees 0) none)

  pub there_now : HasRecordingRow new.now.trees id k
  there_now = record {
    row = member_along _ _ moved (recording_cells id k)
        (subst (λ r. Contains (r ∷ recordings_in old.now.trees) (recording_cells id k)) (sym own)
        (here (recording_cells id k) (recordings_in old.now.trees)));
    key = key;
  }

  pub there_still : (m : ℤ) (q : Key) → HasRecordingRow old.now.trees m q →
      HasRecordingRow new.now.trees m q
  there_still m q it = record {
    row =
        member_along _ _ moved (recording_cells m q)
        (there (shown row) (recording_cells m q) (recordings_in old.now.trees) it.row);
    key = it.key;
  }

  pub there_cases : (m : ℤ) (q : Key) → HasRecordingRow new.now.trees m q →
      (shown row ≡ recording_cells m q) ⊎ HasRecordingRow old.now.trees m q
  there_cases m q it =
      elim (cases_first (shown row) (recording_cells m q) (recordings_in old.now.trees)
      (member_along _ _ (IsPermutation-sym _ _ moved) (recording_cells m q) it.row)) [
        | inl p ↦ inl p
        | inr c ↦ inr (record { row = c; key = it.key })
      ]

  is_other : (r : Row) → BelongsToRecording old.now.trees r → is_of id r ≡ false
  is_other r owner =
      let apart = All-contains (DifferInIdAndKey (shown row)) (recordings_in old.now.trees)
      (recording_cells owner.id owner.key) (All-from_recursion _ _ others) owner.there.row in
      let ids : id ≢ owner.id = λ p. apart.id (ap (λ (n : ℤ). Int n) (sym is_id ∙ p)) in
      let compared : value_cmp (Int id) (column r 1) ≡ int_cmp id owner.id =
      alike_right value_cmp_total (column r 1) (Int owner.id) (Int id) (equal_of _ owner.owned)
      ∙ value_cmp-Int id owner.id in
      reversed (int_cmp id owner.id) (value_cmp_total.antisymm (column r 1) (Int id)
      ∙ ap ordering_reverse compared) (other_id id owner.id ids)
    where
      reversed : (o : Ordering) → value_cmp (column r 1) (Int id) ≡ ordering_reverse o →
          is_eq o ≡ false → is_of id r ≡ false
      reversed Less e d = ap is_eq e
      reversed Equal e d = absurd (true≢false d)
      reversed Greater e d = ap is_eq e

  empty : records_in old.now.trees id ≡ []
  empty = ap (λ (rows : List Row). map shown_record (sort_by (by_column 2) rows))
      (filter_none (is_of id) (old.now.trees 2)
      (all_weaker (BelongsToRecording old.now.trees) (λ r. is_of id r ≡ false) is_other
      (old.now.trees 2)
      (recursion_from_All (BelongsToRecording old.now.trees) (old.now.trees 2) stand.owned)))

  same_rows : (m : ℤ) → records_in new.now.trees m ≡ records_in old.now.trees m
  same_rows m = ap (λ (rows : List Row). map shown_record (records_of m rows)) has.records

  pub stand_named : Represent new.now.trees h
  stand_named = record {
    recordings = All-from_recursion IsRecordingRow (recordings_in new.now.trees)
        (all_members IsRecordingRow (recordings_in new.now.trees) (λ x c.
        elim (cases_first (shown row) x (recordings_in old.now.trees)
        (member_along _ _ (IsPermutation-sym _ _ moved) x c)) [
          | inl p ↦ record { id = id; key = k; cells = sym p ∙ own; is_key = key }
          | inr m ↦ All-contains IsRecordingRow (recordings_in old.now.trees) x stand.recordings m
        ]));
    apart = from_pairs (recordings_in new.now.trees)
        ((pairs_along _ _ moved).1 (others, pairs_of (recordings_in old.now.trees) stand.apart));
    owned = subst (λ (rows : List Row). All (BelongsToRecording new.now.trees) rows)
        (sym has.records) (All-from_recursion (BelongsToRecording new.now.trees) (old.now.trees 2)
        (all_weaker (BelongsToRecording old.now.trees) (BelongsToRecording new.now.trees)
        (λ one owner. record {
          id = owner.id;
          key = owner.key;
          there =
              there_still owner.id owner.key owner.there;
          owned = owner.owned;
        }) (old.now.trees 2)
        (recursion_from_All (BelongsToRecording old.now.trees) (old.now.trees 2) stand.owned)));
    held = λ m q it. elim (there_cases m q it) [
      | inl p ↦
          let same = same-recordings id m k q key it.key (sym own ∙ p) in
          same_rows m ∙ ap (records_in old.now.trees) (sym same.0) ∙ empty
          ∙ ap (map record_cells) (sym (stand.others k (absent old.now.trees k none)) ∙ ap h same.1)
      | inr was ↦ same_rows m ∙ stand.held m q was
    ];
    others = λ q gone. stand.others q (λ m it. gone m (there_still m q it));
  }
