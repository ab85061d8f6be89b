-- Rows are kept, or foreign.
use Rattle.std.proofs.Common.{◌≡◌, ◌≢◌, ◌⊎◌, inl, inr, ℕ, ◌+◌, ◌≤◌, ◌<◌, ℤ, pos, Bool, true, false}
use Rattle.std.proofs.Common.{List, [], ◌∷◌, map, filter, length, Contains, refl, sym, ap, subst}
use Rattle.std.proofs.Common.{◌∙◌, arith, is_gt, true≢false, bytes_eq}
use Rattle.std.specs.List.{AllByRecursion, list_any}
use Rattle.std.specs.Ordering.{int_eq}
use Rattle.std.proofs.lemmas.Bool.{cases_lt, cases_Bool}
use Rattle.std.proofs.lemmas.Bool.Decides.{nat_tests, Decides-int_eq}
use Rattle.std.proofs.lemmas.Slice.Eq.{bytes_eq-Decides}
use Rattle.std.proofs.lemmas.List.{length-map}
use Rattle.std.proofs.lemmas.List.Elements.{All-from_recursion}
use Rattle.std.proofs.lemmas.List.Sorted.{length_permutation, Contains-permutation}
use Rattle.std.proofs.lemmas.List.Sorted.{IsPermutation-sym, IsPermutation-refl}
use Rattle.sqlite.specs.declared.types.Value.{Value}
use Rattle.sqlite.specs.declared.types.Value.TheVariants.{Int, Blob}
use Rattle.sqlite.specs.Order.{Row}
use Rattle.sqlite.specs.Tree.{Trees}
use Rattle.sqlite_value.specs.Order.{column, value_cmp}
use Rattle.sqlite_value.proofs.OrderLemmas.{value_cmp-Int}
use Rattle.sqlite_trees.specs.Tree.{IsAscending}
use Rattle.sqlite_keyed.proofs.ListLemmas.{IsPermutation-filter}
use Rattle.edf_field.specs.Number.{duration_of}
use Rattle.edf_header.specs.Key.{Key, MayStart, key_bytes}
use Rattle.edf_time.specs.Civil.{two_digit_window}
use Rattle.edf_fragment.specs.Fragment.{DataRecord}
use Rattle.edf_fragment.specs.Sound.{IsSoundRecord, AreSoundFrom, FirstMayStart}
use Rattle.edf_holdings.specs.Holdings.{Holdings}
use Rattle.edf_tables.specs.Cells.{first_three}
use Rattle.edf_rows.specs.Cells.{record_cells, recording_cells, recordings_in, records_in}
use Rattle.edf_tables.specs.Columns.{by_column}
use Rattle.edf_rows.specs.Rows.{BelongsToRecording, AreTwoOf, DifferInIdAndKey, RepresentCommitted}
use Rattle.edf_rows.specs.Foreign.{IsBadRow, AreTooNear, BeginsTooLate, AreBadRecords, bad_row}
use Rattle.edf_rows.specs.Foreign.{too_near, too_late, too_few, too_many, IsForeign, bad_recording}
use Rattle.edf_rows.specs.Foreign.{bad_records, without_recording, twice}
use Rattle.edf_rows.specs.Inside.Shape.{HasRecords}
use Rattle.edf_rows.proofs.Rows.{here, there}
use Rattle.edf_rows.proofs.Kept.{two_later, first_two, held_of, are-kept}
use Rattle.edf_rows.specs.Inside.All.{owns}
use Rattle.edf_rows.proofs.DecidedCells.{recording_or, row_or}
use Rattle.edf_rows.proofs.GivenRows.{is_three, by_start}
use Rattle.edf_rows.proofs.Apart.{all_at}
use Rattle.edf_rows.proofs.AllRows.{any_here, owned_by_one}

-- ---- one recording's records
abbrev Have : Key → List Row → Type 0
Have k rows = (rs : List DataRecord) × (rows ≡ map record_cells rs)
    × AllByRecursion (IsSoundRecord k) rs

rows_or : (k : Key) (all rows : List Row) → ((row : Row) → Contains rows row → Contains all row) →
    ((row : Row) → Contains all row → row ≡ first_three row) →
    ((row : Row) × Contains all row × IsBadRow k row) ⊎ Have k rows
rows_or k all [] in_all shape = inr ([], refl, tt)
rows_or k all (row ∷ rows) in_all shape =
    let c = in_all row (here row rows) in
    elim (row_or k row (shape row c)) [
      | inl bad ↦ inl (row, c, bad)
      | inr good ↦ elim (rows_or k all rows (λ r c. in_all r (there row r rows c)) shape) [
        | inl bad ↦ inl bad
        | inr have ↦ inr (good.0 ∷ have.0, (λ i. good.1.cells i ∷ have.1 i), (good.1.sound, have.2))
      ]
    ]

near_later : (row : Row) (rows : List Row) (d : ℕ) → AreTooNear rows d → AreTooNear (row ∷ rows) d
near_later row rows d n = record {
  a = n.a;
  b = n.b;
  two = two_later row n.a n.b rows n.two;
  first =
      n.first;
  second = n.second;
  a_start = n.a_start;
  b_start = n.b_start;
  order = n.order;
  near =
      n.near;
}

falls : (m n : ℕ) → n < m → is_gt (value_cmp (Int (pos m)) (Int (pos n))) ≡ true
falls m n h = ap is_gt (value_cmp-Int (pos m) (pos n)) ∙ grind (arith, nat_tests)

-- rows in order lie a duration apart, or two neighbours do not
apart_or : (k : Key) (low : ℕ) (r : DataRecord) (rs : List DataRecord) →
    AllByRecursion (IsSoundRecord k) (r ∷ rs) →
    IsAscending (λ a b. is_gt (by_column 0 a b) ≡ false) (map record_cells (r ∷ rs)) → low ≤ r.start
    → AreSoundFrom k low (r ∷ rs) ⊎ AreTooNear (map record_cells (r ∷ rs)) (duration_of k.duration)
apart_or k low r [] sound up from = inl (sound.0, from, tt)
apart_or k low r (s ∷ rs) sound up from =
    let order : r.start ≤ s.start = elim (cases_lt s.start r.start) [
      | inl lt ↦
          absurd (true≢false (sym (falls r.start s.start lt) ∙ up.0.0))
      | inr le ↦ le
    ] in
    let two : AreTwoOf (map record_cells (r ∷ s ∷ rs)) (record_cells r) (record_cells s) =
    first_two (record_cells r) (record_cells s) (map record_cells (s ∷ rs))
    (here (record_cells s) (map record_cells rs)) in
    elim (cases_lt s.start (r.start + duration_of k.duration)) [
      | inl near ↦ inr (record {
        a = record_cells r;
        b = record_cells s;
        two = two;
        first = r.start;
        second = s.start;
        a_start = refl;
        b_start = refl;
        order = order;
        near = near;
      })
      | inr far ↦ elim (apart_or k (r.start + duration_of k.duration) s rs sound.1 up.1 far) [
        | inl more ↦ inl (sound.0, from, more)
        | inr near ↦ inr (near_later (record_cells r) (map record_cells (s ∷ rs))
            (duration_of k.duration) near)
      ]
    ]

-- whether a recording may start there
may_start_or : (k : Key) (start : ℕ) → MayStart k start ⊎ (¬ MayStart k start)
may_start_or k start =
    elim (cases_Bool k.dated) [
      | inl dated ↦ inl (λ undated. absurd (true≢false (sym dated ∙ undated)))
      | inr undated ↦ elim (cases_lt start two_digit_window) [
        | inl low ↦ inl (λ _. low)
        | inr high ↦ inr (λ may. omega (arith, high, may undated))
      ]
    ]

record HasGood (cap : ℕ) (k : Key) (rows : List Row) : Type 0 where
  records : List DataRecord
  sound : AreSoundFrom k 0 records
  begins : FirstMayStart k records
  shown : rows ≡ map record_cells records
  some : rows ≢ []
  within_cap : length records ≤ cap

some_rows : (row : Row) (rows all : List Row) → all ≡ row ∷ rows → all ≢ []
some_rows row rows all is none = absurd (let n : ◌≡◌ {A = ℕ} (length (row ∷ rows)) 0 =
    ap length (sym is ∙ none) in omega (arith, n))

records_or : (cap : ℕ) (trees : Trees) (id : ℤ) (k : Key) →
    AreBadRecords cap k (records_in trees id) ⊎ HasGood cap k (records_in trees id)
records_or cap trees id k =
    go (rows_or k (records_in trees id) (records_in trees id) (λ r c. c) (is_three trees id))
  where
    good : (rs : List DataRecord) → records_in trees id ≡ map record_cells rs →
        AllByRecursion (IsSoundRecord k) rs → AreBadRecords cap k (records_in trees id)
        ⊎ HasGood cap k (records_in trees id)
    good [] is sound = inl (too_few is)
    good (r ∷ rs) is sound =
        let up = subst (IsAscending (λ a b. is_gt (by_column 0 a b) ≡ false)) is
        (by_start trees id) in
        elim (apart_or k 0 r rs sound up (omega arith)) [
          | inr near ↦
              inl (too_near (subst (λ (rows : List Row). AreTooNear rows (duration_of k.duration))
              (sym is) near))
          | inl apart ↦ elim (may_start_or k r.start) [
            | inr late ↦ inl (too_late (subst (BeginsTooLate k) (sym is) (r.start, refl, late)))
            | inl begins ↦ elim (cases_lt cap (length (r ∷ rs))) [
              | inl more ↦ inl (too_many (let n = ap length is in let m =
                  length-map (r ∷ rs) record_cells in omega (arith, n, m, more)))
              | inr few ↦ inr (record {
                records = r ∷ rs;
                sound = apart;
                begins = begins;
                shown =
                    is;
                some = some_rows (record_cells r) (map record_cells rs) (records_in trees id)
                    is;
                within_cap = few;
              })
            ]
          ]
        ]

    go : ((row : Row) × Contains (records_in trees id) row × IsBadRow k row)
        ⊎ Have k (records_in trees id) → AreBadRecords cap k (records_in trees id)
        ⊎ HasGood cap k (records_in trees id)
    go (inl bad) = inl (bad_row bad.0 bad.1 bad.2)
    go (inr have) = good have.0 have.1 have.2

-- ---- all recordings
module _ (cap : ℕ) (trees : Trees) where
  has_or : (rows : List Row) → ((row : Row) → Contains rows row →
      Contains (recordings_in trees) row) → AllByRecursion (HasRecords cap trees) rows
      ⊎ IsForeign cap trees
  has_or [] in_all = inl tt
  has_or (row ∷ rows) in_all =
      let c = in_all row (here row rows) in
      elim (recording_or trees row c) [
        | inr none ↦ inr (bad_recording row c none)
        | inl is ↦ elim (records_or cap trees is.id is.key) [
          | inl bad ↦ inr (bad_records is.id is.key
              (record { row = subst (Contains (recordings_in trees)) is.cells c; key = is.is_key })
              bad)
          | inr good ↦ elim (has_or rows (λ r m. in_all r (there row r rows m))) [
            | inr foreign ↦ inr foreign
            | inl more ↦ inl (
              record {
                id = is.id;
                key = is.key;
                records = good.records;
                cells =
                    is.cells;
                is_key = is.is_key;
                sound = good.sound;
                begins = good.begins;
                shown =
                    good.shown;
                some = good.some;
                within_cap = good.within_cap;
              },
              more,
            )
          ]
        ]
      ]

-- ---- no id and no identity twice
abbrev has_int : ℤ → Value → Bool
has_int m (Int n) = int_eq n m
has_int m v = false

abbrev has_bytes : List ℕ → Value → Bool
has_bytes bytes (Blob b) = bytes_eq b bytes
has_bytes bytes v = false

int_is : (m : ℤ) (v : Value) → has_int m v ≡ true → v ≡ Int m
int_is m (Int n) h = ap Int ((Decides-int_eq n m).0 h)
int_is m v h = absurd (true≢false (sym h))

bytes_are : (bytes : List ℕ) (v : Value) → has_bytes bytes v ≡ true → v ≡ Blob bytes
bytes_are bytes (Blob b) h = ap Blob ((bytes_eq-Decides b bytes).0 h)
bytes_are bytes v h = absurd (true≢false (sym h))

abbrev IsPair : (Row → Bool) → List Row → Type 0
IsPair p rows = (a : Row) × (b : Row) × AreTwoOf rows a b × (p a ≡ true) × (p b ≡ true)

passing_or : (p : Row → Bool) (rows : List Row) → (length (filter p rows) ≡ 0)
    ⊎ ((x : Row) × Contains rows x × (p x ≡ true))
passing_or p [] = inl refl
passing_or p (r ∷ rows) = go (p r) refl (passing_or p rows)
  where
    go : (b : Bool) → p r ≡ b → (length (filter p rows) ≡ 0)
        ⊎ ((x : Row) × Contains rows x × (p x ≡ true)) → (length (filter p (r ∷ rows)) ≡ 0)
        ⊎ ((x : Row) × Contains (r ∷ rows) x × (p x ≡ true))
    go true e more = inr (r, here r rows, e)
    go false e (inl none) = inl (rw e none)
    go false e (inr it) = inr (it.0, there r it.0 rows it.1, it.2)

once_or : (p : Row → Bool) (rows : List Row) → (length (filter p rows) ≤ 1) ⊎ IsPair p rows
once_or p [] = inl (omega arith)
once_or p (r ∷ rows) = go (p r) refl (once_or p rows) (passing_or p rows)
  where
    go : (b : Bool) → p r ≡ b → (length (filter p rows) ≤ 1) ⊎ IsPair p rows →
        (length (filter p rows) ≡ 0) ⊎ ((x : Row) × Contains rows x × (p x ≡ true)) →
        (length (filter p (r ∷ rows)) ≤ 1) ⊎ IsPair p (r ∷ rows)
    go b e (inr two) more = inr (two.0, two.1, two_later r two.0 two.1 rows two.2, two.3, two.4)
    go false e (inl few) more = inl (rw e few)
    go true e (inl few) (inl none) = inl (rw e (omega (arith, none)))
    go true e (inl few) (inr it) = inr (r, it.0, first_two r it.0 rows it.1, e, it.2)

two_pass : (p : Row → Bool) (rows : List Row) (a b : Row) → AreTwoOf rows a b → p a ≡ true →
    p b ≡ true → 2 ≤ length (filter p rows)
two_pass p rows a b two first second =
    let same : length (filter p rows) ≡ length (filter p (a ∷ b ∷ two.0)) =
    sym (length_permutation _ _ (IsPermutation-filter p _ _ two.1)) in
    let split : length (filter p (a ∷ b ∷ two.0)) ≡ 2 + length (filter p two.0) =
    rw (first, second) (omega arith) in
    omega (arith, same, split)

record IsOnce (all : List Row) (row : Row) : Type 0 where
  id : ℤ
  bytes : List ℕ
  id_is : column row 0 ≡ Int id
  bytes_is : column row 1 ≡ Blob bytes
  one_id : length (filter (λ (r : Row). has_int id (column r 0)) all) ≤ 1
  one_identity : length (filter (λ (r : Row). has_bytes bytes (column r 1)) all) ≤ 1

apart_from : (all : List Row) → AllByRecursion (IsOnce all) all → (a b : Row) → AreTwoOf all a b →
    DifferInIdAndKey a b
apart_from all once a b two =
    let c : Contains all b = Contains-permutation (a ∷ b ∷ two.0) all b
    (IsPermutation-sym _ _ two.1) (there a b (b ∷ two.0) (here b two.0)) in
    let it = all_at (IsOnce all) all b once c in
    let id : has_int it.id (column b 0) ≡ true = ap (has_int it.id) it.id_is
    ∙ (Decides-int_eq it.id it.id).1 refl in
    let identity : has_bytes it.bytes (column b 1) ≡ true = ap (has_bytes it.bytes) it.bytes_is
    ∙ (bytes_eq-Decides it.bytes it.bytes).1 refl in
    record {
      id = λ e. absurd (let n = two_pass (λ (r : Row). has_int it.id (column r 0)) all a b two
          (ap (has_int it.id) e ∙ id) id in let m = it.one_id in omega (arith, n, m));
      identity = λ e. absurd (let n =
          two_pass (λ (r : Row). has_bytes it.bytes (column r 1)) all a b two
          (ap (has_bytes it.bytes) e ∙ identity) identity in let m = it.one_identity in
          omega (arith, n, m));
    }

module _ (cap : ℕ) (trees : Trees) where
  once_all : (rows : List Row) → AllByRecursion (HasRecords cap trees) rows →
      AllByRecursion (IsOnce (recordings_in trees)) rows ⊎ IsForeign cap trees
  once_all [] has = inl tt
  once_all (row ∷ rows) has =
      let id = has.0.id in
      let bytes = key_bytes has.0.key in
      elim (once_or (λ (r : Row). has_int id (column r 0)) (recordings_in trees)) [
        | inr two ↦ inr (twice two.0 two.1 two.2
            (inl (int_is id (column two.0 0) two.3 ∙ sym (int_is id (column two.1 0) two.4))))
        | inl one_id ↦ elim (once_or (λ (r : Row). has_bytes bytes (column r 1))
            (recordings_in trees)) [
              | inr two ↦ inr (twice two.0 two.1 two.2
                  (inr (bytes_are bytes (column two.0 1) two.3
                  ∙ sym (bytes_are bytes (column two.1 1) two.4))))
              | inl one_identity ↦ elim (once_all rows has.1) [
                | inr foreign ↦ inr foreign
                | inl more ↦ inl (
                  record {
                    id = id;
                    bytes = bytes;
                    id_is =
                        ap (λ (r : Row). column r 0) has.0.cells;
                    bytes_is =
                        ap (λ (r : Row). column r 1) has.0.cells;
                    one_id = one_id;
                    one_identity =
                        one_identity;
                  },
                  more,
                )
              ]
            ]
      ]

  -- ---- each record has its recording
  owned_or : AllByRecursion (HasRecords cap trees) (recordings_in trees) → (rows : List Row) →
      ((row : Row) → Contains rows row → Contains (trees 2) row) →
      AllByRecursion (BelongsToRecording trees) rows ⊎ IsForeign cap trees
  owned_or has [] in_all = inl tt
  owned_or has (row ∷ rows) in_all =
      elim (cases_Bool (list_any (λ g. owns g row) (recordings_in trees))) [
        | inr none ↦ inr (without_recording row (in_all row (here row rows))
            (λ id k is own. true≢false
            (sym (any_here (recordings_in trees) (recording_cells id k) row is.row own) ∙ none)))
        | inl some ↦ elim (owned_or has rows (λ r m. in_all r (there row r rows m))) [
          | inr foreign ↦ inr foreign
          | inl more ↦ inl (
            owned_by_one cap trees (recordings_in trees) row (IsPermutation-refl _)
                has some,
            more,
          )
        ]
      ]

-- rows are kept, or foreign
pub committed_or_foreign : (cap : ℕ) (trees : Trees) →
    ((h : Holdings) × RepresentCommitted cap trees h) ⊎ IsForeign cap trees
committed_or_foreign cap trees =
    let rows = recordings_in trees in
    elim (has_or cap trees rows (λ r c. c)) [
      | inr foreign ↦ inr foreign
      | inl has ↦ elim (once_all cap trees rows has) [
        | inr foreign ↦ inr foreign
        | inl once ↦ elim (owned_or cap trees has (trees 2) (λ r c. c)) [
          | inr foreign ↦ inr foreign
          | inl own ↦ inl (
            held_of cap trees rows has,
            are-kept cap trees has (apart_from rows once)
                (All-from_recursion (BelongsToRecording trees) (trees 2) own),
          )
        ]
      ]
    ]
