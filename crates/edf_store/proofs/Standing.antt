-- What the tables stand for with one row more.
use Rattle.std.proofs.Common.{◌≡◌, ◌≢◌, ℤ, pos, ◌⊎◌, inl, inr, Bool, true, false, List, [], ◌∷◌}
use Rattle.std.proofs.Common.{map, Contains, All, IsTrue, refl, sym, ap, subst, ◌∙◌, true≢false}
use Rattle.std.proofs.Common.{is_eq, Ordering, Less, Equal, Greater}
use Rattle.std.specs.List.{AllByRecursion}
use Rattle.std.specs.Ordering.{int_cmp}
use Rattle.std.specs.Cmp.{int_cmp_is}
use Rattle.std.proofs.lemmas.Bool.{cond-false, cases_Bool}
use Rattle.std.proofs.lemmas.List.Elements.{All-from_recursion, recursion_from_All}
use Rattle.std.proofs.lemmas.Map.Lookups.{exact_signed}
use Rattle.sqlite_value.specs.declared.value.Value.TheVariants.{Int}
use Rattle.sqlite_value.specs.Order.{Row, column}
use Rattle.sqlite_trees.specs.Tree.{Trees}
use Rattle.sqlite_keyed.proofs.ListLemmas.{all_weaker}
use Rattle.sqlite_value.proofs.OrderLemmas.{value_cmp_total}
use Rattle.std.proofs.lemmas.Cmp.{tied_itself}
use Rattle.sqlite.specs.State.{State}
use Rattle.edf_field.specs.Number.{duration_of}
use Rattle.edf_header.specs.Key.{Key}
use Rattle.edf_tal.specs.Canonical.{tals_text}
use Rattle.edf_fragment.specs.Fragment.{DataRecord}
use Rattle.edf_holdings.specs.Same.{same_key}
use Rattle.edf_holdings.specs.Clash.{overlapping}
use Rattle.edf_holdings.specs.Rising.{insert, union}
use Rattle.edf_holdings.specs.Holdings.{Holdings, with_records}
use Rattle.edf_holdings.proofs.Same.{same_key-true, same_key-Decides}
use Rattle.edf_holdings.proofs.Joining.{lasting, put_here}
use Rattle.edf_tables.specs.Row.{cells, new_row, HasRecord}
use Rattle.edf_tables.specs.Records.{records_of, shown_record}
use Rattle.edf_tables.proofs.Held.{own_records, other_records}
use Rattle.edf_rows.specs.Cells.{record_cells, recording_cells, recordings_in, records_in}
use Rattle.edf_tables.specs.Columns.{is_of}
use Rattle.edf_rows.specs.Rows.{HasRecordingRow, IsRecordingRow, BelongsToRecording, AreTwoOf}
use Rattle.edf_rows.specs.Rows.{DifferInIdAndKey, Represent}
use Rattle.edf_rows.proofs.Rows.{same-recordings}
use Rattle.edf_store.proofs.StoredRows.{Show, show_from, from_show, NotAt, not_at, show_more}
use Rattle.edf_store.proofs.StoredRows.{others_at, all_put, two_of}

-- ids are compared as numbers
pub other_id : (m n : ℤ) → m ≢ n → is_eq (int_cmp m n) ≡ false
other_id m n apart = elim (cases_Bool (is_eq (int_cmp m n))) [
  | inl e ↦ absurd (apart (same_of (int_cmp m n) refl e))
  | inr e ↦ e
]
  where
    same_of : (o : Ordering) → int_cmp m n ≡ o → is_eq (int_cmp m n) ≡ true → m ≡ n
    same_of Less e h = absurd (true≢false (sym h ∙ ap is_eq e))
    same_of Equal e h = exact_signed m n e
    same_of Greater e h = absurd (true≢false (sym h ∙ ap is_eq e))

pub cases_id : (m n : ℤ) → (m ≡ n) ⊎ (m ≢ n)
cases_id m n = go (int_cmp m n) refl
  where
    go : (o : Ordering) → int_cmp m n ≡ o → (m ≡ n) ⊎ (m ≢ n)
    go Less e = inr (λ p. absurd (let c : Less ≡ Equal = sym e ∙ sym (int_cmp_is m n Equal p) in
        cc))
    go Equal e = inl (exact_signed m n e)
    go Greater e = inr (λ p. absurd (let c : Greater ≡ Equal = sym e
        ∙ sym (int_cmp_is m n Equal p) in cc))

-- one recording's id is no other's
pub one_key : (trees : Trees) (h : Holdings) → Represent trees h → (id : ℤ) (k q : Key) →
    HasRecordingRow trees id k → HasRecordingRow trees id q → k ≡ q
one_key trees h stand id k q a b = go (same_key k q) refl
  where
    go : (s : Bool) → same_key k q ≡ s → k ≡ q
    go true e = same_key-true k q e
    go false e =
        let apart : recording_cells id k ≢ recording_cells id q =
        λ p. true≢false (sym ((same_key-Decides k q).1
        (same-recordings id id k q a.key b.key p).1) ∙ e) in
        absurd ((stand.apart (recording_cells id k) (recording_cells id q)
        (two_of (recordings_in trees) _ _ a.row b.row apart)).id refl)

pub one_id : (trees : Trees) (h : Holdings) → Represent trees h → (m n : ℤ) (k : Key) →
    HasRecordingRow trees m k → HasRecordingRow trees n k → m ≡ n
one_id trees h stand m n k a b = elim (cases_id m n) [
  | inl e ↦ e
  | inr apart ↦
      let rows : recording_cells m k ≢ recording_cells n k =
      λ p. apart (same-recordings m n k k a.key b.key p).0 in
      absurd ((stand.apart (recording_cells m k) (recording_cells n k)
      (two_of (recordings_in trees) _ _ a.row b.row rows)).identity refl)
]

-- the rows of a recording show its records
pub shown_of : (trees : Trees) (h : Holdings) → Represent trees h → (id : ℤ) (k : Key) →
    HasRecordingRow trees id k → Show (records_of id (trees 2)) (h k)
shown_of trees h stand id k there =
    show_from (records_of id (trees 2)) (h k) (stand.held id k there)

-- ---- a record more
module _ (old new : State) (id : ℤ) (k : Key) (r : DataRecord) (h : Holdings)
    (has : HasRecord old new (cells id (pos r.start) r.samples (tals_text 0 r.start r.annotations)))
    (stand : Represent old.now.trees h) (there : HasRecordingRow old.now.trees id k)
    (none : overlapping (duration_of k.duration) r.start (h k) ≡ []) where
  pub there_same : (m : ℤ) (q : Key) → HasRecordingRow new.now.trees m q →
      HasRecordingRow old.now.trees m q
  there_same m q it = record {
    row =
        subst (λ (rows : List Row). Contains (map (λ row. column row 0 ∷ column row 2 ∷ []) rows)
        (recording_cells m q)) has.recordings it.row;
    key = it.key;
  }

  pub there_too : (m : ℤ) (q : Key) → HasRecordingRow old.now.trees m q →
      HasRecordingRow new.now.trees m q
  there_too m q it = record {
    row =
        subst (λ (rows : List Row). Contains (map (λ row. column row 0 ∷ column row 2 ∷ []) rows)
        (recording_cells m q)) (sym has.recordings) it.row;
    key = it.key;
  }

  abbrev row : Row
  row = new_row (old.now.trees 2) (cells id (pos r.start) r.samples
      (tals_text 0 r.start r.annotations))

  apart : NotAt r.start (h k)
  apart = not_at (duration_of k.duration) r.start (h k) (lasting k there.key) none

  own : map shown_record (records_of id (new.now.trees 2)) ≡ map record_cells (insert r (h k))
  own =
      let shown = shown_of old.now.trees h stand id k there in
      ap (map shown_record) (own_records old new id (pos r.start) r.samples
      (tals_text 0 r.start r.annotations) has
      (others_at r row (records_of id (old.now.trees 2)) (h k) refl apart shown))
      ∙ from_show _ _ (show_more r row (records_of id (old.now.trees 2)) (h k) refl apart shown)

  held_now : (m : ℤ) (q : Key) → HasRecordingRow new.now.trees m q →
      records_in new.now.trees m ≡ map record_cells (with_records k (r ∷ []) h q)
  held_now m q it = go (cases_id id m)
    where
      was : HasRecordingRow old.now.trees m q
      was = there_same m q it

      go : (id ≡ m) ⊎ (id ≢ m) → records_in new.now.trees m
          ≡ map record_cells (with_records k (r ∷ []) h q)
      go (inl e) =
          let same : k ≡ q = one_key old.now.trees h stand m k q
          (subst (λ (n : ℤ). HasRecordingRow old.now.trees n k) e there) was in
          ap (records_in new.now.trees) (sym e) ∙ own
          ∙ ap (map record_cells) (sym (put_here k (r ∷ []) h))
          ∙ ap (λ (p : Key). map record_cells (with_records k (r ∷ []) h p)) same
      go (inr other) =
          let differ : same_key k q ≡ false = elim (cases_Bool (same_key k q)) [
            | inl e ↦ absurd (other (one_id old.now.trees h stand id m q
                (subst (HasRecordingRow old.now.trees id) (same_key-true k q e) there) was))
            | inr e ↦ e
          ] in
          ap (map shown_record) (other_records old new m id (pos r.start) r.samples
          (tals_text 0 r.start r.annotations) has (other_id id m other))
          ∙ stand.held m q was ∙ ap (map record_cells)
          (sym (cond-false (same_key k q) (union (h q) (r ∷ [])) (h q) differ))

  owned_now : AllByRecursion (BelongsToRecording new.now.trees) (old.now.trees 2) →
      BelongsToRecording new.now.trees row →
      AllByRecursion (BelongsToRecording new.now.trees) (new.now.trees 2)
  owned_now all one = subst (AllByRecursion (BelongsToRecording new.now.trees)) (sym has.records)
      (all_put (BelongsToRecording new.now.trees) row (old.now.trees 2) one all)

  pub stand_more : Represent new.now.trees (with_records k (r ∷ []) h)
  stand_more = record {
    recordings = subst (λ (rows : List Row).
        All IsRecordingRow (map (λ row. column row 0 ∷ column row 2 ∷ []) rows))
        (sym has.recordings) stand.recordings;
    apart = subst (λ (rows : List Row). (a b : Row) →
        AreTwoOf (map (λ row. column row 0 ∷ column row 2 ∷ []) rows) a b →
        DifferInIdAndKey a b) (sym has.recordings) stand.apart;
    owned = All-from_recursion (BelongsToRecording new.now.trees) (new.now.trees 2) (owned_now
        (all_weaker (BelongsToRecording old.now.trees) (BelongsToRecording new.now.trees)
        (λ one own. record {
          id = own.id;
          key = own.key;
          there =
              there_too own.id own.key own.there;
          owned = own.owned;
        }) (old.now.trees 2)
        (recursion_from_All (BelongsToRecording old.now.trees) (old.now.trees 2) stand.owned))
        (record { id = id; key = k; there = there_too id k there; owned = is_own }));
    held = held_now;
    others = λ q gone.
        let differ : same_key k q ≡ false = elim (cases_Bool (same_key k q)) [
          | inl e ↦ absurd (gone id (there_too id q
              (subst (HasRecordingRow old.now.trees id) (same_key-true k q e) there)))
          | inr e ↦ e
        ] in
        cond-false (same_key k q) (union (h q) (r ∷ [])) (h q) differ
        ∙ stand.others q (λ m it. gone m (there_too m q it));
  }
    where
      is_own : IsTrue (is_of id row)
      is_own = ap is_eq (tied_itself value_cmp_total (Int id))
