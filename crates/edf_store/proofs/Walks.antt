-- One step of a walk over the records of a recording.
use Rattle.std.proofs.Common.{◌≡◌, ℕ, zero, suc, ◌+◌, ◌≤◌, ℤ, pos, List, [], ◌∷◌, map, filter}
use Rattle.std.proofs.Common.{length, take, drop, slice_get, Option, Some, None, MatchOption, ◌<ℤ◌}
use Rattle.std.proofs.Common.{refl, sym, ap, subst, ◌∙◌, arith}
use Rattle.std.proofs.lemmas.List.Elements.{recursion_from_All}
use Rattle.sqlite.specs.Effect.{Database}
use Rattle.sqlite.specs.State.{State, HasCleanDisk, IsUnchanged}
use Rattle.edf_header.specs.Key.{Key, IsKey}
use Rattle.edf_fragment.specs.Fragment.{DataRecord}
use Rattle.edf_fragment.specs.Sound.{IsSoundRecord}
use Rattle.edf_holdings.specs.Holdings.{Holdings}
use Rattle.edf_tables.specs.Schema.{HasBoth}
use Rattle.edf_tables.specs.Cells.{cells_of}
use Rattle.edf_tables.specs.declared.row.RecordRow.{RecordRow}
use Rattle.edf_tables.specs.Records.{records_of, shown_record, starts_after, IsReady}
use Rattle.edf_rows.specs.Cells.{record_cells}
use Rattle.edf_rows.specs.Rows.{HasRecordingRow, RepresentCommitted}
use Rattle.edf_store.specs.Walk.{starts_later, IsCursorAfter, IsSomeWalk}
use Rattle.edf_store.specs.declared.cursor.Cursor.{Cursor}
use Rattle.edf_store.proofs.Near.{later_shown, later_place, later_start, rows_rising}
use Rattle.edf_store.proofs.KeysRead.{all_place}
use Rattle.edf_store.specs.Inside.Settled.{IsSettled, IsSelectedIn}

-- these rows show the first of these records
abbrev pub ShowFirst : List RecordRow → List DataRecord → Type 0
ShowFirst rows records = map cells_of rows ≡ map record_cells (take (length rows) records)

pub no_items : {X : Type 0} (xs : List X) → length xs ≡ 0 → xs ≡ []
no_items [] none = refl
no_items (x ∷ xs) none = absurd (omega (arith, none))

pub none_shown : (rows : List RecordRow) (records : List DataRecord) → rows ≡ [] →
    ShowFirst rows records
none_shown rows records none = subst (λ (l : List RecordRow). ShowFirst l records) (sym none) refl

-- a page shows as many records as it has rows
pub page_shown : (rows : List RecordRow) (limit : ℕ) (records : List DataRecord) →
    map cells_of rows ≡ map record_cells (take limit records) → ShowFirst rows records
page_shown [] limit records e = refl
page_shown (row ∷ rows) zero records e =
    absurd (let m : ◌≡◌ {A = ℕ} (suc (length (map cells_of rows))) 0 = ap length e in
    omega (arith, m))
page_shown (row ∷ rows) (suc limit) [] e =
    absurd (let m : ◌≡◌ {A = ℕ} (suc (length (map cells_of rows))) 0 = ap length e in
    omega (arith, m))
page_shown (row ∷ rows) (suc limit) (x ∷ xs) e =
    let first : cells_of row ≡ record_cells x = cc in
    let rest : map cells_of rows ≡ map record_cells (take limit xs) = cc in
    let more = page_shown rows limit xs rest in
    λ i. first i ∷ more i

-- a page has a row where a record follows
pub none_left : (xs : List DataRecord) (n limit : ℕ) (rows : List RecordRow) → n ≤ length xs →
    1 ≤ limit → map cells_of rows ≡ map record_cells (take limit (drop n xs)) → rows ≡ [] →
    n ≡ length xs
none_left [] zero limit rows within some e none = refl
none_left [] (suc n) limit rows within some e none = absurd (omega (arith, within))
none_left (x ∷ xs) zero zero rows within some e none = absurd (omega (arith, some))
none_left (x ∷ xs) zero (suc limit) [] within some e none =
    absurd (let m : ◌≡◌ {A = ℕ} 0 (suc (length (map record_cells (take limit xs)))) = ap length e in
    omega (arith, m))
none_left (x ∷ xs) zero (suc limit) (row ∷ rows) within some e none =
    absurd (let m : ◌≡◌ {A = ℕ} (suc (length rows)) 0 = ap length none in omega (arith, m))
none_left (x ∷ xs) (suc n) limit rows within some e none =
    ap suc (none_left xs n limit rows (omega (arith, within)) some e none)

-- the first row shows the next record, and the others those after it
pub row_left : (xs : List DataRecord) (n : ℕ) (row : RecordRow) (rest : List RecordRow) →
    ShowFirst (row ∷ rest) (drop n xs) → (d : DataRecord) × (slice_get xs n ≡ Some d)
    × (cells_of row ≡ record_cells d) × ShowFirst rest (drop (suc n) xs)
row_left [] zero row rest e = absurd (let m : ◌≡◌ {A = ℕ} (suc (length (map cells_of rest))) 0 =
    ap length e in omega (arith, m))
row_left [] (suc n) row rest e = absurd (let m : ◌≡◌ {A = ℕ} (suc (length (map cells_of rest))) 0 =
    ap length e in omega (arith, m))
row_left (x ∷ xs) zero row rest e =
    let first : cells_of row ≡ record_cells x = cc in
    let others : map cells_of rest ≡ map record_cells (take (length rest) xs) = cc in
    (x, refl, first, others)
row_left (x ∷ xs) (suc n) row rest e = row_left xs n row rest e

pub place_within : (xs : List DataRecord) (n : ℕ) (r : DataRecord) → slice_get xs n ≡ Some r →
    n + 1 ≤ length xs
place_within [] n r e = absurd (let none : ◌≡◌ {A = Option DataRecord} None (Some r) = e in cc)
place_within (x ∷ xs) zero r e = omega arith
place_within (x ∷ xs) (suc n) r e = let more = place_within xs n r e in omega (arith, more)

pub ready_walking : (cap : ℕ) (s : State) (id : ℤ) (cursor : Cursor) → HasCleanDisk s →
    IsSomeWalk cap s (Some id) cursor → IsReady id s
ready_walking cap s id cursor clean somewhere =
    let it = somewhere clean in
    record {
      schema = it.3.schema;
      rising =
          rows_rising s.now.trees cap it.0 id it.1 it.3.committed.stand it.3.committed.sound
          it.3.recording_is;
    }

-- what a first row that was read ahead tells
pub record Next (k : Key) (records : List DataRecord) (n : ℕ) (row : RecordRow)
    (rest : List RecordRow) : Type 0 where
  pub data_record : DataRecord
  pub place : slice_get records n ≡ Some data_record
  pub cells : cells_of row ≡ record_cells data_record
  pub others : ShowFirst rest (drop (suc n) records)
  pub sound : IsSoundRecord k data_record

-- what is read of that row is the next record
pub read_next : (k : Key) (records : List DataRecord) (n : ℕ) (row : RecordRow)
    (rest : List RecordRow) (r : DataRecord) → Next k records n row rest
    → ((d : DataRecord) → IsSoundRecord k d → cells_of row ≡ record_cells d → r ≡ d) →
    slice_get records n ≡ Some r
read_next k records n row rest r next read = next.place
    ∙ ap Some (sym (read next.data_record next.sound next.cells))

module _ (cap : ℕ) (s : State) (id : ℤ) (cursor : Cursor) (h : Holdings) (k : Key) (n : ℕ)
    (it : IsCursorAfter cap s (Some id) cursor h k n) where
  -- a statement that changes nothing leaves a walk where it is
  pub still_walks : (t : State) → IsUnchanged s t → IsCursorAfter cap t (Some id) cursor h k n
  still_walks t same = record {
    is_open = same.0.is_open;
    idle = same.0.mode ∙ it.idle;
    settled = same.0.now_is ∙ it.settled ∙ sym same.0.committed_is;
    schema = subst (λ (d : Database). HasBoth d.schema) (sym same.0.now_is) it.schema;
    committed = subst (λ (d : Database). RepresentCommitted cap d.trees h)
        (sym same.0.now_is) it.committed;
    key = it.key;
    recording_is = subst (λ (d : Database). HasRecordingRow d.trees id k)
        (sym same.0.now_is) it.recording_is;
    within = it.within;
    some = it.some;
    later = it.later;
    ahead = it.ahead;
  }

  -- the rows of the next page show the records that come next
  module _ (rows : List RecordRow) (shown : map cells_of rows ≡ map shown_record
      (take cursor.limit (filter (starts_after cursor.start)
      (records_of id (s.now.trees 2))))) where
    next_shown : map cells_of rows ≡ map record_cells (take cursor.limit (drop n (h k)))
    next_shown = shown ∙ later_shown s.now.trees h id k cursor.start cursor.limit it.committed.stand
        it.recording_is ∙ ap (λ (l : List DataRecord). map record_cells (take cursor.limit l))
        it.later

    pub page_next : ShowFirst rows (drop n (h k))
    page_next = page_shown rows cursor.limit (drop n (h k)) next_shown

    pub none_next : rows ≡ [] → n ≡ length (h k)
    none_next none = none_left (h k) n cursor.limit rows it.within it.some next_shown none

  pub record_next : (row : RecordRow) (rest : List RecordRow) → cursor.rows.items ≡ row ∷ rest →
      Next k (h k) n row rest
  record_next row rest e =
      let found = row_left (h k) n row rest
      (subst (λ (l : List RecordRow). ShowFirst l (drop n (h k))) e it.ahead) in
      record {
        data_record = found.0;
        place = found.1;
        cells = found.2;
        others = found.3;
        sound = all_place (IsSoundRecord k) (h k)
            (recursion_from_All (IsSoundRecord k) (h k) (it.committed.sound.records k)) n found.0
            found.1;
      }

  -- the walk with other rows that were read ahead
  module _ (next : Cursor) (limit : next.limit ≡ cursor.limit) where
    pub page_walks : next.start ≡ cursor.start → ShowFirst next.rows.items (drop n (h k)) →
        IsCursorAfter cap s (Some id) next h k n
    page_walks start ahead = record {
      is_open = it.is_open;
      idle = it.idle;
      settled = it.settled;
      schema = it.schema;
      committed = it.committed;
      key = it.key;
      recording_is = it.recording_is;
      within = it.within;
      some = omega (arith, it.some, limit);
      later = subst (λ (z : ℤ). filter (starts_later z) (h k) ≡ drop n (h k)) (sym start) it.later;
      ahead = ahead;
    }

    pub walk_ended : next.start ≡ cursor.start → next.rows.items ≡ [] → n ≡ length (h k) →
        IsCursorAfter cap s None next h k n
    walk_ended start none all = record {
      is_open = it.is_open;
      idle = it.idle;
      settled = it.settled;
      schema = it.schema;
      committed = it.committed;
      key = it.key;
      recording_is = all;
      within = it.within;
      some = omega (arith, it.some, limit);
      later = subst (λ (z : ℤ). filter (starts_later z) (h k) ≡ drop n (h k)) (sym start) it.later;
      ahead = none_shown next.rows.items (drop n (h k)) none;
    }

    pub then_walks : (r : DataRecord) → slice_get (h k) n ≡ Some r → next.start ≡ pos r.start →
        ShowFirst next.rows.items (drop (suc n) (h k)) →
        IsCursorAfter cap s (Some id) next h k (n + 1)
    then_walks r place start others = record {
      is_open = it.is_open;
      idle = it.idle;
      settled = it.settled;
      schema = it.schema;
      committed = it.committed;
      key = it.key;
      recording_is = it.recording_is;
      within = place_within (h k) n r place;
      some = omega (arith, it.some, limit);
      later = subst (λ (z : ℤ). filter (starts_later z) (h k) ≡ drop (n + 1) (h k)) (sym start)
          (later_place 0 (h k) (it.committed.sound.rising k) n r place
          ∙ ap (λ m. drop m (h k)) (suc_is n));
      ahead = subst (λ (m : ℕ). ShowFirst next.rows.items (drop m (h k))) (suc_is n) others;
    }
      where
        suc_is : (n : ℕ) → suc n ≡ n + 1
        suc_is n = omega arith

-- where a walk begins
pub at_start : (cap : ℕ) (s : State) (id : Option ℤ) (cursor : Cursor) (h : Holdings) (k : Key) →
    cursor.start <ℤ pos 0 → 1 ≤ cursor.limit → cursor.rows.items ≡ [] → IsSettled cap s →
    RepresentCommitted cap s.now.trees h → IsKey k → IsSelectedIn s k h id
    → IsCursorAfter cap s id cursor h k 0
at_start cap s id cursor h k low some none it kept key found = record {
  is_open = it.is_open;
  idle = it.idle;
  settled = it.settled;
  schema = it.schema;
  committed = kept;
  key = key;
  recording_is = go id found;
  within = omega arith;
  some = some;
  later = later_start 0 (h k) (kept.sound.rising k) cursor.start low;
  ahead = none_shown cursor.rows.items (h k) none;
}
  where
    go : (id : Option ℤ) → IsSelectedIn s k h id →
        MatchOption id (0 ≡ length (h k)) (λ m. HasRecordingRow s.now.trees m k)
    go None none = sym (ap length none)
    go (Some m) there = there
