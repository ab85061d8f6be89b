-- The summary of a recording, read off its rows.
use Rattle.std.proofs.Common.{◌≡◌, ◌≢◌, ℕ, ◌<◌, ◌≤◌, ℤ, pos, List, [], ◌∷◌, map, min, length}
use Rattle.std.proofs.Common.{reverse, slice_get, Option, Some, None, refl, sym, ap, subst, ◌∙◌}
use Rattle.std.proofs.Common.{arith}
use Rattle.std.specs.Option.{option_map}
use Rattle.std.specs.List.{AllByRecursion}
use mathlib.Core.List.{reverse_aux}
use Rattle.std.proofs.lemmas.List.{length-reverse}
use Rattle.std.proofs.lemmas.List.Elements.{recursion_from_All}
use Rattle.std.proofs.lemmas.List.Sorted.{All-permutation, IsPermutation-reverse}
use Rattle.sqlite_value.specs.declared.value.Value.TheVariants.{Int}
use Rattle.sqlite_value.specs.Order.{Row, column}
use Rattle.sqlite_trees.specs.Tree.{Trees}
use Rattle.sqlite.specs.Effect.{Database}
use Rattle.sqlite.specs.State.{State, HasCleanDisk, Survives, IsUnchanged}
use Rattle.edf_time.specs.Civil.{window}
use Rattle.edf_header.specs.Key.{Key}
use Rattle.edf_fragment.specs.Fragment.{DataRecord}
use Rattle.edf_fragment.specs.Sound.{IsSoundRecord}
use Rattle.edf_holdings.specs.Holdings.{Holdings}
use Rattle.edf_tables.specs.Schema.{HasBoth}
use Rattle.edf_tables.specs.Records.{records_of, shown_record, IsReady, HaveRisingStarts}
use Rattle.edf_header.specs.declared.limits.TheConstants.{MOST_RECORDS}
use Rattle.edf_rows.specs.Cells.{record_cells}
use Rattle.edf_rows.specs.Rows.{HasRecordingRow, RepresentCommitted}
use Rattle.edf_store.specs.Summaries.{IsSummary, start_at}
use Rattle.edf_store.specs.Held.{AreHeld}
use Rattle.edf_store.specs.Inside.Settled.{IsSettled}
use Rattle.edf_store.specs.declared.summaries.Summary.{Summary}
use Rattle.edf_store.proofs.StoredRows.{Show, show_from, from_show}
use Rattle.edf_store.proofs.Standing.{shown_of}
use Rattle.edf_store.proofs.Near.{count_shown, rows_rising}
use Rattle.edf_store.proofs.Keys.{first_is}
use Rattle.edf_store.proofs.Readiness.{held_now}

map_turned : {X Y : Type 0} (f : X → Y) (xs acc : List X) →
    map f (reverse_aux xs acc) ≡ reverse_aux (map f xs) (map f acc)
map_turned f [] acc = refl
map_turned f (x ∷ xs) acc = map_turned f xs (x ∷ acc)

map_reverse : {X Y : Type 0} (f : X → Y) (xs : List X) → map f (reverse xs) ≡ reverse (map f xs)
map_reverse f xs = map_turned f xs []

pub show_reverse : (rows : List Row) (xs : List DataRecord) → Show rows xs →
    Show (reverse rows) (reverse xs)
show_reverse rows xs s = show_from (reverse rows) (reverse xs) (map_reverse shown_record rows
    ∙ ap reverse (from_show rows xs s) ∙ sym (map_reverse record_cells xs))

abbrev pub number_at : List DataRecord → Option ℤ
number_at xs = option_map (λ (r : DataRecord). pos r.start) (slice_get xs 0)

start_is : (xs : List DataRecord) (n : ℕ) → Some (pos n) ≡ number_at xs → start_at xs 0 ≡ Some n
start_is [] n e = absurd (let none : ◌≡◌ {A = Option ℤ} (Some (pos n)) None = e in cc)
start_is (x ∷ xs) n e = let same : n ≡ x.start = cc in ap (λ (m : ℕ). Some m) (sym same)

-- the rows are ready to be read by their starts
pub ready_at : (cap : ℕ) (s : State) (id : ℤ) (k : Key) → IsSettled cap s →
    HasRecordingRow s.now.trees id k → IsReady id s
ready_at cap s id k it there = record {
  schema = it.schema;
  rising =
      rows_rising s.now.trees cap it.holdings.0 id k it.holdings.1.stand it.holdings.1.sound there;
}

pub still_ready : (old new : State) (id : ℤ) → IsUnchanged old new → IsReady id old → IsReady id new
still_ready old new id same it =
    record {
      schema = subst (λ (d : Database). HasBoth d.schema) (sym same.0.now_is) it.schema;
      rising = subst (λ (d : Database). HaveRisingStarts (records_of id (d.trees 2)))
          (sym same.0.now_is) it.rising;
    }

module _ (cap : ℕ) (trees : Trees) (h : Holdings) (id : ℤ) (k : Key)
    (kept : RepresentCommitted cap trees h)
    (there : HasRecordingRow trees id k) (small : cap ≤ MOST_RECORDS) where
  shown : Show (records_of id (trees 2)) (h k)
  shown = shown_of trees h kept.stand id k there

  pub count_of : (count : ℕ) → count ≡ min (length (records_of id (trees 2))) 9223372036854775807 →
      (count ≡ length (h k)) × (count ≤ MOST_RECORDS)
  count_of count e =
      let rows = count_shown trees h id k kept.stand there in
      let few = kept.sound.within_cap k in
      (omega (arith, e, rows, few, small), omega (arith, e, rows, few, small))

  pub first_of : (start : Option ℤ) → option_map Int start ≡ option_map (λ row. column row 2)
      (slice_get (records_of id (trees 2)) 0) → start ≡ number_at (h k)
  first_of start e = first_is (records_of id (trees 2)) (h k) start shown e

  pub last_of : (start : Option ℤ) → option_map Int start ≡ option_map (λ row. column row 2)
      (slice_get (reverse (records_of id (trees 2))) 0) → start ≡ number_at (reverse (h k))
  last_of start e = first_is (reverse (records_of id (trees 2))) (reverse (h k)) start
      (show_reverse _ _ shown) e

  pub summary_is : (count : ℕ) (first last : Option ℤ) (summary : Summary)
      → count ≡ min (length (records_of id (trees 2))) 9223372036854775807
      → option_map Int first ≡ option_map (λ row. column row 2)
      (slice_get (records_of id (trees 2)) 0)
      → option_map Int last ≡ option_map (λ row. column row 2)
      (slice_get (reverse (records_of id (trees 2))) 0)
      → (summary.records ≡ count) × (first ≡ Some (pos summary.first))
      × (last ≡ Some (pos summary.last)) → IsSummary (h k) (Some summary)
  summary_is count first last summary c f l is = (
    is.0 ∙ (count_of count c).0,
    start_is (h k) summary.first (sym is.1 ∙ first_of first f),
    start_is (reverse (h k)) summary.last (sym is.2 ∙ last_of last l),
  )

  some_of : h k ≢ []
  some_of none = kept.each id k there (kept.stand.held id k there ∙ ap (map record_cells) none)

  -- a list that isn't empty has a first start, in the window
  has_start : (xs : List DataRecord) → xs ≢ [] → AllByRecursion (IsSoundRecord k) xs → (n : ℕ)
      × (n < window) × (number_at xs ≡ Some (pos n))
  has_start [] some all = absurd (some refl)
  has_start (x ∷ xs) some all = (x.start, all.0.start, refl)

  turned_some : reverse (h k) ≢ []
  turned_some none = some_of (no_length (h k) (sym (length-reverse (h k)) ∙ ap length none))
    where
      no_length : (xs : List DataRecord) → length xs ≡ 0 → xs ≡ []
      no_length [] e = refl
      no_length (x ∷ xs) e = absurd (omega (arith, e))

  turned_sound : AllByRecursion (IsSoundRecord k) (reverse (h k))
  turned_sound = recursion_from_All (IsSoundRecord k) (reverse (h k))
      (All-permutation (IsSoundRecord k) (h k) (reverse (h k)) (IsPermutation-reverse (h k))
      (kept.sound.records k))

  -- what the rows tell can be a summary
  pub in_bounds : (count : ℕ) (first last : Option ℤ) (E : Type 0)
      → count ≡ min (length (records_of id (trees 2))) 9223372036854775807
      → option_map Int first ≡ option_map (λ row. column row 2)
      (slice_get (records_of id (trees 2)) 0)
      → option_map Int last ≡ option_map (λ row. column row 2)
      (slice_get (reverse (records_of id (trees 2))) 0)
      → ((a b : ℕ) → count ≤ MOST_RECORDS → a < window → b < window → first ≡ Some (pos a) →
      last ≡ Some (pos b) → E) → E
  in_bounds count first last E c f l make =
      let one = has_start (h k) some_of
      (recursion_from_All (IsSoundRecord k) (h k) (kept.sound.records k)) in
      let other = has_start (reverse (h k)) turned_some turned_sound in
      make one.0 other.0 (count_of count c).1 one.1 other.1 (first_of first f
      ∙ one.2) (last_of last l ∙ other.2)

abbrev CountAt : State → ℤ → ℕ → Type 0
CountAt s id count = count ≡ min (length (records_of id (s.now.trees 2))) 9223372036854775807

abbrev pub FirstAt : State → ℤ → Option ℤ → Type 0
FirstAt s id start = option_map Int start ≡ option_map (λ row. column row 2)
    (slice_get (records_of id (s.now.trees 2)) 0)

abbrev pub LastAt : State → ℤ → Option ℤ → Type 0
LastAt s id start = option_map Int start ≡ option_map (λ row. column row 2)
    (slice_get (reverse (records_of id (s.now.trees 2))) 0)

-- three reads of a store that nothing changes between them
module _ (cap : ℕ) (a b c d : State) (id : ℤ) (count : ℕ) (first last : Option ℤ)
    (small : cap ≤ MOST_RECORDS) (settled : HasCleanDisk a → IsSettled cap a)
    (one : Survives a b (λ _. ⊥)) (two : Survives b c (λ _. ⊥)) (three : Survives c d (λ _. ⊥))
    (same : HasCleanDisk b → IsUnchanged a b) (again : HasCleanDisk c → IsUnchanged b c)
    (counted : HasCleanDisk b → CountAt a id count) (began : HasCleanDisk c →
    FirstAt b id first) (ended : HasCleanDisk d → LastAt c id last) (clean : HasCleanDisk d)
  where
    clean_c : HasCleanDisk c
    clean_c = omega (arith, three.clean, clean)

    clean_b : HasCleanDisk b
    clean_b = omega (arith, two.clean, clean_c)

    clean_a : HasCleanDisk a
    clean_a = omega (arith, one.clean, clean_b)

    began_then : FirstAt a id first
    began_then = subst (λ (db : Database). option_map Int first ≡ option_map (λ row. column row 2)
        (slice_get (records_of id (db.trees 2)) 0)) (same clean_b).0.now_is (began clean_c)

    ended_then : LastAt a id last
    ended_then = subst (λ (db : Database). option_map Int last ≡ option_map (λ row. column row 2)
        (slice_get (reverse (records_of id (db.trees 2))) 0)) ((again clean_c).0.now_is
        ∙ (same clean_b).0.now_is) (ended clean)

    pub summary_read : (summary : Summary) → (summary.records ≡ count)
        × (first ≡ Some (pos summary.first)) × (last ≡ Some (pos summary.last)) →
        (h : Holdings) (k : Key) → AreHeld cap a h → HasRecordingRow a.now.trees id k →
        IsSummary (h k) (Some summary)
    summary_read summary is h k held there =
        summary_is cap a.now.trees h id k (held_now cap a clean_a (settled clean_a) h held) there
        small count first last summary (counted clean_b) began_then ended_then is

    pub bounds_read : (HasCleanDisk a → (k : Key) × HasRecordingRow a.now.trees id k) →
        (E : Type 0) →
        ((x y : ℕ) → count ≤ MOST_RECORDS → x < window → y < window → first ≡ Some (pos x) →
        last ≡ Some (pos y) → E) → E
    bounds_read there E make =
        let it = (settled clean_a).holdings in
        let k = there clean_a in
        in_bounds cap a.now.trees it.0 id k.0 it.1 k.1 small count first last E (counted clean_b)
        began_then ended_then make
