-- Where a walk by `Rows` is, and what it tells when it ends.
use Rattle.std.proofs.Common.{◌≡◌, IsSorted, ℕ, ◌+◌, ◌<◌, ◌≤◌}
use Rattle.std.proofs.Common.{inl, inr, ℤ, pos, List, [], ◌∷◌, ◌++◌, map, length, Option, Some}
use Rattle.std.proofs.Common.{None, refl, sym, ap, subst, ◌∙◌, arith, IsPermutation, append_assoc}
use Rattle.std.proofs.lemmas.List.{length-append, length-map, map-append, nil_from_length}
use Rattle.std.proofs.lemmas.List.Sorted.{length_permutation}
use Rattle.sqlite.specs.declared.types.Value.TheVariants.{Int}
use Rattle.sqlite.specs.Order.{Row}
use Rattle.sqlite_sql.specs.Program.{overlay}
use Rattle.edf_tables.specs.Columns.{by_column}
use Rattle.edf_tables.proofs.Queries.{of_recording, start_samples_block}
use Rattle.edf_tables.proofs.Answers.{in_order}
use Rattle.sqlite.specs.Effect.{Database}
use Rattle.sqlite_trees.specs.declared.store.Store.{Ghosts}
use Rattle.sqlite.specs.Held.{Held, state}
use Rattle.sqlite.specs.Given.{HasGiven, Advances}
use Rattle.sqlite.specs.State.{State, IsUnchanged}
use Rattle.edf_field.specs.Number.{duration_of}
use Rattle.edf_header.specs.Key.{Key}
use Rattle.edf_fragment.specs.Fragment.{DataRecord}
use Rattle.edf_fragment.specs.Sound.{AreSoundFrom, FirstMayStart}
use Rattle.edf_tables.specs.Schema.{HasBoth}
use Rattle.edf_tables.proofs.QueryTexts.{rows_text, rows_is}
use Rattle.edf_tables.proofs.Shown.{answer_of, answer_begun}
use Rattle.edf_rows.specs.Cells.{record_cells, records_in}
use Rattle.edf_rows.specs.Foreign.{AreBadRecords, bad_row, too_near, too_few, too_many}
use Rattle.edf_rows.specs.Inside.Records.{IsNextRow, IsWrong, MayComeNext, HasSound}
use Rattle.edf_rows.proofs.GivenRows.{last_start, last_push, last_split, no_last, push_sound}
use Rattle.edf_rows.proofs.GivenRows.{push_begins, answer_moved, only_sound, by_start}
use Rattle.edf_rows.proofs.GivenRows.{is_three, given_member, given_two, late_first}

-- these records were given, sound and a duration apart, and this is the last start
pub record Stands {S : Type 0} (g : Ghosts S) (recording : ℤ) (k : Key) (last : Option ℕ)
    (count : ℕ) (h : Held S) : Type 0 where
  pub records : List DataRecord
  pub given : HasGiven g rows_text (Int recording ∷ []) h (map record_cells records)
  pub sound : AreSoundFrom k 0 records
  pub begins : FirstMayStart k records
  pub last_is : last ≡ last_start records
  pub size : length records ≡ count

module _ {S : Type 0} (g : Ghosts S) (recording : ℤ) (k : Key) (long : 0 < duration_of k.duration)
    (old : State) (has : HasBoth old.now.schema) where
  abbrev pub rows_there : List Row
  rows_there = records_in old.now.trees recording

  -- the rows that were given and some more are the recording's, in order
  pub begun : (h : Held S) (rows : List Row) → IsUnchanged old (state g h) →
      HasGiven g rows_text (Int recording ∷ []) h rows
      → (tail : List Row) × IsPermutation rows_there (rows ++ tail)
      × IsSorted (by_column 0) (rows ++ tail)
  begun h rows same given =
      let there : HasBoth (state g h).now.schema =
      subst (λ (b : Database). HasBoth b.schema) (sym same.0.now_is) has in
      let it = answer_begun rows_text _ _ rows_is g (Int recording ∷ []) h rows there given in (
        it.0,
        subst (λ (b : Database). IsPermutation (records_in b.trees recording) (rows ++ it.0))
            same.0.now_is (answer_moved (state g h).now.trees recording (rows ++ it.0) it.1),
        in_order 2 2 (of_recording ∷ []) start_samples_block (Int recording ∷ [])
            (overlay (state g h).now.trees []) (rows ++ it.0) it.1 (λ r. refl),
      )

  pub starts : (h : Held S) → HasGiven g rows_text (Int recording ∷ []) h [] →
      Stands g recording k None 0 h
  starts h given = record {
    records = [];
    given = given;
    sound = tt;
    begins = tt;
    last_is = refl;
    size = refl;
  }

  -- the row that was given is one of the recording's
  given_row : (records : List DataRecord) (row : Row) (was now : Held S) →
      IsUnchanged old (state g now) →
      HasGiven g rows_text (Int recording ∷ []) was (map record_cells records) →
      Advances g was now (Some row)
      → (tail : List Row) × IsPermutation rows_there (map record_cells records ++ row ∷ tail)
  given_row records row was now same given on =
      let it = begun now (map record_cells records
      ++ row ∷ []) same (on rows_text (Int recording ∷ []) (map record_cells records) given) in (
        it.0,
        subst (IsPermutation rows_there)
            (append_assoc (map record_cells records) (row ∷ []) it.0) it.1,
      )

  pub moves : (last : Option ℕ) (count start : ℕ) (row : Row) (was now : Held S) →
      IsUnchanged old (state g now) → Stands g recording k last count was →
      Advances g was now (Some row) → IsNextRow k last row start
      → Stands g recording k (Some start) (count + 1) now
  moves last count start row was now same stands on next =
      let r = next.is_start.data_record in
      let it = given_row stands.records row was now same stands.given on in
      let member = given_member old.now.trees recording (map record_cells stands.records) it.0 row
      it.1 in
      let is : row ≡ record_cells r = is_three old.now.trees recording row member
      ∙ next.is_start.row_of.cells in
      let rows : map record_cells stands.records
      ++ row ∷ [] ≡ map record_cells (stands.records ++ r ∷ []) =
      ap (λ x. map record_cells stands.records ++ x ∷ []) is
      ∙ sym (map-append record_cells stands.records (r ∷ [])) in
      let follows : MayComeNext k (last_start stands.records) r.start =
      subst (λ n. MayComeNext k (last_start stands.records) n) next.is_start.start_is
      (subst (λ l. MayComeNext k l start) stands.last_is next.follows) in
      record {
        records = stands.records ++ r ∷ [];
        given = subst (HasGiven g rows_text (Int recording ∷ []) now) rows
            (on rows_text (Int recording ∷ []) (map record_cells stands.records) stands.given);
        sound = push_sound k stands.records r stands.sound next.is_start.row_of.sound follows;
        begins = push_begins k stands.records r stands.begins follows;
        last_is = ap (λ n. Some n) next.is_start.start_is ∙ sym (last_push stands.records r);
        size = length-append stands.records (r ∷ []) ∙ ap (λ n. n + 1) stands.size;
      }

  pub stops : (cap count : ℕ) (last : Option ℕ) (row : Row) (was now : Held S) →
      IsUnchanged old (state g now) → Stands g recording k last count was →
      Advances g was now (Some row) → IsWrong k last row
      → AreBadRecords cap k rows_there
  stops cap count last row was now same stands on wrong = go wrong
    where
      go : IsWrong k last row → AreBadRecords cap k rows_there
      go (inl bad) =
          let it = given_row stands.records row was now same stands.given on in
          bad_row row (given_member old.now.trees recording (map record_cells stands.records) it.0
          row it.1) bad
      go (inr (inl near)) =
          let it = given_row stands.records row was now same stands.given on in
          let split = last_split stands.records near.first (sym stands.last_is ∙ near.last_is) in
          let rows : map record_cells stands.records ≡ map record_cells split.0
          ++ record_cells split.1 ∷ [] = ap (map record_cells) split.2
          ∙ map-append record_cells split.0 (split.1 ∷ []) in
          let all : IsPermutation rows_there (map record_cells split.0
          ++ record_cells split.1 ∷ row ∷ it.0) =
          subst (IsPermutation rows_there) (ap (λ l. l ++ row ∷ it.0) rows
          ∙ append_assoc (map record_cells split.0) (record_cells split.1 ∷ []) (row ∷ it.0))
          it.1 in
          too_near (record {
            a = record_cells split.1;
            b = row;
            two = given_two old.now.trees recording (map record_cells split.0) it.0
                (record_cells split.1) row all;
            first = near.first;
            second = near.start;
            a_start = ap (λ n. Int (pos n)) split.3;
            b_start = near.start_is;
            order = near.order;
            near = near.near;
          })
      go (inr (inr late)) =
          let rows = map record_cells stands.records in
          let none : rows ≡ [] = ap (map record_cells)
          (no_last stands.records (sym stands.last_is ∙ late.last_is)) in
          let it = begun now (rows ++ row ∷ []) same
          (on rows_text (Int recording ∷ []) rows stands.given) in
          let all : (rows ++ row ∷ []) ++ it.0 ≡ row ∷ it.0 =
          ap (λ l. (l ++ row ∷ []) ++ it.0) none in
          late_first cap k rows_there it.0 row late.start (by_start old.now.trees recording)
          (subst (IsSorted (by_column 0)) all it.2) (subst (IsPermutation rows_there) all it.1)
          late.start_is late.late

  pub past_cap : (cap count : ℕ) (last : Option ℕ) (h : Held S) → IsUnchanged old (state g h) →
      Stands g recording k last count h → cap < count → AreBadRecords cap k rows_there
  past_cap cap count last h same stands more =
      let it = begun h (map record_cells stands.records) same stands.given in
      let all = length_permutation _ _ it.1 in
      let parts = length-append (map record_cells stands.records) it.0 in
      let size = length-map stands.records record_cells in
      let front = stands.size in
      too_many (omega (arith, all, parts, size, front, more))

  all_given : (count : ℕ) (last : Option ℕ) (h next : Held S) → IsUnchanged old (state g h) →
      (stands : Stands g recording k last count h) → Advances g h next None →
      rows_there ≡ map record_cells stands.records
  all_given count last h next same stands on =
      let there : HasBoth (state g h).now.schema =
      subst (λ (b : Database). HasBoth b.schema) (sym same.0.now_is) has in
      let shown = on rows_text (Int recording ∷ []) (map record_cells stands.records)
      stands.given in
      let a = answer_of rows_text _ _ rows_is (Int recording ∷ []) (state g h) (state g next)
      (map record_cells stands.records) there shown in
      only_sound old.now.trees recording k stands.records long stands.sound
      (subst (λ (b : Database). IsPermutation (records_in b.trees recording)
      (map record_cells stands.records)) same.0.now_is
      (answer_moved (state g h).now.trees recording (map record_cells stands.records) a))

  pub ends_empty : (cap count : ℕ) (last : Option ℕ) (h next : Held S) →
      IsUnchanged old (state g h) → Stands g recording k last count h → Advances g h next None →
      count ≡ 0 → AreBadRecords cap k rows_there
  ends_empty cap count last h next same stands on none =
      too_few (all_given count last h next same stands on
      ∙ ap (map record_cells) (nil_from_length stands.records (stands.size ∙ none)))

  pub ends : (cap count : ℕ) (last : Option ℕ) (h next : Held S) → IsUnchanged old (state g h) →
      Stands g recording k last count h → Advances g h next None → 0 < count → count ≤ cap →
      HasSound cap k rows_there count
  ends cap count last h next same stands on some few =
      let is = all_given count last h next same stands on in
      let size = stands.size in
      record {
        records = stands.records;
        shown = is;
        sound = stands.sound;
        begins = stands.begins;
        some = λ none. absurd (let e = ap length (sym is ∙ none) in let n =
            length-map stands.records record_cells in
            let z : length (map record_cells stands.records) ≡ 0 = e in
            omega (arith, z, n, size, some));
        within_cap = omega (arith, size, few);
        count_is = sym size;
      }
