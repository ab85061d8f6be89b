-- What each query shows of the rows.
use Rattle.std.proofs.Common.{◌≡◌, ◌≢◌, IsSorted, ℕ, ℤ, pos, Bool, true, ◌&&◌, List, [], ◌∷◌, ◌++◌}
use Rattle.std.proofs.Common.{map, filter, length, reverse, take, min, slice_get, Option, Some}
use Rattle.std.proofs.Common.{None, refl, sym, ap, subst, ◌∙◌, arith, Less, IsPermutation}
use Rattle.std.specs.Option.{option_map}
use Rattle.std.proofs.lemmas.List.{take-map}
use Rattle.std.proofs.lemmas.List.Sorted.{length_permutation, Contains-permutation}
use Rattle.std.proofs.lemmas.List.Sorted.{IsPermutation-sym}
use Rattle.sqlite.specs.declared.types.Value.TheVariants.{Null, Int, Blob}
use Rattle.sqlite.specs.Order.{Row}
use Rattle.sqlite.specs.Schema.{Schema}
use Rattle.sqlite.specs.Tree.{Trees}
use Rattle.sqlite.specs.Query.{Query}
use Rattle.sqlite.specs.Listing.{understood}
use Rattle.sqlite.specs.Held.{Held, state}
use Rattle.sqlite.specs.Given.{HasGiven}
use Rattle.sqlite.specs.State.{State, Shown}
use Rattle.sqlite.proofs.Callers.{IsPlain, reads_as, begins_as, given_begin}
use Rattle.sqlite_value.specs.Order.{column}
use Rattle.sqlite_trees.specs.declared.store.Store.{Ghosts}
use Rattle.sqlite_sql.specs.Term.{Term, eval, eval_all}
use Rattle.sqlite_sql.specs.Query.{IsAnswer, limited, as_count}
use Rattle.sqlite_sql.specs.Program.{overlay}
use Rattle.sqlite_sql.specs.Aggregate.{count}
use Rattle.sqlite_keyed.specs.Lists.{sort_by}
use Rattle.sqlite_keyed.proofs.ListLemmas.{ascending-filter, map-map}
use Rattle.sqlite_keyed.proofs.SortLemmas.{IsPermutation-sort_by}
use Rattle.edf_tables.specs.declared.row.RecordRow.{RecordRow}
use Rattle.edf_tables.specs.declared.row.TheConstants.{MOST_COUNTED}
use Rattle.edf_tables.specs.Cells.{cells_of, first_three}
use Rattle.edf_tables.specs.Schema.{HasBoth}
use Rattle.edf_tables.specs.Records.{records_of, HaveRisingStarts, IsReady, starts_after}
use Rattle.edf_tables.specs.Records.{starts_from, starts_between, shown_record}
use Rattle.edf_tables.specs.Columns.{by_column, is_of}
use Rattle.edf_tables.specs.Recordings.{named, IsIdIn, by_identity, AreNamedApart, shown_recording}
use Rattle.edf_tables.proofs.Queries.{passes, paged_query, of_recording, start_samples_block}
use Rattle.edf_tables.proofs.Queries.{near_terms, after_terms, from_terms, identity_terms}
use Rattle.edf_tables.proofs.QueryTexts.{Means, near_text, near_is, page_text, page_is}
use Rattle.edf_tables.proofs.QueryTexts.{count_text, count_is, first_text, first_is}
use Rattle.edf_tables.proofs.QueryTexts.{next_text, next_is, last_text, last_is, id_text, id_is}
use Rattle.edf_tables.proofs.QueryTexts.{identities_text, identities_is, recordings_text}
use Rattle.edf_tables.proofs.QueryTexts.{recordings_is, count_all_text, count_all_is}
use Rattle.edf_tables.proofs.Sorting.{filter_sort, filter_twice, filter_true}
use Rattle.edf_tables.proofs.Terms.{is_of_passes, near_passes, after_passes, from_passes}
use Rattle.edf_tables.proofs.Terms.{identity_passes}
use Rattle.edf_tables.proofs.Answers.{column_total, AreApart, answered, last_answered, some_order}
use Rattle.edf_tables.proofs.Answers.{in_order, any_order, counted}

module _ (sql : List ℕ) (query : Query) (names : List (List ℕ)) (means : Means sql query names)
  where
    pub plain_at : (old : State) → HasBoth old.now.schema → IsPlain (understood old.now.schema sql)
    plain_at old has = subst (λ (s : Schema). IsPlain (understood s sql)) (sym has.is)
        (means.plain has.others)

    pub answer_of : (params : Row) (old new : State) (rows : List Row) → HasBoth old.now.schema →
        Shown sql params old new rows → IsAnswer query (overlay old.now.trees []) params rows
    answer_of params old new rows has h =
        (reads_as sql params old new _ has.is _ (means.command has.others) (means.plain has.others)
        (means.unlisted has.others) rows h).answer Null

    -- rows that were given one at a time begin an answer
    pub answer_begun : {S : Type 0} (g : Ghosts S) (params : Row) (h : Held S) (rows : List Row) →
        HasBoth (state g h).now.schema → HasGiven g sql params h rows
        → (tail : List Row) × IsAnswer query (overlay (state g h).now.trees []) params (rows
        ++ tail)
    answer_begun g params h rows has it =
        let s = state g h in
        let read = begins_as sql params s s _ has.is _ (means.command has.others)
        (means.plain has.others) (means.unlisted has.others) rows
        (given_begin g sql params h rows it) in
        (read.1.0, read.1.1 Null)

-- WHERE takes this part of the records of a recording
module _ (n : ℤ) (params : Row) (terms : List Term) (part : Row → Bool) (is : (r : Row) →
    passes params terms r ≡ (is_of n r && part r)) where
  placed : (rows : List Row) → sort_by (by_column 2) (filter (passes params terms) rows) ≡ filter
      part (records_of n rows)
  placed rows =
      ap (λ (p : Row → Bool). sort_by (by_column 2) (filter p rows)) (λ i r. is r i)
      ∙ ap (sort_by (by_column 2)) (filter_twice (is_of n) part rows)
      ∙ sym (filter_sort (by_column 2) (column_total 2) part (filter (is_of n) rows))

  kept_apart : (rows : List Row) → HaveRisingStarts (records_of n rows) →
      AreApart 2 params terms rows
  kept_apart rows rising = subst HaveRisingStarts (sym (placed rows))
      (ascending-filter (λ a b. by_column 2 a b ≡ Less) part (records_of n rows) rising)

  pub records_answer : (shown : List Term) (limit : Term) (db : Trees) (rows : List Row) →
      IsAnswer (paged_query 2 terms shown 2 limit) db params rows →
      HaveRisingStarts (records_of n (db 2))
      → rows ≡ limited (as_count (eval limit (params ∷ [])))
      (map (λ r. eval_all shown (params ∷ r ∷ [])) (filter part (records_of n (db 2))))
  records_answer shown limit db rows a rising =
      answered 2 2 terms shown limit params db rows a (kept_apart (db 2) rising)
      ∙ ap (λ l. limited (as_count (eval limit (params ∷ [])))
      (map (λ r. eval_all shown (params ∷ r ∷ [])) l)) (placed (db 2))

whole : (n : ℤ) (r : Row) → passes (Int n ∷ []) (of_recording ∷ []) r ≡ (is_of n r && true)
whole n r = is_of_passes n r ∙ sym (go (is_of n r))
  where
    go : (b : Bool) → (b && true) ≡ b
    go true = refl
    go Rattle.std.proofs.Common.false = refl

of_whole : (n : ℤ) (rows : List Row) →
    filter (passes (Int n ∷ []) (of_recording ∷ [])) rows ≡ filter (is_of n) rows
of_whole n rows = ap (λ (p : Row → Bool). filter p rows) (λ i r. is_of_passes n r i)

pub near_shown : (n after before : ℤ) (old new : State) (rows : List Row) → IsReady n old →
    Shown near_text (Int n ∷ Int after ∷ Int before ∷ []) old new rows
    → rows ≡ map shown_record (filter (starts_between after before)
    (records_of n (old.now.trees 2)))
near_shown n after before old new rows ready h =
    let params = Int n ∷ Int after ∷ Int before ∷ [] in
    records_answer n params near_terms (starts_between after before) (near_passes n after before)
    start_samples_block _ (overlay old.now.trees []) rows
    (answer_of near_text _ _ near_is params old new rows ready.schema h) ready.rising

pub page_shown : (n after : ℤ) (most : ℕ) (old new : State) (rows : List Row) → IsReady n old →
    Shown page_text (Int n ∷ Int after ∷ Int (pos most) ∷ []) old new rows
    → rows ≡ map shown_record
    (take most (filter (starts_after after) (records_of n (old.now.trees 2))))
page_shown n after most old new rows ready h =
    let params = Int n ∷ Int after ∷ Int (pos most) ∷ [] in
    records_answer n params after_terms (starts_after after)
    (after_passes n after (Int (pos most) ∷ [])) start_samples_block _
    (overlay old.now.trees []) rows (answer_of page_text _ _ page_is params old new rows
    ready.schema h) ready.rising
    ∙ take-map shown_record most _

-- typed rows have the cells of these
pub typed : (found : List RecordRow) (rows xs : List Row) →
    map cells_of found ≡ map first_three rows → rows ≡ map shown_record xs →
    map cells_of found ≡ map shown_record xs
typed found rows xs e is = e ∙ ap (map first_three) is ∙ map-map first_three shown_record xs

number_of : (found m : ℕ) (rows : List Row) →
    option_map (λ row. column row 0) (slice_get rows 0) ≡ Some (Int (pos found)) →
    rows ≡ (count m ∷ []) ∷ [] → found ≡ min m MOST_COUNTED
number_of found m rows h is = let e : Some (count m) ≡ Some (Int (pos found)) = rw is at h in
    let same : min m MOST_COUNTED ≡ found = cc in sym same

pub count_shown : (n : ℤ) (found : ℕ) (old new : State) (rows : List Row) → HasBoth old.now.schema →
    Shown count_text (Int n ∷ []) old new rows →
    option_map (λ row. column row 0) (slice_get rows 0) ≡ Some (Int (pos found))
    → found ≡ min (length (records_of n (old.now.trees 2))) MOST_COUNTED
count_shown n found old new rows has h first =
    let size : length (filter (passes (Int n ∷ []) (of_recording ∷ [])) (old.now.trees 2)) ≡ length
    (records_of n (old.now.trees 2)) =
    ap length (of_whole n (old.now.trees 2))
    ∙ length_permutation _ _ (IsPermutation-sort_by (by_column 2) (column_total 2)
    (filter (is_of n) (old.now.trees 2))) in
    number_of found _ rows first (counted (of_recording ∷ []) (Int n ∷ [])
    (overlay old.now.trees []) rows (answer_of count_text _ _ count_is (Int n ∷ []) old new rows
    has h)) ∙ ap (λ m. min m MOST_COUNTED) size

pub count_all_shown : (found : ℕ) (old new : State) (rows : List Row) → HasBoth old.now.schema →
    Shown count_all_text [] old new rows →
    option_map (λ row. column row 0) (slice_get rows 0) ≡ Some (Int (pos found))
    → found ≡ min (length (old.now.trees 2)) MOST_COUNTED
count_all_shown found old new rows has h first =
    number_of found _ rows first (counted [] [] (overlay old.now.trees []) rows
    (answer_of count_all_text _ _ count_all_is [] old new rows has h))
    ∙ ap (λ l. min (length l) MOST_COUNTED) (filter_true (old.now.trees 2))

head_of : (xs : List Row) → option_map (λ row. column row 0)
    (slice_get (take 1 (map (λ r. column r 2 ∷ []) xs)) 0) ≡ option_map (λ row. column row 2)
    (slice_get xs 0)
head_of [] = refl
head_of (x ∷ xs) = refl

pub first_shown : (n : ℤ) (found : Option ℤ) (old new : State) (rows : List Row) → IsReady n old →
    Shown first_text (Int n ∷ []) old new rows →
    option_map Int found ≡ option_map (λ row. column row 0) (slice_get rows 0)
    → option_map Int found ≡ option_map (λ row. column row 2)
    (slice_get (records_of n (old.now.trees 2)) 0)
first_shown n found old new rows ready h first =
    let all = records_of n (old.now.trees 2) in
    let shown = records_answer n (Int n ∷ []) (of_recording ∷ []) (λ _. true) (whole n) _ _
    (overlay old.now.trees []) rows (answer_of first_text _ _ first_is (Int n ∷ []) old new rows
    ready.schema h) ready.rising in
    first ∙ ap (λ (l : List Row). option_map (λ row. column row 0) (slice_get l 0)) (shown
    ∙ ap (λ l. take 1 (map (λ r. column r 2 ∷ []) l)) (filter_true all)) ∙ head_of all

pub next_shown : (n from : ℤ) (found : Option ℤ) (old new : State) (rows : List Row) →
    IsReady n old → Shown next_text (Int n ∷ Int from ∷ []) old new rows →
    option_map Int found ≡ option_map (λ row. column row 0) (slice_get rows 0)
    → option_map Int found ≡ option_map (λ row. column row 2)
    (slice_get (filter (starts_from from) (records_of n (old.now.trees 2))) 0)
next_shown n from found old new rows ready h first =
    let params = Int n ∷ Int from ∷ [] in
    let shown = records_answer n params from_terms (starts_from from) (from_passes n from) _ _
    (overlay old.now.trees []) rows (answer_of next_text _ _ next_is params old new rows
    ready.schema h) ready.rising in
    first ∙ ap (λ (l : List Row). option_map (λ row. column row 0) (slice_get l 0)) shown
    ∙ head_of (filter (starts_from from) (records_of n (old.now.trees 2)))

pub last_shown : (n : ℤ) (found : Option ℤ) (old new : State) (rows : List Row) → IsReady n old →
    Shown last_text (Int n ∷ []) old new rows →
    option_map Int found ≡ option_map (λ row. column row 0) (slice_get rows 0)
    → option_map Int found ≡ option_map (λ row. column row 2)
    (slice_get (reverse (records_of n (old.now.trees 2))) 0)
last_shown n found old new rows ready h first =
    let all = records_of n (old.now.trees 2) in
    let apart = kept_apart n (Int n ∷ []) (of_recording ∷ []) (λ _. true) (whole n)
    (old.now.trees 2) ready.rising in
    let shown = last_answered 2 2 (of_recording ∷ []) _ (Int n ∷ []) (overlay old.now.trees []) rows
    (answer_of last_text _ _ last_is (Int n ∷ []) old new rows ready.schema h) apart in
    first ∙ ap (λ (l : List Row). option_map (λ row. column row 0) (slice_get l 0)) (shown
    ∙ ap (λ l. take 1 (map (λ r. column r 2 ∷ []) (reverse (sort_by (by_column 2) l))))
    (of_whole n (old.now.trees 2))) ∙ head_of (reverse all)

none_left : (xs : List Row) → IsPermutation (map (λ r. column r 0 ∷ []) xs) [] → xs ≡ []
none_left [] same = refl
none_left (x ∷ xs) same = absurd (omega (arith, length_permutation _ _ same))

id_among : (xs rows : List Row) (found : Option ℤ) →
    IsPermutation (map (λ r. column r 0 ∷ []) xs) rows →
    option_map Int found ≡ option_map (λ row. column row 0) (slice_get rows 0) → IsIdIn xs found
id_among xs [] None same first = none_left xs same
id_among xs [] (Some id) same first = absurd (cc)
id_among xs (row ∷ rows) None same first = absurd (cc)
id_among xs (row ∷ rows) (Some id) same first =
    let e : column row 0 ≡ Int id = cc in
    let moved = Rattle.std.proofs.lemmas.List.Sorted.IsPermutation-map (λ (r : Row). column r 0) _ _
    same in
    Contains-permutation _ _ (Int id)
    (IsPermutation-sym _ _ (subst (λ l. IsPermutation l (map (λ r. column r 0) (row ∷ rows)))
    (map-map (λ (r : Row). column r 0) (λ r. column r 0 ∷ []) xs) moved)) (0, omega arith, e)

pub id_shown : (identity : List ℕ) (found : Option ℤ) (old new : State) (rows : List Row) →
    HasBoth old.now.schema → Shown id_text (Blob identity ∷ []) old new rows →
    option_map Int found ≡ option_map (λ row. column row 0) (slice_get rows 0)
    → IsIdIn (named identity (old.now.trees 0)) found
id_shown identity found old new rows has h first =
    let some = any_order 0 identity_terms _ (Blob identity ∷ []) (overlay old.now.trees []) rows
    (answer_of id_text _ _ id_is (Blob identity ∷ []) old new rows has h) in
    let same : filter (passes (Blob identity ∷ []) identity_terms) (old.now.trees 0) ≡ named
    identity (old.now.trees 0) = ap (λ (p : Row → Bool). filter p (old.now.trees 0))
    (λ i r. identity_passes identity r i) in
    id_among _ rows found (subst (λ (l : List Row).
    IsPermutation (map (λ r. column r 0 ∷ []) l) rows) same some) first

pub identities_shown : (old new : State) (rows : List Row) → AreNamedApart old →
    Shown identities_text [] old new rows →
    map (λ row. column row 0) rows ≡ map (λ row. column row 2) (by_identity (old.now.trees 0))
identities_shown old new rows apart h =
    let all = filter_true (old.now.trees 0) in
    let shown = answered 0 2 [] _ _ [] (overlay old.now.trees []) rows
    (answer_of identities_text _ _ identities_is [] old new rows apart.schema h)
    (subst (λ (l : List Row). Rattle.sqlite_trees.specs.Tree.IsAscending
    (λ a b. by_column 2 a b ≡ Less) (by_identity l)) (sym all) apart.apart) in
    ap (map (λ (row : Row). column row 0)) (shown
    ∙ ap (λ (l : List Row). map (λ r. column r 2 ∷ []) (by_identity l)) all)
    ∙ map-map (λ (row : Row). column row 0) (λ r. column r 2 ∷ [])
    (by_identity (old.now.trees 0))

pub recordings_shown : (old new : State) (rows : List Row) → HasBoth old.now.schema →
    Shown recordings_text [] old new rows →
    IsPermutation (map shown_recording (old.now.trees 0)) rows
recordings_shown old new rows has h =
    subst (λ (l : List Row). IsPermutation (map shown_recording l) rows)
    (filter_true (old.now.trees 0)) (some_order 0 0 [] _ [] (overlay old.now.trees []) rows
    (answer_of recordings_text _ _ recordings_is [] old new rows has h))

pub recordings_in_order : (old new : State) (rows : List Row) → HasBoth old.now.schema →
    Shown recordings_text [] old new rows → IsSorted (by_column 0) rows
recordings_in_order old new rows has h =
    in_order 0 0 [] _ [] (overlay old.now.trees []) rows
    (answer_of recordings_text _ _ recordings_is [] old new rows has h) (λ r. refl)
