-- What the answers of the queries are.
use Rattle.std.proofs.Common.{◌≡◌, ℕ, zero, suc, ◌+◌, arith, ap₂, slice_index_or, is_lt, IsSorted}
use Rattle.std.proofs.Common.{Bool, true, false, cond, List, [], ◌∷◌, map, filter, flat_map, length}
use Rattle.std.proofs.Common.{reverse, take, Option, Some, refl, sym, ap, subst, subst₂, ◌∙◌}
use Rattle.std.proofs.Common.{Ordering, Less, Equal, Greater, IsPermutation}
use Rattle.std.specs.List.{AllByRecursion, list_all, AllZip}
use Rattle.sqlite_trees.proofs.ListLemmas.{all-permutation}
use Rattle.std.proofs.lemmas.List.{length-map}
use Rattle.std.proofs.lemmas.List.Sorted.{length_permutation, IsPermutation-map}
use Rattle.std.proofs.lemmas.List.Sorted.{IsPermutation-reverse, IsPermutation-trans}
use Rattle.std.proofs.lemmas.List.Sorted.{IsPermutation-sym}
use Rattle.sqlite.specs.declared.types.Value.{Value}
use Rattle.sqlite.specs.Order.{Row}
use Rattle.sqlite.specs.Tree.{Trees}
use Rattle.sqlite_value.specs.Order.{column, value_cmp}
use Rattle.sqlite_trees.specs.Tree.{IsAscending}
use Rattle.sqlite_sql.specs.Term.{Term, Env, holds, eval, eval_all}
use Rattle.sqlite_sql.specs.Query.{IsAnswer, output, output_cmp, Output, page, limited, as_count}
use Rattle.sqlite_sql.specs.Group.{Grouping, Aggregate, IsSummary, value_over}
use Rattle.sqlite_sql.specs.Aggregate.{count}
use Rattle.sqlite_sql.proofs.QueryLemmas.{output_cmp_total}
use Rattle.sqlite_exec.proofs.ScanLemmas.{ascending-reverse}
use Rattle.sqlite_keyed.specs.Lists.{sort_by}
use Rattle.sqlite_keyed.proofs.ListLemmas.{ascending-map, map-map}
use Rattle.sqlite_keyed.proofs.SortLemmas.{sort_by-map, sorted_unique, IsPermutation-sort_by}
use Rattle.sqlite.proofs.Callers.{one_permutation}
use Rattle.std.proofs.lemmas.Cmp.{on_total}
use Rattle.sqlite_value.proofs.OrderLemmas.{value_cmp_total}
use Rattle.edf_tables.specs.Columns.{by_column}
use Rattle.edf_tables.proofs.Queries.{plain_query, paged_query, ordered_query, last_query}
use Rattle.edf_tables.proofs.Queries.{count_query, counting, count_rows, passes, answer_in_order}
use Rattle.edf_tables.proofs.Sorting.{only_order}

pub matched : (params : Row) (terms : List Term) (rows : List Row)
    → flat_map (λ r. cond (list_all (holds (params ∷ r ∷ [])) terms) ((params ∷ r ∷ []) ∷ []) [])
    rows ≡ map (λ r. params ∷ r ∷ []) (filter (passes params terms) rows)
matched params terms [] = refl
matched params terms (r ∷ rows) = go (passes params terms r) refl (matched params terms rows)
  where
    go : (b : Bool) → passes params terms r ≡ b →
        flat_map (λ r. cond (list_all (holds (params ∷ r ∷ [])) terms) ((params ∷ r ∷ []) ∷ []) [])
        rows ≡ map (λ r. params ∷ r ∷ []) (filter (passes params terms) rows)
        → flat_map (λ r. cond (list_all (holds (params ∷ r ∷ [])) terms) ((params ∷ r ∷ []) ∷ [])
        []) (r ∷ rows) ≡ map (λ r. params ∷ r ∷ []) (filter (passes params terms) (r ∷ rows))
    go true e more = rw e (ap (λ l. (params ∷ r ∷ []) ∷ l) more)
    go false e more = rw e more

then_equal : (o : Ordering) → Rattle.std.specs.Ordering.ordering_then o Equal ≡ o
then_equal Less = refl
then_equal Equal = refl
then_equal Greater = refl

pub column_total : (at : ℕ) → Rattle.std.specs.Cmp.IsTotalOrder (by_column at)
column_total at = on_total (λ r. column r at) value_cmp_total

-- no two of the rows that pass are alike in the column
abbrev pub AreApart : ℕ → Row → List Term → List Row → Type 0
AreApart at params terms rows =
    IsAscending (λ a b. by_column at a b ≡ Less)
    (sort_by (by_column at) (filter (passes params terms) rows))

-- the rows that pass, in order of the column, and no more than the limit
pub answered : (tree at : ℕ) (terms shown : List Term) (limit : Term) (params : Row) (db : Trees)
    (rows : List Row) → IsAnswer (paged_query tree terms shown at limit) db params rows →
    AreApart at params terms (db tree)
    → rows ≡ limited (as_count (eval limit (params ∷ [])))
    (answer_in_order at params terms shown (db tree))
answered tree at terms shown limit params db rows a apart =
    let q = paged_query tree terms shown at limit in
    let out : Row → Output = λ r. output q (params ∷ r ∷ []) in
    let kept = filter (passes params terms) (db tree) in
    let all : a.kept ≡ map out kept = a.distinct
    ∙ ap (map (output q)) (a.grouped ∙ matched params terms (db tree))
    ∙ map-map (output q) (λ (r : Row). params ∷ r ∷ []) kept in
    let order : ◌≡◌ {A = Row → Row → Ordering} (λ x y. output_cmp q (out x) (out y))
    (by_column at) = λ i x y. then_equal (value_cmp (column x at) (column y at)) i in
    let placed : sort_by (output_cmp q) (map out kept) ≡ map out (sort_by (by_column at) kept) =
    sort_by-map (output_cmp q) out kept ∙ ap (λ cmp. map out (sort_by cmp kept)) order in
    let strict : IsAscending (λ x y. output_cmp q x y ≡ Less)
    (map out (sort_by (by_column at) kept)) =
    ascending-map (λ x y. output_cmp q x y ≡ Less) out _
    (subst (λ cmp. IsAscending (λ x y. cmp x y ≡ Less) (sort_by (by_column at) kept))
    (sym order) apart) in
    let only : a.ordered ≡ sort_by (output_cmp q) (map out kept) =
    only_order (output_cmp q) (output_cmp_total q) (map out kept) a.ordered
    (subst (λ k. IsPermutation k a.ordered) all a.same) a.sorted
    (subst (IsAscending (λ x y. output_cmp q x y ≡ Less)) (sym placed) strict) in
    a.shown ∙ ap (λ (o : List Output). page q params (map (λ (p : Output). p.1) o)) (only ∙ placed)
    ∙ ap (limited (as_count (eval limit (params ∷ []))))
    (map-map (λ (p : Output). p.1) out (sort_by (by_column at) kept))

-- the last of them
pub last_answered : (tree at : ℕ) (terms shown : List Term) (params : Row) (db : Trees)
    (rows : List Row) → IsAnswer (last_query tree terms shown at) db params rows →
    AreApart at params terms (db tree)
    → rows ≡ take 1 (map (λ r. eval_all shown (params ∷ r ∷ []))
    (reverse (sort_by (by_column at) (filter (passes params terms) (db tree)))))
last_answered tree at terms shown params db rows a apart =
    let q = last_query tree terms shown at in
    let out : Row → Output = λ r. output q (params ∷ r ∷ []) in
    let kept = filter (passes params terms) (db tree) in
    let sorted = sort_by (by_column at) kept in
    let all : a.kept ≡ map out kept = a.distinct
    ∙ ap (map (output q)) (a.grouped ∙ matched params terms (db tree))
    ∙ map-map (output q) (λ (r : Row). params ∷ r ∷ []) kept in
    let order : ◌≡◌ {A = Row → Row → Ordering} (λ x y. output_cmp q (out x) (out y))
    (λ x y. by_column at y x) = λ i x y. then_equal (value_cmp (column y at) (column x at)) i in
    let strict : IsAscending (λ x y. output_cmp q x y ≡ Less) (map out (reverse sorted)) =
    ascending-map (λ x y. output_cmp q x y ≡ Less) out _
    (subst (λ cmp. IsAscending (λ x y. cmp x y ≡ Less) (reverse sorted)) (sym order)
    (ascending-reverse (λ x y. by_column at x y ≡ Less) sorted apart)) in
    let turned : IsPermutation (reverse sorted) kept =
    IsPermutation-trans _ _ _ (IsPermutation-sym _ _ (IsPermutation-reverse sorted))
    (IsPermutation-sort_by (by_column at) (column_total at) kept) in
    let only : a.ordered ≡ map out (reverse sorted) =
    sorted_unique (output_cmp q) (output_cmp_total q) (map out (reverse sorted)) a.ordered strict
    (IsPermutation-trans _ _ _ (IsPermutation-map out _ _ turned)
    (subst (λ k. IsPermutation k a.ordered) all a.same)) a.sorted in
    a.shown ∙ ap (λ (o : List Output). page q params (map (λ (p : Output). p.1) o)) only
    ∙ ap (take 1) (map-map (λ (p : Output). p.1) out (reverse sorted))

-- the rows that pass in some order, whatever is known of ties
pub some_order : (tree at : ℕ) (terms shown : List Term) (params : Row) (db : Trees)
    (rows : List Row) → IsAnswer (ordered_query tree terms shown at) db params rows
    → IsPermutation (map (λ r. eval_all shown (params ∷ r ∷ []))
    (filter (passes params terms) (db tree))) rows
some_order tree at terms shown params db rows a =
    let q = ordered_query tree terms shown at in
    let out : Row → Output = λ r. output q (params ∷ r ∷ []) in
    let kept = filter (passes params terms) (db tree) in
    let all : a.kept ≡ map out kept = a.distinct
    ∙ ap (map (output q)) (a.grouped ∙ matched params terms (db tree))
    ∙ map-map (output q) (λ (r : Row). params ∷ r ∷ []) kept in
    let moved = IsPermutation-map (λ (p : Output). p.1) (map out kept) a.ordered
    (subst (λ k. IsPermutation k a.ordered) all a.same) in
    subst₂ (λ xs ys. IsPermutation xs ys) (map-map (λ (p : Output). p.1) out kept) (sym a.shown)
    moved

all_or : (P : Output → Type 0) (xs : List Output) (k : ℕ) (d : Output) → AllByRecursion P xs → P d →
    P (slice_index_or xs k d)
all_or P [] k d all h = h
all_or P (x ∷ xs) zero d all h = all.0
all_or P (x ∷ xs) (suc k) d all h = all_or P xs k d all.1 h

shown_or : (xs : List Output) (k : ℕ) (d : Output) →
    (slice_index_or xs k d).1 ≡ slice_index_or (map (λ (o : Output). o.1) xs) k d.1
shown_or [] k d = refl
shown_or (x ∷ xs) zero d = refl
shown_or (x ∷ xs) (suc k) d = shown_or xs k d

out_all : (params : Row) (at : ℕ) (shown : List Term) (rows : List Row) →
    ((r : Row) → column (eval_all shown (params ∷ r ∷ [])) 0 ≡ column r at)
    → AllByRecursion (λ (o : Output). column o.0 0 ≡ column o.1 0)
    (map (λ r. (column r at ∷ [], eval_all shown (params ∷ r ∷ []))) rows)
out_all params at shown [] first = tt
out_all params at shown (r ∷ rows) first = (sym (first r), out_all params at shown rows first)

-- the rows are in order, where the column that orders them is shown first
pub in_order : (tree at : ℕ) (terms shown : List Term) (params : Row) (db : Trees)
    (rows : List Row) → IsAnswer (ordered_query tree terms shown at) db params rows
    → ((r : Row) → column (eval_all shown (params ∷ r ∷ [])) 0 ≡ column r at) →
    IsSorted (by_column 0) rows
in_order tree at terms shown params db rows a first =
    let q = ordered_query tree terms shown at in
    let out : Row → Output = λ r. output q (params ∷ r ∷ []) in
    let kept = filter (passes params terms) (db tree) in
    let P : Output → Type 0 = λ o. column o.0 0 ≡ column o.1 0 in
    let all : a.kept ≡ map out kept = a.distinct
    ∙ ap (map (output q)) (a.grouped ∙ matched params terms (db tree))
    ∙ map-map (output q) (λ (r : Row). params ∷ r ∷ []) kept in
    let each : AllByRecursion P a.ordered =
    all-permutation P (map out kept) a.ordered
    (subst (λ k. IsPermutation k a.ordered) all a.same) (out_all params at shown kept first) in
    subst (IsSorted (by_column 0)) (sym a.shown) (λ k d low high.
    let o : Output = (d, d) in
    let x = slice_index_or a.ordered (k + 1) o in
    let y = slice_index_or a.ordered k o in
    let size = length-map a.ordered (λ (o : Output). o.1) in
    let below : is_lt (output_cmp q x y) ≡ false = a.sorted k o low (omega (arith, high, size)) in
    let bare : is_lt (value_cmp (column x.0 0) (column y.0 0)) ≡ false =
    ap is_lt (sym (then_equal (value_cmp (column x.0 0) (column y.0 0)))) ∙ below in
    let first = all_or P a.ordered (k + 1) o each refl in
    let second = all_or P a.ordered k o each refl in
    let shows : is_lt (value_cmp (column x.1 0) (column y.1 0)) ≡ false =
    ap₂ (λ v w. is_lt (value_cmp v w)) (sym first) (sym second) ∙ bare in
    ap₂ (λ (v w : Row). is_lt (value_cmp (column v 0) (column w 0)))
    (sym (shown_or a.ordered (k + 1) o)) (sym (shown_or a.ordered k o)) ∙ shows)

-- and without ORDER BY
pub any_order : (tree : ℕ) (terms shown : List Term) (params : Row) (db : Trees) (rows : List Row) →
    IsAnswer (plain_query tree terms shown) db params rows
    → IsPermutation (map (λ r. eval_all shown (params ∷ r ∷ []))
    (filter (passes params terms) (db tree))) rows
any_order tree terms shown params db rows a =
    let q = plain_query tree terms shown in
    let out : Row → Output = λ r. output q (params ∷ r ∷ []) in
    let kept = filter (passes params terms) (db tree) in
    let all : a.kept ≡ map out kept = a.distinct
    ∙ ap (map (output q)) (a.grouped ∙ matched params terms (db tree))
    ∙ map-map (output q) (λ (r : Row). params ∷ r ∷ []) kept in
    let moved = IsPermutation-map (λ (p : Output). p.1) (map out kept) a.ordered
    (subst (λ k. IsPermutation k a.ordered) all a.same) in
    subst₂ (λ xs ys. IsPermutation xs ys) (map-map (λ (p : Output). p.1) out kept) (sym a.shown)
    moved

one_summary : (g : Grouping) (group : List Env) (rows : List Row) →
    AllZip (IsSummary g) (group ∷ []) rows → (row : Row) × (rows ≡ row ∷ []) × IsSummary g group row
one_summary g group [] h = absurd h
one_summary g group (row ∷ []) h = (row, refl, h.0)
one_summary g group (row ∷ more ∷ others) h = absurd h.1

one_value : (group : List Env) (a : Aggregate) (v : Value) (values : Row) →
    value_over group a ≡ Some v → AllZip (λ a v. value_over group a ≡ Some v) (a ∷ []) values →
    values ≡ v ∷ []
one_value group a v [] is h = absurd h
one_value group a v (w ∷ []) is h = let e : ◌≡◌ {A = Option Value} (Some w) (Some v) = sym h.0
    ∙ is in let same : w ≡ v = cc in ap (λ x. x ∷ []) same
one_value group a v (w ∷ x ∷ more) is h = absurd h.1

pub counted : (terms : List Term) (params : Row) (db : Trees) (rows : List Row) →
    IsAnswer (count_query terms) db params rows →
    rows ≡ (count (length (filter (passes params terms) (db 2))) ∷ []) ∷ []
counted terms params db rows a =
    let q = count_query terms in
    let kept = filter (passes params terms) (db 2) in
    let s = a.grouped in
    let order = s.grouping.0 in
    let same = s.grouping.1 in
    let group : s.groups ≡ order ∷ [] = s.grouping.2 in
    let one = one_summary counting order s.rows (rw group at s.summaries) in
    let size : length order ≡ length kept = length_permutation _ order same
    ∙ ap length (matched params terms (db 2)) ∙ length-map kept _ in
    let told : Value = count (length kept) in
    let values : one.2.0 ≡ told ∷ [] =
    one_value order count_rows told one.2.0
    (ap (λ n. Some (count n)) (length-map order (eval count_rows.argument) ∙ size)) one.2.1 in
    let row : one.0 ≡ told ∷ [] = one.2.2 ∙ values in
    let staged : a.staged ≡ (params ∷ (told ∷ []) ∷ []) ∷ [] = s.having
    ∙ ap (λ rs. filter (λ env. list_all (holds env) []) (map (λ r. params ∷ r ∷ []) rs)) (one.1
    ∙ ap (λ r. r ∷ []) row) in
    let o : Output = ([], told ∷ []) in
    let all : a.kept ≡ o ∷ [] = a.distinct ∙ ap (map (output q)) staged in
    let ordered = one_permutation o a.ordered (subst (λ k. IsPermutation k a.ordered) all a.same) in
    a.shown ∙ ap (λ xs. page q params (map (λ (p : Output). p.1) xs)) ordered
