-- What the first start from an instant on tells of the records.
use Rattle.std.proofs.Common.{◌≡◌, ◌≢◌, ℕ, ◌+◌, ◌<◌, ◌≤◌, ℤ, pos, ◌⊎◌, inl, inr, true, false, Bool}
use Rattle.std.proofs.Common.{List, [], ◌∷◌, map, filter, slice_get, Contains, Option, Some, None}
use Rattle.std.proofs.Common.{option_map, sym, ap, subst, ◌∙◌, arith, is_ge}
use Rattle.std.specs.Ordering.{int_cmp}
use Rattle.std.specs.List.{AllByRecursion}
use Rattle.std.proofs.lemmas.Bool.{cond-true, cond-false}
use Rattle.std.proofs.lemmas.List.Elements.{All-from_recursion, recursion_from_All}
use Rattle.sqlite_value.specs.declared.value.Value.TheVariants.{Int}
use Rattle.sqlite_value.specs.Order.{Row, column, value_cmp}
use Rattle.sqlite_value.proofs.OrderLemmas.{value_cmp-Int}
use Rattle.sqlite_trees.specs.Tree.{Trees}
use Rattle.sqlite_keyed.proofs.ListLemmas.{all-filter}
use Rattle.sqlite.specs.State.{State, HasCleanDisk, Survives}
use Rattle.edf_time.specs.Civil.{window}
use Rattle.edf_header.specs.Key.{Key}
use Rattle.edf_fragment.specs.Fragment.{DataRecord}
use Rattle.edf_fragment.specs.Sound.{IsSoundRecord}
use Rattle.edf_holdings.specs.Rising.{StartsAreSpaced}
use Rattle.edf_holdings.specs.Holdings.{Holdings}
use Rattle.edf_tables.specs.Records.{records_of, starts_from}
use Rattle.edf_rows.specs.Rows.{HasRecordingRow, Represent}
use Rattle.edf_rows.proofs.Rows.{here, there}
use Rattle.edf_store.specs.Transaction.{SeesSome, HasRowId, IsNextStart, IsNextStartIn}
use Rattle.edf_store.proofs.StoredRows.{show_filter, cell_less, cell_more, cell_same, pos_less}
use Rattle.edf_store.proofs.StoredRows.{Three, below, level, above, three}
use Rattle.edf_store.proofs.Standing.{shown_of}
use Rattle.edf_store.proofs.Keys.{first_is}
use Rattle.edf_store.proofs.SummaryReads.{number_at}

abbrev is_from : ℕ → DataRecord → Bool
is_from from x = is_ge (int_cmp (pos x.start) (pos from))

from_test : (from : ℕ) (row : Row) (x : DataRecord) → column row 2 ≡ Int (pos x.start) →
    starts_from (pos from) row ≡ is_from from x
from_test from row x e = ap (λ v. is_ge (value_cmp v (Int (pos from)))) e
    ∙ ap is_ge (value_cmp-Int (pos x.start) (pos from))

before : (from : ℕ) (x : DataRecord) → x.start < from → is_from from x ≡ false
before from x l = ap is_ge (sym (value_cmp-Int (pos x.start) (pos from))
    ∙ cell_less (pos x.start) (pos from) (pos_less x.start from l))

at_once : (from : ℕ) (x : DataRecord) → x.start ≡ from → is_from from x ≡ true
at_once from x e = ap is_ge (sym (value_cmp-Int (pos x.start) (pos from))
    ∙ cell_same (pos x.start) (pos from) (ap (λ n. pos n) e))

later : (from : ℕ) (x : DataRecord) → from < x.start → is_from from x ≡ true
later from x l = ap is_ge (sym (value_cmp-Int (pos x.start) (pos from))
    ∙ cell_more (pos x.start) (pos from) (pos_less from x.start l))

abbrev Earlier : ℕ → DataRecord → Type 0
Earlier from r = r.start < from

abbrev Outside : ℕ → ℕ → DataRecord → Type 0
Outside from start r = r.start < from ⊎ start ≤ r.start

-- `IsNextStart` along the list
abbrev IsNextOf : ℕ → List DataRecord → Option ℕ → Type 0
IsNextOf from xs None = AllByRecursion (Earlier from) xs
IsNextOf from xs (Some start) = (from ≤ start) × Contains (map (λ r. r.start) xs) start
    × AllByRecursion (Outside from start) xs

all_later : (from start low : ℕ) (xs : List DataRecord) → StartsAreSpaced 1 low xs → start ≤ low →
    AllByRecursion (Outside from start) xs
all_later from start low [] a l = tt
all_later from start low (x ∷ xs) a l =
    (inr (omega (arith, a.0, l)), all_later from start (x.start + 1) xs a.1 (omega (arith, a.0, l)))

first_from : (from : ℕ) (x : DataRecord) (xs : List DataRecord) →
    StartsAreSpaced 1 (x.start + 1) xs →
    from ≤ x.start → (start : Option ℕ) → option_map pos start ≡ Some (pos x.start) →
    IsNextOf from (x ∷ xs) start
first_from from x xs a low None e = absurd (let n : ◌≡◌ {A = Option ℤ} None (Some (pos x.start)) =
    e in cc)
first_from from x xs a low (Some start) e =
    let same : start ≡ x.start = cc in (
      omega (arith, low, same),
      subst (λ m. Contains (m ∷ map (λ (r : DataRecord). r.start) xs) start) same
          (here start (map (λ (r : DataRecord). r.start) xs)),
      (inr (omega (arith, same)), all_later from start (x.start + 1) xs a (omega (arith, same))),
    )

later_from : (from : ℕ) (x : DataRecord) (xs : List DataRecord) → x.start < from →
    (start : Option ℕ) → IsNextOf from xs start → IsNextOf from (x ∷ xs) start
later_from from x xs low None it = (low, it)
later_from from x xs low (Some start) it =
    (it.0, there x.start start (map (λ (r : DataRecord). r.start) xs) it.1, (inl low, it.2))

next_of : (from low : ℕ) (xs : List DataRecord) → StartsAreSpaced 1 low xs → (start : Option ℕ) →
    option_map pos start ≡ number_at (filter (is_from from) xs) → IsNextOf from xs start
next_of from low [] a None e = tt
next_of from low [] a (Some start) e =
    absurd (let n : ◌≡◌ {A = Option ℤ} (Some (pos start)) None = e in cc)
next_of from low (x ∷ xs) a start e =
    go (three x.start from) (next_of from (x.start + 1) xs a.1 start)
  where
    more : List DataRecord
    more = filter (is_from from) xs

    taken : is_from from x ≡ true → option_map pos start ≡ Some (pos x.start)
    taken is = e ∙ ap (λ (l : List DataRecord). number_at l)
        (cond-true (is_from from x) (x ∷ more) more is)

    left : is_from from x ≡ false → option_map pos start ≡ number_at (filter (is_from from) xs)
    left is = e ∙ ap (λ (l : List DataRecord). number_at l)
        (cond-false (is_from from x) (x ∷ more) more is)

    go : Three x.start from → (option_map pos start ≡ number_at (filter (is_from from) xs) →
        IsNextOf from xs start) → IsNextOf from (x ∷ xs) start
    go (below l) rest = later_from from x xs l start (rest (left (before from x l)))
    go (level s) rest = first_from from x xs a.1 (omega (arith, s)) start (taken (at_once from x s))
    go (above l) rest = first_from from x xs a.1 (omega (arith, l)) start (taken (later from x l))

is_next : (from : ℕ) (xs : List DataRecord) (start : Option ℕ) → IsNextOf from xs start →
    IsNextStart from xs start
is_next from xs None it = All-from_recursion (Earlier from) xs it
is_next from xs (Some start) it = (it.0, it.1, All-from_recursion (Outside from start) xs it.2)

-- the start that the rows give is a sound record's
in_window : (k : Key) (xs : List DataRecord) (next : Option ℤ) →
    AllByRecursion (IsSoundRecord k) xs → next ≡ number_at xs → next ≢ None →
    ((n : ℕ) → n < window → next ≢ Some (pos n)) → ⊥
in_window k [] next all e some out = some e
in_window k (x ∷ xs) next all e some out = out x.start all.0.start e

-- the query for the first start from an instant on gave this
abbrev NextAt : State → ℤ → ℕ → Option ℤ → Type 0
NextAt s id from next = option_map Int next ≡ option_map (λ row. column row 2)
    (slice_get (filter (starts_from (pos from)) (records_of id (s.now.trees 2))) 0)

module _ (cap : ℕ) (old new : State) (P : Trees → Type 0) (s : Survives old new P) (id : ℤ)
    (from : ℕ) (next : Option ℤ) (clean : HasCleanDisk new) (read : NextAt old id from next) where
  was_clean : HasCleanDisk old
  was_clean = omega (arith, s.clean, clean)

  told : (h : Holdings) (k : Key) → Represent old.now.trees h → HasRecordingRow old.now.trees id k →
      next ≡ number_at (filter (is_from from) (h k))
  told h k stand there =
      first_is (filter (starts_from (pos from)) (records_of id (old.now.trees 2)))
      (filter (is_from from) (h k)) next
      (show_filter (starts_from (pos from)) (is_from from) (from_test from)
      (records_of id (old.now.trees 2)) (h k) (shown_of old.now.trees h stand id k there)) read

  pub next_is : (start : Option ℕ) → next ≡ option_map pos start →
      IsNextStartIn cap old id from start
  next_is start is h k seen under =
      let it = seen was_clean in
      is_next from (h k) start (next_of from 0 (h k) (it.sound.rising k) start (sym is
      ∙ told h k it.stand (under.there was_clean)))

  -- on a clean disk it is an instant, or there is none
  pub next_reads : (k : Key) → HasRowId old id k → SeesSome cap old → next ≢ None →
      ((n : ℕ) → n < window → next ≢ Some (pos n)) → ⊥
  next_reads k under running =
      let it = running was_clean in
      in_window k (filter (is_from from) (it.0 k)) next
      (all-filter (IsSoundRecord k) (is_from from) (it.0 k)
      (recursion_from_All (IsSoundRecord k) (it.0 k) (it.1.sound.records k)))
      (told it.0 k it.1.stand (under.there was_clean))
