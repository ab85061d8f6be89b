-- One INSERT is one step of the sorted lists.
use Rattle.std.proofs.Common.{◌≡◌, ℤ, Bool, true, false, List, [], ◌∷◌, filter, refl, sym, ap, ◌∙◌}
use Rattle.std.proofs.Common.{Ordering, Less, Equal, Greater, is_gt, is_eq, true≢false}
use Rattle.std.specs.List.{AllByRecursion}
use Rattle.std.specs.Cmp.{IsTotalOrder}
use Rattle.std.specs.Ordering.{ordering_reverse}
use Rattle.std.proofs.lemmas.Cmp.{upto}
use Rattle.sqlite.specs.Order.{Row}
use Rattle.sqlite_value.specs.Order.{value_cmp}
use Rattle.sqlite_trees.specs.Tree.{rowid, put_row}
use Rattle.std.proofs.lemmas.Cmp.{on_total}
use Rattle.sqlite_value.specs.Order.{column}
use Rattle.sqlite_value.proofs.OrderLemmas.{value_cmp_total}
use Rattle.sqlite_rules.specs.Edit.{is_taken}
use Rattle.sqlite_keyed.proofs.ListLemmas.{none_from_any}
use Rattle.edf_tables.specs.Records.{records_of}
use Rattle.edf_tables.specs.Columns.{by_column, is_of}
use Rattle.sqlite_keyed.specs.Lists.{insert_sorted, sort_by}

module _ {X : Type 0} (cmp : X → X → Ordering) (total : IsTotalOrder cmp) where
  back : (a b : X) (o : Ordering) → cmp a b ≡ o → cmp b a ≡ ordering_reverse o
  back a b o e = total.antisymm b a ∙ ap ordering_reverse e

  -- the order in which two that differ are put in makes no difference
  pub insert_swap : (a b : X) (xs : List X) → is_eq (cmp a b) ≡ false →
      insert_sorted cmp a (insert_sorted cmp b xs) ≡ insert_sorted cmp b (insert_sorted cmp a xs)
  insert_swap a b [] apart = go (cmp a b) refl apart
    where
      go : (o : Ordering) → cmp a b ≡ o → is_eq (cmp a b) ≡ false →
          insert_sorted cmp a (b ∷ []) ≡ insert_sorted cmp b (a ∷ [])
      go Less e d = rw (e, back a b Less e)
      go Equal e d = absurd (true≢false (sym (ap is_eq e) ∙ d))
      go Greater e d = rw (e, back a b Greater e)
  insert_swap a b (x ∷ xs) apart = go (is_gt (cmp a x)) (is_gt (cmp b x)) (cmp a b) refl refl refl
      apart (insert_swap a b xs apart)
    where
      go : (p q : Bool) (o : Ordering) → is_gt (cmp a x) ≡ p → is_gt (cmp b x) ≡ q → cmp a b ≡ o →
          is_eq (cmp a b) ≡ false → insert_sorted cmp a (insert_sorted cmp b xs) ≡ insert_sorted cmp
          b (insert_sorted cmp a xs)
          → insert_sorted cmp a (insert_sorted cmp b (x ∷ xs)) ≡ insert_sorted cmp b
          (insert_sorted cmp a (x ∷ xs))
      go true true o e f g d more = rw (e, f) (rw e (ap (λ l. x ∷ l) more))
      go true false Less e f g d more =
          absurd (true≢false (sym e ∙ upto total a b x (ap is_gt g) f))
      go true false Equal e f g d more = absurd (true≢false (sym (ap is_eq g) ∙ d))
      go true false Greater e f g d more = rw (e, f) (rw (g, e) refl)
      go false true Less e f g d more = rw (e, f) (rw (e, back a b Less g) refl)
      go false true Equal e f g d more = absurd (true≢false (sym (ap is_eq g) ∙ d))
      go false true Greater e f g d more =
          absurd (true≢false (sym f ∙ upto total b a x (ap is_gt (back a b Greater g)) e))
      go false false Less e f g d more = rw (e, f) (rw (g, back a b Less g) refl)
      go false false Equal e f g d more = absurd (true≢false (sym (ap is_eq g) ∙ d))
      go false false Greater e f g d more = rw (e, f) (rw (g, back a b Greater g, e) refl)

module _ (cmp : Row → Row → Ordering) (total : IsTotalOrder cmp) (p : Row → Bool) (new : Row) where
  -- a row that passes goes into its place among those that do
  pub put_passing : (rows : List Row) → p new ≡ true →
      AllByRecursion (λ r. is_eq (value_cmp (rowid r) (rowid new)) ≡ false) rows →
      AllByRecursion (λ r. p r ≡ true → is_eq (cmp r new) ≡ false) rows
      → sort_by cmp (filter p (put_row new rows)) ≡ insert_sorted cmp new
      (sort_by cmp (filter p rows))
  put_passing [] is fresh apart = rw is refl
  put_passing (r ∷ rows) is fresh apart =
      go (value_cmp (rowid r) (rowid new)) (p r) refl refl (put_passing rows is fresh.1 apart.1)
    where
      go : (o : Ordering) (b : Bool) → value_cmp (rowid r) (rowid new) ≡ o → p r ≡ b →
          sort_by cmp (filter p (put_row new rows)) ≡ insert_sorted cmp new
          (sort_by cmp (filter p rows))
          → sort_by cmp (filter p (put_row new (r ∷ rows))) ≡ insert_sorted cmp new
          (sort_by cmp (filter p (r ∷ rows)))
      go Less true e f more = rw (e, f) (ap (insert_sorted cmp r) more
          ∙ insert_swap cmp total r new _ (apart.0 f))
      go Less false e f more = rw (e, f) more
      go Equal b e f more = absurd (true≢false (sym (ap is_eq e) ∙ fresh.0))
      go Greater b e f more = rw e (rw is refl)

  -- and one that does not pass changes nothing
  pub put_other : (rows : List Row) → p new ≡ false →
      AllByRecursion (λ r. is_eq (value_cmp (rowid r) (rowid new)) ≡ false) rows →
      filter p (put_row new rows) ≡ filter p rows
  put_other [] miss fresh = rw miss refl
  put_other (r ∷ rows) miss fresh =
      go (value_cmp (rowid r) (rowid new)) (p r) refl refl (put_other rows miss fresh.1)
    where
      go : (o : Ordering) (b : Bool) → value_cmp (rowid r) (rowid new) ≡ o → p r ≡ b →
          filter p (put_row new rows) ≡ filter p rows →
          filter p (put_row new (r ∷ rows)) ≡ filter p (r ∷ rows)
      go Less true e f more = rw (e, f) (ap (λ l. r ∷ l) more)
      go Less false e f more = rw (e, f) more
      go Equal b e f more = absurd (true≢false (sym (ap is_eq e) ∙ fresh.0))
      go Greater b e f more = rw e (rw miss refl)

-- in the words of the tables: one INSERT puts one record into the sorted list of its recording
pub add_is_step : (n : ℤ) (new : Row) (rows : List Row) → is_of n new ≡ true →
    is_taken rows new ≡ false → AllByRecursion (λ r. is_of n r ≡ true →
    is_eq (by_column 2 r new) ≡ false) rows
    → records_of n (put_row new rows) ≡ insert_sorted (by_column 2) new (records_of n rows)
add_is_step n new rows is fresh apart =
    put_passing (by_column 2) (on_total (λ r. column r 2) value_cmp_total) (is_of n) new rows is
    (none_from_any (λ r. is_eq (value_cmp (rowid r) (rowid new))) rows fresh) apart

-- and leaves the others
pub add_elsewhere : (m : ℤ) (new : Row) (rows : List Row) → is_of m new ≡ false →
    is_taken rows new ≡ false → records_of m (put_row new rows) ≡ records_of m rows
add_elsewhere m new rows miss fresh =
    ap (sort_by (by_column 2)) (put_other (by_column 2) (on_total (λ r. column r 2) value_cmp_total)
    (is_of m) new rows miss (none_from_any (λ r. is_eq (value_cmp (rowid r) (rowid new))) rows
    fresh))
