-- What a caller derives: no record is at the start where none is near, and an identity names at
-- most one recording.
use Rattle.std.proofs.Common.{◌≡◌, ◌≤◌, ℕ, Bool, true, false, List, [], ◌∷◌, filter, length, refl}
use Rattle.std.proofs.Common.{sym, ◌∙◌, arith, Ordering, Less, Equal, Greater, is_eq, true≢false}
use Rattle.std.specs.List.{AllByRecursion}
use Rattle.std.proofs.lemmas.Cmp.{alike_right}
use Rattle.sqlite.specs.declared.types.Value.{Value}
use Rattle.sqlite.specs.Order.{Row}
use Rattle.sqlite_value.specs.Order.{column, value_cmp}
use Rattle.sqlite_value.proofs.OrderLemmas.{value_cmp_total}
use Rattle.sqlite_trees.specs.Tree.{IsAscending}
use Rattle.edf_tables.specs.Columns.{by_column}

pub equal_of : (o : Ordering) → is_eq o ≡ true → o ≡ Equal
equal_of Less h = absurd (true≢false (sym h))
equal_of Equal h = refl
equal_of Greater h = absurd (true≢false (sym h))

pub all_pass : (p : Row → Bool) (rows : List Row) → AllByRecursion (λ r. p r ≡ true) (filter p rows)
all_pass p [] = tt
all_pass p (r ∷ rows) = go (p r) refl (all_pass p rows)
  where
    go : (b : Bool) → p r ≡ b → AllByRecursion (λ r. p r ≡ true) (filter p rows) →
        AllByRecursion (λ r. p r ≡ true) (filter p (r ∷ rows))
    go true e more = rw e (e, more)
    go false e more = rw e more

-- of rows whose values at this column rise, one at most has the value
pub at_most_one : (at : ℕ) (v : Value) (rows : List Row) →
    IsAscending (λ a b. by_column at a b ≡ Less) rows →
    AllByRecursion (λ r. is_eq (value_cmp (column r at) v) ≡ true) rows → length rows ≤ 1
at_most_one at v [] up all = omega arith
at_most_one at v (r ∷ []) up all = omega arith
at_most_one at v (r ∷ s ∷ rows) up all =
    let tied : value_cmp (column r at) (column s at) ≡ Equal =
    alike_right value_cmp_total (column s at) v (column r at) (equal_of _ all.1.0)
    ∙ equal_of _ all.0 in
    absurd (let e : Less ≡ Equal = sym up.0.0 ∙ tied in cc)
