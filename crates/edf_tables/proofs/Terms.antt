-- The terms of WHERE, as tests of rows.
use Rattle.std.proofs.Common.{◌≡◌, ℕ, ℤ, Bool, true, false, ◌&&◌, List, [], ◌∷◌, Some, refl, ap}
use Rattle.std.proofs.Common.{ap₂, ◌∙◌, is_eq, is_lt, is_gt, is_ge}
use Rattle.sqlite.specs.declared.types.Value.{Value}
use Rattle.sqlite.specs.declared.types.Value.TheVariants.{Null, Int, Real, Text, Blob}
use Rattle.sqlite.specs.Order.{Row}
use Rattle.sqlite.specs.Collation.TheVariants.{Binary}
use Rattle.sqlite_value.specs.Order.{column, value_cmp}
use Rattle.sqlite_sql.specs.declared.ops.BinaryOp.TheVariants as by
use Rattle.sqlite_sql.specs.declared.ops.CompareOp.TheVariants.{Eq, Lt, Gt, Ge}
use Rattle.sqlite_sql.specs.Ops.{binary, is_true, from_truth}
use Rattle.edf_tables.specs.Records.{starts_after, starts_from, starts_between}
use Rattle.edf_tables.specs.Columns.{is_of}
use Rattle.edf_tables.proofs.Queries.{passes, of_recording, near_terms, after_terms, from_terms}
use Rattle.edf_tables.proofs.Queries.{identity_terms}

pub truth_of : (b : Bool) → is_true (from_truth (Some b)) ≡ b
truth_of true = refl
truth_of false = refl

equals : (v : Value) (n : ℤ) → is_true (binary (by.Compare Eq Binary) v (Int n)) ≡ is_eq
    (value_cmp v (Int n))
unfolding binary value_cmp
equals Null n = refl
equals v n = truth_of _

equals_bytes : (v : Value) (bytes : List ℕ) →
    is_true (binary (by.Compare Eq Binary) v (Blob bytes)) ≡ is_eq (value_cmp v (Blob bytes))
unfolding binary value_cmp
equals_bytes Null bytes = refl
equals_bytes v bytes = truth_of _

above : (v : Value) (n : ℤ) → is_true (binary (by.Compare Gt Binary) v (Int n)) ≡ is_gt
    (value_cmp v (Int n))
unfolding binary value_cmp
above Null n = refl
above v n = truth_of _

not_below : (v : Value) (n : ℤ) →
    is_true (binary (by.Compare Ge Binary) v (Int n)) ≡ is_ge (value_cmp v (Int n))
unfolding binary value_cmp
not_below Null n = refl
not_below v n = truth_of _

both : (a b : Bool) → (is_true (from_truth (Some a)) && is_true (from_truth (Some b))) ≡ (a && b)
both true b = truth_of b
both false b = refl

-- NULL is below every number, but passes no comparison
between : (v : Value) (n m : ℤ) →
    (is_true (binary (by.Compare Gt Binary) v (Int n)) && is_true
    (binary (by.Compare Lt Binary) v (Int m))) ≡ (is_gt (value_cmp v (Int n)) && is_lt
    (value_cmp v (Int m)))
unfolding binary value_cmp
between Null n m = refl
between (Int k) n m = both (is_gt (value_cmp (Int k) (Int n))) (is_lt (value_cmp (Int k) (Int m)))
between (Real x) n m = both (is_gt (value_cmp (Real x) (Int n)))
    (is_lt (value_cmp (Real x) (Int m)))
between (Text t) n m = both (is_gt (value_cmp (Text t) (Int n)))
    (is_lt (value_cmp (Text t) (Int m)))
between (Blob b) n m = both (is_gt (value_cmp (Blob b) (Int n)))
    (is_lt (value_cmp (Blob b) (Int m)))

and_true : (b : Bool) → (b && true) ≡ b
and_true true = refl
and_true false = refl

pub is_of_passes : (n : ℤ) (r : Row) → passes (Int n ∷ []) (of_recording ∷ []) r ≡ is_of n r
is_of_passes n r = and_true _ ∙ equals (column r 1) n

pub near_passes : (n after before : ℤ) (r : Row) →
    passes (Int n ∷ Int after ∷ Int before ∷ []) near_terms
    r ≡ (is_of n r && starts_between after before r)
near_passes n after before r = ap₂ (λ a b. a && b) (equals (column r 1) n)
    (ap (λ b. is_true (binary (by.Compare Gt Binary) (column r 2) (Int after)) && b) (and_true _)
    ∙ between (column r 2) after before)

pub after_passes : (n after : ℤ) (more : Row) (r : Row) →
    passes (Int n ∷ Int after ∷ more) after_terms r ≡ (is_of n r && starts_after after r)
after_passes n after more r = ap₂ (λ a b. a && b) (equals (column r 1) n) (and_true _
    ∙ above (column r 2) after)

pub from_passes : (n from : ℤ) (r : Row) →
    passes (Int n ∷ Int from ∷ []) from_terms r ≡ (is_of n r && starts_from from r)
from_passes n from r = ap₂ (λ a b. a && b) (equals (column r 1) n) (and_true _
    ∙ not_below (column r 2) from)

pub identity_passes : (identity : List ℕ) (r : Row) →
    passes (Blob identity ∷ []) identity_terms r ≡ is_eq (value_cmp (column r 2) (Blob identity))
identity_passes identity r = and_true _ ∙ equals_bytes (column r 2) identity
