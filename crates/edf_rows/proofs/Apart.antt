-- No id and no identity occurs twice.
use Rattle.std.proofs.Common.{◌≡◌, ◌≢◌, ◌⊎◌, inl, inr, ℕ, ◌+◌, ℤ, Bool, true, false, not, ◌&&◌}
use Rattle.std.proofs.Common.{List, [], ◌∷◌, map, filter, length, Contains, refl, sym, ap, ap₂}
use Rattle.std.proofs.Common.{subst, ◌∙◌, arith, Ordering, Less, Equal, Greater, is_eq, true≢false}
use Rattle.std.specs.List.{AllByRecursion, list_any}
use Rattle.std.specs.Ordering.{is_ne}
use Rattle.std.proofs.lemmas.Cmp.{tied_itself}
use Rattle.std.proofs.lemmas.List.Sorted.{length_permutation}
use Rattle.sqlite.specs.declared.types.Value.{Value}
use Rattle.sqlite.specs.declared.types.Value.TheVariants.{Int, Blob}
use Rattle.sqlite.specs.Order.{Row}
use Rattle.sqlite.specs.Collation.TheVariants.{Binary}
use Rattle.sqlite.specs.Tree.{Trees}
use Rattle.sqlite_value.specs.Order.{column, value_cmp}
use Rattle.sqlite_value.proofs.OrderLemmas.{value_cmp_total}
use Rattle.sqlite_trees.specs.Tree.{IsAscending}
use Rattle.sqlite_sql.specs.Ops.{binary}
use Rattle.sqlite_schema.specs.Rules.{equal, differ, clashes, Obeys}
use Rattle.sqlite_schema.specs.declared.schema.Constraint.TheVariants.{Unique}
use Rattle.sqlite_value.specs.Keys.{plain, first_key}
use Rattle.sqlite_keyed.proofs.ListLemmas.{ascending-filter, IsPermutation-filter}
use Rattle.edf_header.specs.Key.{key_bytes}
use Rattle.edf_tables.specs.Schema.{recording, Others, schema_with}
use Rattle.edf_tables.proofs.Apart.{all_pass, at_most_one}
use Rattle.edf_tables.proofs.Terms.{truth_of}
use Rattle.edf_rows.specs.Cells.{recordings_in}
use Rattle.edf_rows.specs.Rows.{AreTwoOf}
use Rattle.edf_rows.specs.Inside.Shape.{HasRecords}
use Rattle.edf_rows.proofs.Rows.{here, there, cases_first, no_member}

-- ---- ids
same_value : (v : Value) → is_eq (value_cmp v v) ≡ true
same_value v = ap is_eq (tied_itself value_cmp_total v)

pub other_ids : (rows : List Row) (a b : Row) →
    IsAscending (λ a b. value_cmp (column a 0) (column b 0) ≡ Less) rows → AreTwoOf rows a b →
    column a 0 ≢ column b 0
other_ids rows a b up two e =
    let p : Row → Bool = λ r. is_eq (value_cmp (column r 0) (column b 0)) in
    let least = at_most_one 0 (column b 0) (filter p rows)
    (ascending-filter (λ a b. value_cmp (column a 0) (column b 0) ≡ Less) p rows up)
    (all_pass p rows) in
    let same : length (filter p rows) ≡ length (filter p (a ∷ b ∷ two.0)) =
    sym (length_permutation _ _ (IsPermutation-filter p _ _ two.1)) in
    let first : p a ≡ true = ap (λ v. is_eq (value_cmp v (column b 0))) e
    ∙ same_value (column b 0) in
    let second : p b ≡ true = same_value (column b 0) in
    let split : length (filter p (a ∷ b ∷ two.0)) ≡ 2 + length (filter p two.0) =
    rw (first, second) (omega arith) in
    absurd (omega (arith, least, same, split))

-- ---- identities
same_bytes : (bytes : List ℕ) → equal Binary (Blob bytes) (Blob bytes) ≡ true
unfolding binary value_cmp
same_bytes bytes = truth_of (is_eq (value_cmp (Blob bytes) (Blob bytes))) ∙ same_value (Blob bytes)

other_numbers : (m n : ℤ) → differ (Int m) (Int n) ≡ is_ne (value_cmp (Int m) (Int n))
unfolding binary value_cmp
other_numbers m n = truth_of (is_ne (value_cmp (Int m) (Int n)))

pub find_row : (rows : List Row) (a : Row) →
    Contains (map (λ row. column row 0 ∷ column row 2 ∷ []) rows) a → (row : Row)
    × Contains rows row × (a ≡ column row 0 ∷ column row 2 ∷ [])
find_row [] a c = absurd (no_member a c)
find_row (r ∷ rows) a c =
    go (cases_first (column r 0 ∷ column r 2 ∷ []) a
    (map (λ row. column row 0 ∷ column row 2 ∷ []) rows) c) (find_row rows a)
  where
    go : ((column r 0 ∷ column r 2 ∷ []) ≡ a)
        ⊎ Contains (map (λ row. column row 0 ∷ column row 2 ∷ []) rows) a
        → (Contains (map (λ row. column row 0 ∷ column row 2 ∷ []) rows) a → (row : Row)
        × Contains rows row × (a ≡ column row 0 ∷ column row 2 ∷ []))
        → (row : Row) × Contains (r ∷ rows) row × (a ≡ column row 0 ∷ column row 2 ∷ [])
    go (inl e) more = (r, here r rows, sym e)
    go (inr c) more = let it = more c in (it.0, there r it.0 rows it.1, it.2)

none_at : (p : Row → Bool) (rows : List Row) (row : Row) → list_any p rows ≡ false →
    Contains rows row → p row ≡ false
none_at p [] row h c = absurd (no_member row c)
none_at p (r ∷ rows) row h c = go (p r) refl (cases_first r row rows c) (none_at p rows row)
  where
    go : (b : Bool) → p r ≡ b → (r ≡ row) ⊎ Contains rows row →
        (list_any p rows ≡ false → Contains rows row → p row ≡ false) → p row ≡ false
    go true e d more = absurd (true≢false (rw e at h))
    go false e (inl s) more = ap p (sym s) ∙ e
    go false e (inr c) more = more (rw e at h) c

pub all_at : (P : Row → Type 0) (rows : List Row) (row : Row) → AllByRecursion P rows →
    Contains rows row → P row
all_at P [] row all c = absurd (no_member row c)
all_at P (r ∷ rows) row all c = go (cases_first r row rows c) (all_at P rows row all.1)
  where
    go : (r ≡ row) ⊎ Contains rows row → (Contains rows row → P row) → P row
    go (inl e) more = subst P e all.0
    go (inr c) more = more c

passes_first : (c : Bool) (rest : Bool) → (not (true && c) && rest) ≡ true → c ≡ false
passes_first true rest h = absurd (true≢false (sym h))
passes_first false rest h = refl

-- no row has another's identity
clash_free : (trees : Trees) (o : Others) → Obeys (schema_with o) trees →
    AllByRecursion (λ row. clashes plain (2 ∷ []) (trees 0) row ≡ false) (trees 0)
clash_free trees o obeys = each (trees 0) (obeys.rules Unique).0
  where
    each : (rows : List Row) →
        AllByRecursion (λ row. Rattle.sqlite_schema.specs.Rules.passes Unique (schema_with o) trees
        recording row ≡ true) rows
        → AllByRecursion (λ row. clashes plain (2 ∷ []) (trees 0) row ≡ false) rows
    each [] all = tt
    each (row ∷ rows) all = (passes_first _ _ all.0, each rows all.1)

kept_apart : (e d : Bool) → ((e && true) && d) ≡ false → e ≡ true → d ≡ false
kept_apart true d h e = h
kept_apart false d h e = absurd (true≢false (sym e))

pub other_identities : (cap : ℕ) (trees : Trees) (o : Others) → Obeys (schema_with o) trees →
    AllByRecursion (HasRecords cap trees) (recordings_in trees) → (a b : Row) →
    Contains (recordings_in trees) a → Contains (recordings_in trees) b → column a 0 ≢ column b 0
    → column a 1 ≢ column b 1
unfolding first_key
other_identities cap trees o obeys has a b in_a in_b other same =
    let first = find_row (trees 0) a in_a in
    let second = find_row (trees 0) b in_b in
    let ha = all_at (HasRecords cap trees) (recordings_in trees) a has in_a in
    let hb = all_at (HasRecords cap trees) (recordings_in trees) b has in_b in
    let id_a : column first.0 0 ≡ Int ha.id = sym (ap (λ (r : Row). column r 0) first.2)
    ∙ ap (λ (r : Row). column r 0) ha.cells in
    let id_b : column second.0 0 ≡ Int hb.id = sym (ap (λ (r : Row). column r 0) second.2)
    ∙ ap (λ (r : Row). column r 0) hb.cells in
    let bytes_b : column second.0 2 ≡ Blob (key_bytes hb.key) =
    sym (ap (λ (r : Row). column r 1) second.2) ∙ ap (λ (r : Row). column r 1) hb.cells in
    let bytes_a : column first.0 2 ≡ Blob (key_bytes hb.key) =
    sym (ap (λ (r : Row). column r 1) first.2) ∙ same ∙ ap (λ (r : Row). column r 1) hb.cells in
    let free = all_at (λ row. clashes plain (2 ∷ []) (trees 0) row ≡ false) (trees 0) first.0
    (clash_free trees o obeys) first.1 in
    let apart = none_at _ (trees 0) second.0 free second.1 in
    let alike : equal Binary (column second.0 2) (column first.0 2) ≡ true =
    ap₂ (equal Binary) bytes_b bytes_a ∙ same_bytes (key_bytes hb.key) in
    let close : differ (column second.0 0) (column first.0 0) ≡ false =
    kept_apart (equal Binary (column second.0 2) (column first.0 2))
    (differ (column second.0 0) (column first.0 0)) apart alike in
    let tied : value_cmp (Int hb.id) (Int ha.id) ≡ Equal =
    not_other _ (sym (other_numbers hb.id ha.id) ∙ sym (ap₂ differ id_b id_a) ∙ close) in
    let numbers : hb.id ≡ ha.id = Rattle.std.proofs.lemmas.Cmp.int_ranked hb.id ha.id Equal
    (sym (sym (Rattle.sqlite_value.proofs.OrderLemmas.value_cmp-Int hb.id ha.id) ∙ tied)) in
    other (ap (λ (r : Row). column r 0) ha.cells ∙ ap Int (sym numbers)
    ∙ sym (ap (λ (r : Row). column r 0) hb.cells))
  where
    not_other : (o : Ordering) → is_ne o ≡ false → o ≡ Equal
    not_other Less h = absurd (true≢false h)
    not_other Equal h = refl
    not_other Greater h = absurd (true≢false h)
