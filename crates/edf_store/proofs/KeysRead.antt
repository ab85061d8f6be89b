-- Bytes of a key are refused only where memory ran out, and the identities of all rows are those of
-- keys.
use Rattle.std.proofs.Common.{◌≡◌, ℕ, zero, suc, ◌<◌, List, [], ◌∷◌, map, length, slice_get}
use Rattle.std.proofs.Common.{slice_index_or, Option, Some, None, Vec}
use Rattle.std.proofs.Common.{Global, refl, ap, subst, ◌∙◌, arith}
use Rattle.std.proofs.lemmas.List.Elements.{recursion_from_All}
use Rattle.std.proofs.lemmas.List.Sorted.{IsPermutation-sym}
use Rattle.sqlite_value.specs.declared.value.Value.{Value}
use Rattle.sqlite_value.specs.declared.value.Value.TheVariants.{Blob}
use Rattle.sqlite_value.specs.Order.{Row, column}
use Rattle.sqlite_trees.specs.Tree.{Trees}
use Rattle.sqlite_trees.proofs.ListLemmas.{all-permutation}
use Rattle.sqlite_keyed.proofs.ListLemmas.{all_unmap}
use Rattle.sqlite_keyed.proofs.SortLemmas.{IsPermutation-sort_by}
use Rattle.edf_holdings.specs.Holdings.{Holdings}
use Rattle.edf_holdings.specs.Keys.{AreKeysOf}
use Rattle.edf_tables.specs.Columns.{by_column}
use Rattle.edf_tables.specs.Recordings.{by_identity}
use Rattle.edf_tables.proofs.Answers.{column_total}
use Rattle.edf_rows.specs.Cells.{recordings_in}
use Rattle.edf_rows.specs.Rows.{IsRecordingRow, Represent, RepresentCommitted}
use Rattle.edf_store.proofs.Found.{shown}
use Rattle.edf_store.proofs.Keys.{are_keys}
use Rattle.std.specs.List.{AllByRecursion}
use Rattle.edf_header.specs.Key.{Key, IsKey, key_bytes}
use Rattle.edf_header.specs.Identity.{IsFirstKeyFault, identity_fault_order}
use Rattle.edf_header.specs.declared.identity.IdentityFault.{IdentityFault}
use Rattle.edf_header.specs.declared.identity.IdentityFault.TheVariants.{Memory}
use Rattle.edf_header.proofs.Faults.{key-clean}
use Rattle.edf_rows.proofs.RowCells.{blob-bytes}

pub all_place : {X : Type 0} (P : X → Type 0) (xs : List X) → AllByRecursion P xs →
    (n : ℕ) (x : X) → slice_get xs n ≡ Some x → P x
all_place {X} P [] all n x e = absurd (let none : ◌≡◌ {A = Option X} None (Some x) = e in cc)
all_place P (y ∷ xs) all zero x e = let same : y ≡ x = cc in subst P same all.0
all_place P (y ∷ xs) all (suc n) x e = all_place P xs all.1 n x e

clean : (bytes : List ℕ) (fault : IdentityFault) → IsFirstKeyFault bytes fault → (k : Key) × IsKey k
    × (bytes ≡ key_bytes k) → identity_fault_order fault < 11 → ⊥
clean bytes fault first of early =
    key-clean of.0 of.1 fault early (subst (λ (b : List ℕ). IsFirstKeyFault b fault) of.2 first).0

pub refused_for_memory : (bytes : List ℕ) (fault : IdentityFault) → IsFirstKeyFault bytes fault →
    (k : Key) × IsKey k × (bytes ≡ key_bytes k) → fault ≡ Memory
refused_for_memory bytes Memory first of = refl
refused_for_memory bytes fault first of = absurd (clean bytes fault first of (omega arith))

abbrev Bytes : Type 0
Bytes = Vec ℕ Global

abbrev pub IsOfKey : Bytes → Type 0
IsOfKey b = (k : Key) × IsKey k × (b.items ≡ key_bytes k)

of_keys : (all : List Bytes) (rows : List Row) →
    AllByRecursion (λ r. IsRecordingRow (shown r)) rows →
    map (λ (b : Bytes). Blob b.items) all ≡ map (λ row. column row 2) rows →
    AllByRecursion IsOfKey all
of_keys [] rows good e = tt
of_keys (b ∷ all) [] good e =
    absurd (let n : ◌≡◌ {A = ℕ} (length (map (λ (b : Bytes). Blob b.items) (b ∷ all))) 0 =
    ap length e in omega (arith, n))
of_keys (b ∷ all) (row ∷ rows) good e =
    let first : ◌≡◌ {A = Value} (Blob b.items) (column row 2) = cc in
    let rest : map (λ (b : Bytes). Blob b.items) all ≡ map (λ row. column row 2) rows = cc in
    let it = good.0 in (
      (it.key, it.is_key, blob-bytes _ _ (first ∙ ap (λ (r : Row). column r 1) it.cells)),
      of_keys all rows good.1 rest,
    )

pub identities_of_keys : (trees : Trees) (h : Holdings) (all : List Bytes) → Represent trees h →
    map (λ (b : Bytes). Blob b.items) all ≡ map (λ row. column row 2) (by_identity (trees 0)) →
    AllByRecursion IsOfKey all
identities_of_keys trees h all stand e =
    let moved = IsPermutation-sym _ _ (IsPermutation-sort_by (by_column 2) (column_total 2)
    (trees 0)) in
    let good = all_unmap IsRecordingRow shown (trees 0)
    (recursion_from_All IsRecordingRow (recordings_in trees) stand.recordings) in
    of_keys all (by_identity (trees 0))
    (all-permutation (λ r. IsRecordingRow (shown r)) (trees 0) (by_identity (trees 0)) moved good) e

same_cells : (keys : List Key) (all : List Bytes) →
    map key_bytes keys ≡ map (λ (b : Bytes). b.items) all →
    map (λ k. Blob (key_bytes k)) keys ≡ map (λ (b : Bytes). Blob b.items) all
same_cells [] [] e = refl
same_cells [] (b ∷ all) e =
    absurd (let n : ◌≡◌ {A = ℕ} 0 (length (map (λ (b : Bytes). b.items) (b ∷ all))) = ap length e in
    omega (arith, n))
same_cells (k ∷ keys) [] e = absurd (let n : ◌≡◌ {A = ℕ} (length (map key_bytes (k ∷ keys))) 0 =
    ap length e in omega (arith, n))
same_cells (k ∷ keys) (b ∷ all) e =
    let first : key_bytes k ≡ b.items = cc in
    let rest : map key_bytes keys ≡ map (λ (b : Bytes). b.items) all = cc in
    let cells = ap (λ (l : List ℕ). Blob l) first in
    let more = same_cells keys all rest in
    λ i. cells i ∷ more i

pub keys_read : (cap : ℕ) (trees : Trees) (h : Holdings) (all : List Bytes) (keys : List Key) →
    RepresentCommitted cap trees h →
    map (λ (b : Bytes). Blob b.items) all ≡ map (λ row. column row 2)
    (by_identity (trees 0)) → map key_bytes keys ≡ map (λ (b : Bytes). b.items) all →
    AllByRecursion IsKey keys → AreKeysOf h keys
keys_read cap trees h all keys kept rows bytes good =
    are_keys cap trees h keys kept good (same_cells keys all bytes ∙ rows)

pub all_index : {X : Type 0} (P : X → Type 0) (xs : List X) → AllByRecursion P xs →
    (n : ℕ) (d : X) → n < length xs → P (slice_index_or xs n d)
all_index P [] all n d within = absurd (omega (arith, within))
all_index P (y ∷ xs) all zero d within = all.0
all_index P (y ∷ xs) all (suc n) d within = all_index P xs all.1 n d (omega (arith, within))
