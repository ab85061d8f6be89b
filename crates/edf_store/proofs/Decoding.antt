-- Data records read back from their rows.
use Rattle.std.proofs.Common.{◌≡◌, ℕ, suc, ◌^◌, ◌<◌, ◌≤◌, pos, negsuc, ◌-◌, ◌-ℤ◌, FitsSigned, inl}
use Rattle.std.proofs.Common.{inr, to_z, of_z, w64, Option, None, Some, List, [], ◌∷◌, ◌++◌, map}
use Rattle.std.proofs.Common.{length, sym, ap, subst, ◌∙◌, arith}
use Rattle.std.proofs.lemmas.Int.{to_z-of_z, ints}
use Rattle.std.proofs.lemmas.Bool.{cases_lt}
use Rattle.edf_time.specs.Civil.{window}
use Rattle.std.proofs.lemmas.List.{append-nil, append_assoc}
use Rattle.std.specs.List.{AllByRecursion}
use Rattle.sqlite_value.specs.declared.value.Value.TheVariants.{Int, Blob}
use Rattle.edf_header.specs.Key.{Key}
use Rattle.edf_fragment.specs.Fragment.{DataRecord}
use Rattle.edf_fragment.specs.Sound.{IsSoundRecord}
use Rattle.edf_tables.specs.Cells.{cells_of}
use Rattle.edf_tables.specs.declared.row.RecordRow.{RecordRow}
use Rattle.edf_rows.specs.Cells.{record_cells}
use Rattle.edf_rows.specs.Rows.{IsRowOf}

-- a row of a sound data record, its block by other bytes that are the same
pub row_of : (k : Key) (d : DataRecord) (row : RecordRow) (block : List ℕ) →
    block ≡ row.block.items → IsSoundRecord k d → cells_of row ≡ record_cells d
    → IsRowOf k d (Int row.start ∷ Blob row.samples.items ∷ Blob block ∷ [])
row_of k d row block same sound cells = record {
  cells = ap (λ (b : List ℕ). Int row.start ∷ Blob row.samples.items ∷ Blob b ∷ []) same ∙ cells;
  sound = sound;
}

pub same_some : (made : Option DataRecord) (a b : DataRecord) → made ≡ Some a → made ≡ Some b →
    a ≡ b
same_some made a b is same = cc

pub not_none : (made : Option DataRecord) (a : DataRecord) → made ≡ None → ¬ (made ≡ Some a)
not_none made a is same = cc

-- a list of data records, each with P, of which some were read, and whose others the rows left
-- stand for
pub record IsPartRead (P : DataRecord → Type 0) (ds read : List DataRecord)
    (rows : List RecordRow) : Type 0 where
  pub left : List DataRecord
  pub whole : ds ≡ read ++ left
  pub cells : map cells_of rows ≡ map record_cells left
  pub has : AllByRecursion P left

pub none_read : (P : DataRecord → Type 0) (ds read : List DataRecord) (rows : List RecordRow) →
    read ≡ [] → map cells_of rows ≡ map record_cells ds → AllByRecursion P ds →
    IsPartRead P ds read rows
none_read P ds read rows none same all = record {
  left = ds;
  whole = sym (ap (λ (l : List DataRecord). l ++ ds) none);
  cells = same;
  has = all;
}

-- the data record that the next of the rows stands for
pub record IsNextRead (P : DataRecord → Type 0) (ds read : List DataRecord) (row : RecordRow)
    (rows : List RecordRow) : Type 0 where
  pub data_record : DataRecord
  pub cells : cells_of row ≡ record_cells data_record
  pub has : P data_record
  pub then : IsPartRead P ds (read ++ data_record ∷ []) rows

next_of : (P : DataRecord → Type 0) (ds read : List DataRecord) (row : RecordRow)
    (rows : List RecordRow) (left : List DataRecord)
    → ds ≡ read ++ left → map cells_of (row ∷ rows) ≡ map record_cells left →
    AllByRecursion P left → IsNextRead P ds read row rows
next_of P ds read row rows [] whole cells has =
    absurd (let n : ◌≡◌ {A = ℕ} (suc (length (map cells_of rows))) 0 = ap length cells in
    omega (arith, n))
next_of P ds read row rows (d ∷ left) whole cells has =
    let first : cells_of row ≡ record_cells d = cc in
    let rest : map cells_of rows ≡ map record_cells left = cc in
    record {
      data_record = d;
      cells = first;
      has = has.0;
      then = record {
        left = left;
        whole = whole ∙ sym (append_assoc read (d ∷ []) left);
        cells = rest;
        has = has.1;
      };
    }

pub next_read : (P : DataRecord → Type 0) (ds read : List DataRecord) (row : RecordRow)
    (before after : List RecordRow)
    → IsPartRead P ds read before → before ≡ row ∷ after → IsNextRead P ds read row after
next_read P ds read row before after part is =
    next_of P ds read row after part.left part.whole (sym (ap (map cells_of) is)
    ∙ part.cells) part.has

-- the next data record was read and pushed
pub pushed : (P : DataRecord → Type 0) (ds read : List DataRecord) (row : RecordRow)
    (rows : List RecordRow) (r : DataRecord) (now : List DataRecord)
    → (next : IsNextRead P ds read row rows) → r ≡ next.data_record → now ≡ read ++ r ∷ [] →
    IsPartRead P ds now rows
pushed P ds read row rows r now next is push =
    subst (λ (l : List DataRecord). IsPartRead P ds l rows)
    (sym (push ∙ ap (λ (d : DataRecord). read ++ d ∷ []) is)) next.then

none_follows : (ds read left : List DataRecord) → ds ≡ read ++ left → [] ≡ map record_cells left →
    read ≡ ds
none_follows ds read [] whole cells = sym (whole ∙ append-nil read)
none_follows ds read (d ∷ left) whole cells =
    absurd (let n : ◌≡◌ {A = ℕ} 0 (suc (length (map record_cells left))) = ap length cells in
    omega (arith, n))

pub all_read : (P : DataRecord → Type 0) (ds read : List DataRecord) (rows : List RecordRow) →
    IsPartRead P ds read rows → rows ≡ [] → read ≡ ds
all_read P ds read rows part none =
    none_follows ds read part.left part.whole (sym (ap (map cells_of) none) ∙ part.cells)

-- a start fits its cell
pub start_fits : (n : ℕ) → n < window → to_z w64 (of_z w64 (pos n)) ≡ pos n
start_fits n low = to_z-of_z w64 (pos n) (record { sfits = omega (arith, low) })

pub nat_fits : (n : ℕ) → n < 2 ^ 63 → to_z w64 n ≡ pos n
nat_fits n low = to_z-of_z w64 (pos n) (record { sfits = omega (arith, low) })

-- a difference of two fits
pub fits_sub : (a b : ℕ) → a < 2 ^ 63 → b < 2 ^ 63 → FitsSigned w64 (pos a -ℤ pos b)
fits_sub a b small low = elim (cases_lt a b) [
  | inl l ↦ subst (FitsSigned w64) (sym (negative l)) (record { sfits = omega (arith, low) })
  | inr m ↦ subst (FitsSigned w64) (sym (positive m)) (record { sfits = omega (arith, small) })
]
  where
    negative : a < b → pos a -ℤ pos b ≡ negsuc (b - a - 1)
    negative l = omega (arith, ints, l)

    positive : b ≤ a → pos a -ℤ pos b ≡ pos (a - b)
    positive m = omega (arith, ints, m)
