-- Data records are divided by the numbers of their signals' samples.
use Rattle.std.specs.Prelude.{◌≡◌, ℕ, ◌*◌, ◌/◌, ◌%◌, ◌^◌, ◌≤◌, ◌<◌, List, length, map, All}
use Rattle.std.specs.List.{flat_map}
use Rattle.edf_time.specs.Decimal.{short}
use Rattle.edf_field.specs.Number.{field}
use Rattle.edf_tal.specs.Block.{split_by_sizes}

-- A data record of this duration, and of so many samples of each signal, may have so many parts.
pub record DividesSizes (duration : ℕ) (sizes : List ℕ) (parts : ℕ) : Type 0 where
  pub whole : duration % parts ≡ 0
  pub named : length (short (duration / parts)) ≤ 8
  pub even : All (λ size. size % parts ≡ 0) sizes

-- Of the numbers of parts this is the least with parts of at most a second, or, where none has
-- such, the greatest.
pub record IsBestOf (duration : ℕ) (sizes : List ℕ) (parts unit : ℕ) : Type 0 where
  pub some : 1 ≤ parts
  pub divides : DividesSizes duration sizes parts
  pub lasts : unit ≡ duration / parts
  pub fewest : (other : ℕ) → 1 ≤ other → DividesSizes duration sizes other →
      duration / other ≤ 10 ^ 9 → (unit ≤ 10 ^ 9) × (parts ≤ other)
  pub most : (other : ℕ) → 1 ≤ other → DividesSizes duration sizes other → 10 ^ 9 < unit →
      other ≤ parts

-- The nth of so many parts of a data record has of each signal's samples these.
abbrev pub part_of : List ℕ → ℕ → ℕ → List ℕ → List ℕ
part_of sizes parts nth bytes =
    flat_map (λ signal. field signal (nth * (length signal / parts)) (length signal / parts))
    (split_by_sizes (map (λ size. 2 * size) sizes) bytes)
