-- A stretch of time in which none of a recording's stored data records starts.
use Rattle.std.specs.Prelude.{◌⊎◌, ℕ, ◌≤◌, List, All, Option, IfSome, IsSomeAnd}
use Rattle.sqlite_trees.specs.declared.store.Store.{Ghosts}
use Rattle.sqlite.specs.State.{HasCleanDisk}
use Rattle.edf_header.specs.Key.{Key}
use Rattle.edf_fragment.specs.Fragment.{DataRecord}
use Rattle.edf_holdings.specs.Holdings.{Holdings}
use Rattle.edf_store.specs.Held.{StoreModel, at}
use Rattle.edf_store.specs.Transaction.{Sees}
use Rattle.edf_store.specs.declared.transaction.StoreTx.{StoreTx}
use Rattle.edf_intake.specs.declared.gap.Gap.{Gap}

-- the start is where the gap begins or earlier, or where it ends or later; a gap may have no end
abbrev pub IsOutside : Gap → ℕ → Type 0
IsOutside gap start = (start ≤ gap.from) ⊎ IsSomeAnd gap.until (λ until. until ≤ start)

-- none of the records starts in the gap
abbrev pub IsGap : List DataRecord → Gap → Type 0
IsGap records gap = All (λ r. IsOutside gap r.start) records

module _ {S : Type 0} (g : Ghosts S) where
  -- where a gap is known, none of the key's records that are seen starts in it
  abbrev pub IsGapIn : StoreModel S → Key → Option Gap → Type 0
  IsGapIn store key gap = (h : Holdings) → Sees g store h → IfSome gap (IsGap (h key))

  -- on a disk that returns what was written, none of those that the transaction sees does
  abbrev pub IsGapInTransaction : StoreTx S → Key → Option Gap → Type 0
  IsGapInTransaction tx key gap = HasCleanDisk (at g tx.store.now) → IsGapIn tx.store.now key gap
