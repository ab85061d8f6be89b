-- The count of failed calls of a reader or a writer.
use Rattle.std.specs.Prelude.{◌≡◌, ℕ, ◌+◌, ◌-◌, ◌^◌, ◌<◌, min, List, length, Result, MatchResult}
use Rattle.std.specs.Prelude.{zero, suc}

-- one more, up to the greatest count
abbrev pub saturating_increment : ℕ → ℕ
saturating_increment n = min (n + 1) (2 ^ 64 - 1)

-- a read that answers an error counts
abbrev pub CountsFailedRead : {E : Type 0} → ℕ → ℕ → Result ℕ E → Type 0
CountsFailedRead old new result = MatchResult result (λ n. new ≡ old)
    (λ e. new ≡ saturating_increment old)

-- a write that took none of some bytes counts
abbrev pub CountsWriteZero : ℕ → ℕ → ℕ → ℕ → Type 0
CountsWriteZero old new len zero = (len ≡ 0 → new ≡ old)
    × (0 < len → new ≡ saturating_increment old)
CountsWriteZero old new len (suc n) = new ≡ old

-- a write that answers an error counts, too
abbrev pub CountsFailedWrite : {E : Type 0} → ℕ → ℕ → List ℕ → Result ℕ E → Type 0
CountsFailedWrite old new bytes result =
    MatchResult result (CountsWriteZero old new (length bytes))
    (λ e. new ≡ saturating_increment old)
