-- What a new file holds.
use Rattle.std.proofs.Common.{◌≡◌, ℕ, List, [], Option, Some, None, ap, subst}
use Rattle.std.specs.Io.KnownBytes.{Appends}

held-by : (bytes : List ℕ) (after : Option (List ℕ)) → Appends (Some []) after bytes →
    after ≡ Some bytes
held-by bytes None wrote = absurd wrote
held-by bytes (Some held) wrote = ap (λ (b : List ℕ). Some b) wrote

-- what was written to it, where it was empty
pub filled : (before after : Option (List ℕ)) (bytes : List ℕ) → before ≡ Some [] →
    Appends before after bytes → after ≡ Some bytes
filled before after bytes empty wrote =
    held-by bytes after (subst (λ (b : Option (List ℕ)). Appends b after bytes) empty wrote)
