-- Laws of keys.
use Rattle.std.proofs.Common.{◌≡◌, ℕ, ◌≤◌, ◌<◌, ◌∙◌, sym, ap, subst, arith}
use Rattle.edf_field.specs.Number.{duration_of}
use Rattle.edf_field.specs.declared.number.TheConstants.{MOST_DURATION}
use Rattle.edf_field.proofs.Cited.{duration-value, duration-bound, lasts-some}
use Rattle.edf_header.specs.Key.{Key, IsKey, key_at, key_bytes}
use Rattle.edf_header.proofs.Keys.{key-back}

pub one-key : (k other : Key) → IsKey k → IsKey other → key_bytes k ≡ key_bytes other → k ≡ other
one-key k other p q same = sym (key-back k p.sized) ∙ ap key_at same ∙ key-back other q.sized

pub key-duration-some : (k : Key) → IsKey k → 0 < duration_of k.duration
key-duration-some k i = subst (λ (n : ℕ). 0 < n)
    (duration-value k.duration i.duration.0 i.duration.1)
    (lasts-some i.duration.0 i.duration.1.in_range)

pub key-duration-bound : (k : Key) → IsKey k → duration_of k.duration ≤ MOST_DURATION
key-duration-bound k i =
    subst (λ (n : ℕ). n ≤ MOST_DURATION) (duration-value k.duration i.duration.0 i.duration.1)
    (duration-bound k.duration i.duration.0 (omega (arith, i.sized.duration)) i.duration.1)
