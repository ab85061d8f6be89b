-- A block that is the time-keeping annotation alone.
use Rattle.std.proofs.Common.{◌≡◌, ℕ, zero, suc, ◌+◌, ◌-◌, ◌≤◌, List, [], ◌∷◌, ◌++◌, length, get_or}
use Rattle.std.proofs.Common.{take, drop, arith, refl, sym, ap, ◌∙◌, subst, append_assoc, inl, pos}
use Rattle.std.proofs.Common.{Option, Some, None}
use Rattle.std.specs.Prelude.{◌+ℤ◌, IfSome, MatchOption}
use Rattle.std.proofs.lemmas.List.{append-nil, take_all}
use Rattle.std.proofs.lemmas.Str.{IsUtf8-nil}
use Rattle.edf_time.specs.Decimal.{IsSeconds}
use Rattle.edf_time.specs.Civil.{IsInWindow}
use Rattle.edf_tal.specs.Tal.{instant}
use Rattle.edf_tal.specs.Block.{BlockParsesTo, split_by_sizes}
use Rattle.edf_tal.specs.Inside.Scan.{AreZeros, capped, StartsInFirstSecond, StartsInOrder}
use Rattle.edf_tal.specs.Inside.Blocks.{AreBlockSizes, IsTimeKeepingBlock, bare_tal}
use Rattle.edf_tal.specs.declared.place.Place.{Place}
use Rattle.edf_tal.proofs.Again.{in-parts, read-of}
use Rattle.edf_tal.proofs.Judge.{keeps-place}

two-last : (bytes : List ℕ) (n : ℕ) → length bytes ≡ n + 2 → get_or bytes n 0 ≡ 20 →
    get_or bytes (suc n) 0 ≡ 20 → bytes ≡ take n bytes ++ 20 ∷ 20 ∷ []
two-last [] n len p q = absurd (omega arith)
two-last (b ∷ []) n len p q = absurd (omega arith)
two-last (b ∷ c ∷ []) zero len p q = cc
two-last (b ∷ c ∷ d ∷ bytes) zero len p q = absurd (omega arith)
two-last (b ∷ c ∷ bytes) (suc n) len p q = ap (λ (w : List ℕ). b ∷ w)
    (two-last (c ∷ bytes) n (omega arith) p q)

-- a sign, what is between, and two bytes 20
pub bare-sides : (tal : List ℕ) → 3 ≤ length tal → get_or tal 0 0 ≡ 43 →
    get_or tal (length tal - 2) 0 ≡ 20 → get_or tal (length tal - 1) 0 ≡ 20
    → tal ≡ 43 ∷ (take (length tal - 2 - 1) (drop 1 tal) ++ 20 ∷ 20 ∷ [])
bare-sides [] some sign p q = absurd (omega arith)
bare-sides (b ∷ []) some sign p q = absurd (omega arith)
bare-sides (b ∷ c ∷ []) some sign p q = absurd (omega arith)
bare-sides (b ∷ c ∷ d ∷ tal) some sign p q =
    let i : length (b ∷ c ∷ d ∷ tal) - 2 ≡ suc (length tal) = omega arith in
    let j : length (b ∷ c ∷ d ∷ tal) - 1 ≡ suc (suc (length tal)) = omega arith in
    let n : length (b ∷ c ∷ d ∷ tal) - 2 - 1 ≡ length tal = omega arith in
    let rest = two-last (c ∷ d ∷ tal) (length tal) (omega arith)
    (subst (λ (k : ℕ). get_or (b ∷ c ∷ d ∷ tal) k 0 ≡ 20) i p)
    (subst (λ (k : ℕ). get_or (b ∷ c ∷ d ∷ tal) k 0 ≡ 20) j q) in
    ap (λ (w : ℕ). w ∷ c ∷ d ∷ tal) sign ∙ ap (λ (w : List ℕ). 43 ∷ w) rest
    ∙ ap (λ (k : ℕ). 43 ∷ (take k (c ∷ d ∷ tal) ++ 20 ∷ 20 ∷ [])) (sym n)

keeps-time : (block tal zeros onset : List ℕ) (n : ℕ) → block ≡ tal ++ 0 ∷ zeros →
    tal ≡ 43 ∷ (onset ++ 20 ∷ 20 ∷ []) → IsSeconds onset n → AreZeros zeros →
    IsTimeKeepingBlock block n
keeps-time block tal zeros onset n parts sides seconds are =
    let front : List ℕ = 43 ∷ (onset ++ 20 ∷ 20 ∷ 0 ∷ []) in (
      front,
      zeros,
      parts ∙ ap (λ (w : List ℕ). w ++ 0 ∷ zeros) sides ∙ simp append_assoc,
      (
        front,
        [],
        sym (append-nil front),
        record {
          onset = 43 ∷ onset;
          duration = [];
          parts = in-parts (43 ∷ onset) [] [];
          is_onset = inl (refl, (n, seconds, refl));
          is_duration = refl;
          are_texts = (tt, tt);
        },
        refl,
      ),
      are,
    )

pub bare-told : (block tal zeros onset : List ℕ) (told : Option ℕ) → block ≡ tal ++ 0 ∷ zeros →
    tal ≡ 43 ∷ (onset ++ 20 ∷ 20 ∷ []) → AreZeros zeros → MatchOption told ((n : ℕ) → ¬ IsSeconds
    onset n) (λ nanos. (n : ℕ) × IsSeconds onset n × (nanos ≡ capped n)) → IfSome told (λ nanos. (n
    : ℕ) × (nanos ≡ capped n) × IsTimeKeepingBlock block n)
bare-told block tal zeros onset None parts sides are h = tt
bare-told block tal zeros onset (Some nanos) parts sides are (n, seconds, is) =
    (n, is, keeps-time block tal zeros onset n parts sides seconds are)

pub bare-read : (block : List ℕ) (s : ℕ) (p : Place) (n start : ℕ) → IsTimeKeepingBlock block n →
    StartsInFirstSecond p (pos n) → IsInWindow (pos s +ℤ pos n) → start ≡ instant s (pos n)
    → StartsInOrder p start → BlockParsesTo block s p start []
bare-read block s p n start whole second in-window start-is order =
    read-of block s p start [] (bare_tal n ∷ []) whole ((IsUtf8-nil, tt), tt) ([], refl)
    (keeps-place p s (bare_tal n) [] second (subst (StartsInOrder p) start-is order))
    (record { onset = in-window; duration = tt }, tt)
    (record { count = omega arith; bytes = omega arith }) start-is refl

pub cut-one : (sizes block : List ℕ) → AreBlockSizes sizes block → length sizes ≡ 1 →
    split_by_sizes sizes block ≡ block ∷ []
cut-one [] block sizes one = absurd (omega arith)
cut-one (n ∷ []) block sizes one = ap (λ (w : List ℕ). w ∷ [])
    (take_all n block (omega (arith, sizes.sum_is)))
cut-one (n ∷ m ∷ more) block sizes one = absurd (omega arith)
