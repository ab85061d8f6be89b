-- The measure of data records with the starts and annotations of others, and with other samples.
use Rattle.std.proofs.Common.{◌≡◌, ℕ, suc, ◌+◌, ◌*◌, ◌≤◌, List, [], ◌∷◌, length, refl, sym, ap, ◌∙◌}
use Rattle.std.proofs.Common.{subst}
use Rattle.std.specs.Prelude.{Bool, true, false, cond, nat_lt, max, min}
use Rattle.std.specs.List.{AllZip}
use Rattle.std.proofs.lemmas.List.Elements.{All-cons, All-head, All-tail}
use Rattle.edf_tal.specs.Canonical.{tals_text}
use Rattle.edf_fragment.specs.Fragment.{DataRecord}
use Rattle.edf_canonical.specs.File.{second_of, block_of, BlocksFit}
use Rattle.edf_canonical.specs.Measure.{IsMeasured}
use Rattle.edf_canonical.specs.declared.measure.Measure.{Measure}
use Rattle.edf_runs.specs.Cut.{between}
use Rattle.edf_runs.proofs.Noted.{Noted}

abbrev AreNoted : List DataRecord → List DataRecord → Type 0
AreNoted xs rs = AllZip (λ (x r : DataRecord). Noted x r) xs rs

-- ---- those of a time

pick : (b : Bool) (x r : DataRecord) (xs rs : List DataRecord) → Noted x r → AreNoted xs rs →
    AreNoted (cond b (x ∷ xs) xs) (cond b (r ∷ rs) rs)
pick true x r xs rs one more = (one, more)
pick false x r xs rs one more = more

pub between-noted : (d from to : ℕ) (xs rs : List DataRecord) → AreNoted xs rs →
    AreNoted (between d from to xs) (between d from to rs)
between-noted d from to [] [] noted = tt
between-noted d from to [] (r ∷ rs) noted = absurd noted
between-noted d from to (x ∷ xs) [] noted = absurd noted
between-noted d from to (x ∷ xs) (r ∷ rs) noted =
    let fore = between d from to xs in
    let back = between d from to rs in
    let test : ℕ → Bool = λ n. nat_lt (max from n) (min to (n + d)) in
    subst (λ (n : ℕ). AreNoted (cond (test n) (x ∷ fore) fore)
    (cond (test r.start) (r ∷ back) back)) (sym noted.0.0)
    (pick (test r.start) x r fore back noted.0 (between-noted d from to xs rs noted.1))

-- ---- samples are not measured

same-block : (base : ℕ) (x r : DataRecord) → Noted x r → block_of base x ≡ block_of base r
same-block base x r noted = ap (λ (n : ℕ). tals_text base n x.annotations) noted.0
    ∙ ap (tals_text base r.start) noted.1

noted-back : (xs rs : List DataRecord) → AreNoted xs rs → AreNoted rs xs
noted-back [] [] noted = tt
noted-back [] (r ∷ rs) noted = absurd noted
noted-back (x ∷ xs) [] noted = absurd noted
noted-back (x ∷ xs) (r ∷ rs) noted =
    ((sym noted.0.0, sym noted.0.1), noted-back xs rs noted.1)

noted-length : (xs rs : List DataRecord) → AreNoted xs rs → length xs ≡ length rs
noted-length [] [] noted = refl
noted-length [] (r ∷ rs) noted = absurd noted
noted-length (x ∷ xs) [] noted = absurd noted
noted-length (x ∷ xs) (r ∷ rs) noted = ap suc (noted-length xs rs noted.1)

fits-noted : (base n : ℕ) (xs rs : List DataRecord) → AreNoted xs rs → BlocksFit base n xs →
    BlocksFit base n rs
fits-noted base n [] [] noted fits = fits
fits-noted base n [] (r ∷ rs) noted fits = absurd noted
fits-noted base n (x ∷ xs) [] noted fits = absurd noted
fits-noted base n (x ∷ xs) (r ∷ rs) noted fits =
    let fit : DataRecord → Type 0 = λ y. length (block_of base y) ≤ 2 * n in
    All-cons fit r rs
    (subst (λ (b : List ℕ). length b ≤ 2 * n) (same-block base x r noted.0)
    (All-head fit x xs fits))
    (fits-noted base n xs rs noted.1 (All-tail fit x xs fits))

first-start : List DataRecord → ℕ
first-start [] = 0
first-start (r ∷ rs) = r.start

pub measured-noted : (xs rs : List DataRecord) (m : Measure) → AreNoted xs rs → IsMeasured xs m →
    IsMeasured rs m
unfolding first-start
measured-noted [] [] m noted is = is
measured-noted [] (r ∷ rs) m noted is = absurd noted
measured-noted (x ∷ xs) [] m noted is = absurd noted
measured-noted (x ∷ xs) (r ∷ rs) m noted is = record {
  first = r;
  others = rs;
  parts = refl;
  start = is.start ∙ sym (ap first-start is.parts) ∙ noted.0.0;
  count = is.count ∙ noted-length (x ∷ xs) (r ∷ rs) noted;
  holds = fits-noted (second_of m.first) m.block_samples (x ∷ xs) (r ∷ rs) noted is.holds;
  least = λ fewer fit. is.least fewer (fits-noted (second_of m.first) fewer (r ∷ rs) (x ∷ xs)
      (noted-back (x ∷ xs) (r ∷ rs) noted) fit);
}
