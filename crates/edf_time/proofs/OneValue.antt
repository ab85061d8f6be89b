-- A decimal has one value, and a text one fault.
use Rattle.std.proofs.Common.{◌≡◌, ◌≢◌, ℕ, suc, ◌+◌, ◌^◌, ◌<◌, List, [], ◌∷◌, ◌++◌, length, get_or}
use Rattle.std.proofs.Common.{arith, refl, sym, ap, ◌∙◌, subst}
use Rattle.std.specs.List.{AllByRecursion}
use Rattle.std.specs.Str.Parse.{AllDigits}
use Rattle.std.proofs.lemmas.List.{length-append}
use Rattle.std.proofs.Math.ListN.{get_or-append}
use Rattle.edf_time.specs.Decimal.{IsDecimal, IsFine, IsSeconds, IsDecimalFault, IsDecimalByte}
use Rattle.edf_time.specs.declared.decimal.DecimalFault.{DecimalFault}
use Rattle.edf_time.specs.declared.decimal.DecimalFault.TheVariants.{Syntax, TooFine, TooLarge}
use Rattle.edf_time.proofs.Digits.{byte-at, digit_only}
use Rattle.edf_time.proofs.Parts.{IsFirstDot, parts-are, middle}

no-dot-before : (w : List ℕ) (k : ℕ) → AllDigits 10 w → k < length w → get_or w k 0 ≢ 46
no-dot-before w k digits lt e = absurd (omega (arith, (byte-at w k digits lt).0))

-- the whole digits end at the first dot
first-dot : (text w f : List ℕ) → IsDecimal text w f → IsFirstDot text (length w)
first-dot text w [] d =
    let len : length text ≡ length w = ap length d.1 in
    record {
      within = omega arith;
      before = λ k lt. rw (d.1) (no-dot-before w k d.0.1 lt);
      found = λ lt. absurd (omega arith);
    }
first-dot text w (c ∷ f) d =
    let len : length text ≡ length w + suc (length (c ∷ f)) = ap length d.2
    ∙ length-append w (46 ∷ c ∷ f) in
    record {
      within = omega arith;
      before = λ k lt e. no-dot-before w k d.0.1 lt (sym (get_or-append w (46 ∷ c ∷ f) 0 k lt)
          ∙ sym (ap (λ (t : List ℕ). get_or t k 0) d.2) ∙ e);
      found = λ lt. ap (λ (t : List ℕ). get_or t (length w) 0) d.2 ∙ middle w (c ∷ f);
    }

-- the digits before the dot and after it
pub record SameParts (w f v g : List ℕ) : Type 0 where
  pub whole : w ≡ v
  pub fraction : f ≡ g

pub same-parts : (text w f v g : List ℕ) → IsDecimal text w f → IsDecimal text v g →
    SameParts w f v g
same-parts text w f v g p q =
    let a = parts-are text w f (length w) (first-dot text w f p) p in
    let b = parts-are text v g (length w) (first-dot text w f p) q in
    record { whole = a.whole ∙ sym b.whole; fraction = a.fraction ∙ sym b.fraction }

pub one-value : (text : List ℕ) (m n : ℕ) → IsSeconds text m → IsSeconds text n → m ≡ n
one-value text m n p q =
    let s = same-parts text p.whole p.fraction q.whole q.fraction p.parts q.parts in
    p.value ∙ rw (s.whole, s.fraction) (sym q.value)

-- a decimal is not too fine
fine-alone : (text w f : List ℕ) (n : ℕ) → IsSeconds text n → IsDecimal text w f → IsFine f
fine-alone text w f n s d =
    let p = same-parts text s.whole s.fraction w f s.parts d in
    subst (λ (x : List ℕ). IsFine x) p.fraction s.fine

-- a decimal that is read has no fault
pub no-fault : (text : List ℕ) (n : ℕ) (fault : DecimalFault) → IsSeconds text n → n < 2 ^ 63 →
    ¬ IsDecimalFault text fault
no-fault text n Syntax s lt p = p s.whole s.fraction s.parts
no-fault text n TooFine s lt (w, f, d, coarse) = coarse (fine-alone text w f n s d)
no-fault text n TooLarge s lt (m, t, large) = absurd (omega (arith, one-value text m n t s))

pub one-fault : (text : List ℕ) (a b : DecimalFault) → IsDecimalFault text a →
    IsDecimalFault text b → a ≡ b
one-fault text Syntax Syntax p q = refl
one-fault text Syntax TooFine p (w, f, d, coarse) = absurd (p w f d)
one-fault text Syntax TooLarge p (n, s, large) = absurd (p s.whole s.fraction s.parts)
one-fault text TooFine Syntax (w, f, d, coarse) q = absurd (q w f d)
one-fault text TooFine TooFine p q = refl
one-fault text TooFine TooLarge (w, f, d, coarse) (n, s, large) =
    absurd (coarse (fine-alone text w f n s d))
one-fault text TooLarge Syntax (n, s, large) q = absurd (q s.whole s.fraction s.parts)
one-fault text TooLarge TooFine (n, s, large) (w, f, d, coarse) =
    absurd (coarse (fine-alone text w f n s d))
one-fault text TooLarge TooLarge p q = refl

-- each byte is a digit or the dot
abbrev pub AreDecimalBytes : List ℕ → Type 0
AreDecimalBytes text = AllByRecursion IsDecimalByte text

bytes-of-digits : (ds : List ℕ) → AllDigits 10 ds → AreDecimalBytes ds
bytes-of-digits [] p = tt
bytes-of-digits (d ∷ ds) p = let b = digit_only d p.0 in
    ((omega (arith, b), b.1, λ e. absurd (omega (arith, b))), bytes-of-digits ds p.1)

bytes-append : (a b : List ℕ) → AreDecimalBytes a → AreDecimalBytes b → AreDecimalBytes (a ++ b)
bytes-append [] b p q = q
bytes-append (x ∷ a) b p q = (p.0, bytes-append a b p.1 q)

bytes-of-decimal : (text w f : List ℕ) → IsDecimal text w f → AreDecimalBytes text
bytes-of-decimal text w [] d = rw (d.1) (bytes-of-digits w d.0.1)
bytes-of-decimal text w (c ∷ f) d =
    rw (d.2) (bytes-append w (46 ∷ c ∷ f) (bytes-of-digits w d.0.1)
    ((omega arith, omega arith, λ e. absurd (omega arith)), bytes-of-digits (c ∷ f) d.1.1))

pub bytes-of-seconds : (text : List ℕ) (n : ℕ) → IsSeconds text n → AreDecimalBytes text
bytes-of-seconds text n s = bytes-of-decimal text s.whole s.fraction s.parts
