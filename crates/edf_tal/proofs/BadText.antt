-- The first text that is not UTF-8 begins at one offset.
use Rattle.std.proofs.Common.{◌≡◌, ℕ, ◌+◌, List, [], ◌∷◌, ◌++◌, length, arith, refl, sym, ap, ◌∙◌}
use Rattle.std.proofs.Common.{subst, append_assoc, ℤ, Option}
use Rattle.std.specs.Prelude.{IsUtf8}
use Rattle.std.specs.List.{AllByRecursion}
use Rattle.std.proofs.lemmas.List.{length-append}
use Rattle.edf_tal.specs.Tal.{Tal, IsTal, IsOnset, IsDurationPart, IsText, terminated, AreTals}
use Rattle.edf_tal.specs.Tal.{AreTalsAndZeros, HaveUtf8Texts}
use Rattle.edf_tal.specs.Condition.{HasNonUtf8TextAt}
use Rattle.edf_tal.specs.Inside.Scan.{Lacks, AreZeros}
use Rattle.edf_tal.proofs.Unique.{same-sides, Lacks-append, Lacks-onset, Lacks-duration, Lacks-text}
use Rattle.edf_tal.proofs.Fronts.{same-front, HasEnd-tal}
use Rattle.edf_tal.proofs.OneBlock.{no-onset, zeros-no-tal, tal-sides}

-- the first text that is no UTF-8, in the TAL at the front
pub record IsBadFront (bytes : List ℕ) (at : ℕ) : Type 0 where
  pub onset : List ℕ
  pub duration : List ℕ
  pub good : List (List ℕ)
  pub text : List ℕ
  pub suffix : List ℕ
  pub parts : bytes ≡ (onset ++ duration) ++ 20 ∷ (terminated good ++ (text ++ 20 ∷ suffix))
  pub is_onset : (z : ℤ) × IsOnset onset z
  pub is_duration : (d : Option ℕ) × IsDurationPart duration d
  pub good_texts : AllByRecursion (λ x. IsText x × IsUtf8 x) good
  pub is_text : IsText text
  pub bad : ¬ IsUtf8 text
  pub at_is : at ≡ length onset + length duration + 1 + length (terminated good)

-- after good TALs
pub record BadParts (bytes : List ℕ) (at : ℕ) : Type 0 where
  pub prefix : List ℕ
  pub rest : List ℕ
  pub tals : List Tal
  pub inner : ℕ
  pub parts : bytes ≡ prefix ++ rest
  pub whole : AreTals prefix tals
  pub good : HaveUtf8Texts tals
  pub bad : IsBadFront rest inner
  pub at_is : at ≡ length prefix + inner

pub bad-split : (bytes : List ℕ) (at : ℕ) → HasNonUtf8TextAt bytes at → BadParts bytes at
bad-split bytes at b = record {
  prefix = b.prefix;
  rest = (b.onset ++ b.duration) ++ 20 ∷ (terminated b.good ++ (b.text ++ 20 ∷ b.suffix));
  tals = b.tals;
  inner = length b.onset + length b.duration + 1 + length (terminated b.good);
  parts = b.parts ∙ simp append_assoc;
  whole = b.whole;
  good = b.good_tals;
  bad = record {
    onset = b.onset;
    duration = b.duration;
    good = b.good;
    text = b.text;
    suffix = b.suffix;
    parts = refl;
    is_onset = b.is_onset;
    is_duration = b.is_duration;
    good_texts = b.good_texts;
    is_text = b.is_text;
    bad = b.bad;
    at_is = refl;
  };
  at_is = let e : at ≡ length b.prefix + length b.onset + length b.duration + 1 + length
      (terminated b.good) = b.at_is in omega arith;
}

pub bad-join : (bytes front rest : List ℕ) (tals : List Tal) (at inner : ℕ) → bytes ≡ front
    ++ rest → AreTals front tals → HaveUtf8Texts tals
    → IsBadFront rest inner → at ≡ length front + inner → HasNonUtf8TextAt bytes at
bad-join bytes front rest tals at inner e whole good b here = record {
  prefix = front;
  tals = tals;
  onset = b.onset;
  duration = b.duration;
  good = b.good;
  text = b.text;
  suffix = b.suffix;
  parts = e ∙ ap (λ (x : List ℕ). front ++ x) b.parts ∙ simp append_assoc;
  whole = whole;
  good_tals = good;
  is_onset = b.is_onset;
  is_duration = b.is_duration;
  good_texts = b.good_texts;
  is_text = b.is_text;
  bad = b.bad;
  at_is = let p : inner ≡ length b.onset + length b.duration + 1 + length (terminated b.good) =
      b.at_is in omega arith;
}

-- a text and its end do not begin with 0
no-zero : (text back rest : List ℕ) → IsText text → text ++ 20 ∷ back ≡ 0 ∷ rest → ⊥
no-zero [] back rest p e = let z : ◌≡◌ {A = ℕ} 20 0 = cc in absurd (omega arith)
no-zero (b ∷ text) back rest p e = p.0.0 (let z : b ≡ 0 = cc in z)

-- the first text and what is after it
pub first-text : (x : List ℕ) (xs : List (List ℕ)) (rest : List ℕ) → terminated (x ∷ xs) ++ rest ≡ x
    ++ 20 ∷ (terminated xs ++ rest)
first-text x xs rest = append_assoc (x ++ 20 ∷ []) (terminated xs) rest
    ∙ append_assoc x (20 ∷ []) (terminated xs ++ rest)

-- a text after good ones is one of the TAL's
among : (good xs : List (List ℕ)) (text back rest : List ℕ) →
    AllByRecursion (λ x. IsText x × IsUtf8 x) good → IsText text
    → AllByRecursion IsText xs → AllByRecursion IsUtf8 xs → terminated good
    ++ (text ++ 20 ∷ back) ≡ terminated xs ++ 0 ∷ rest → IsUtf8 text
among [] [] text back rest g p ts us e = absurd (no-zero text back rest p e)
among [] (x ∷ xs) text back rest g p ts us e =
    let s = same-sides 20 text x back (terminated xs ++ 0 ∷ rest) (Lacks-text text p)
    (Lacks-text x ts.0) (e ∙ first-text x xs (0 ∷ rest)) in
    rw (s.prefix) (us.0)
among (y ∷ good) [] text back rest g p ts us e =
    absurd (no-zero y (terminated good ++ (text ++ 20 ∷ back)) rest g.0.0
    (sym (first-text y good (text ++ 20 ∷ back)) ∙ e))
among (y ∷ good) (x ∷ xs) text back rest g p ts us e =
    let s = same-sides 20 y x (terminated good ++ (text ++ 20 ∷ back)) (terminated xs
    ++ 0 ∷ rest) (Lacks-text y g.0.0) (Lacks-text x ts.0)
    (sym (first-text y good (text ++ 20 ∷ back)) ∙ e ∙ first-text x xs (0 ∷ rest)) in
    among good xs text back rest g.1 p ts.1 us.1 s.suffix

Lacks-head : (o d : List ℕ) → ((z : ℤ) × IsOnset o z) → ((k : Option ℕ) × IsDurationPart d k) →
    Lacks 20 (o ++ d)
Lacks-head o d (z, p) (k, q) = Lacks-append 20 o d (Lacks-onset 20 o z (omega arith) p)
    (Lacks-duration d k q)

-- a good TAL has no bad text
pub good-front : (bytes front rest : List ℕ) (t : Tal) (at : ℕ) → bytes ≡ front ++ rest →
    IsTal front t → AllByRecursion IsUtf8 t.texts → IsBadFront bytes at → ⊥
good-front bytes front rest t at e s good b =
    let sides = same-sides 20 (b.onset ++ b.duration) (s.onset ++ s.duration) (terminated b.good
    ++ (b.text ++ 20 ∷ b.suffix)) (terminated t.texts ++ 0 ∷ rest)
    (Lacks-head b.onset b.duration b.is_onset b.is_duration)
    (Lacks-head s.onset s.duration (t.onset, s.is_onset) (t.duration, s.is_duration))
    (sym b.parts ∙ e ∙ tal-sides front rest t s) in
    b.bad (among b.good t.texts b.text b.suffix rest b.good_texts b.is_text s.are_texts good
    sides.suffix)

zeros-front : (zeros : List ℕ) (at : ℕ) → AreZeros zeros → IsBadFront zeros at → ⊥
zeros-front zeros at a b =
    no-onset b.onset (b.duration ++ 20 ∷ (terminated b.good ++ (b.text ++ 20 ∷ b.suffix))) zeros
    b.is_onset.0 a b.is_onset.1 (b.parts ∙ append_assoc b.onset b.duration
    (20 ∷ (terminated b.good ++ (b.text ++ 20 ∷ b.suffix))))

regroup : (f r x f' r' x' front front' : List ℕ) → front ≡ f ++ r → front' ≡ f' ++ r' → front
    ++ x ≡ front' ++ x' → f ++ (r ++ x) ≡ f' ++ (r' ++ x')
regroup f r x f' r' x' front front' p q e =
    sym (append_assoc f r x) ∙ ap (λ (w : List ℕ). w ++ x) (sym p) ∙ e
    ∙ ap (λ (w : List ℕ). w ++ x') q ∙ append_assoc f' r' x'

-- good TALs and zeros have no bad text
no-bad : (us ts : List Tal) (front rest front' zeros : List ℕ) (at : ℕ) → AreTals front us →
    AreTals front' ts → HaveUtf8Texts ts → AreZeros zeros
    → IsBadFront rest at → front ++ rest ≡ front' ++ zeros → ⊥
no-bad [] [] front rest front' zeros at p q good a b e =
    zeros-front zeros at a (subst (λ (x : List ℕ). IsBadFront x at)
    (sym (ap (λ (x : List ℕ). x ++ rest) p) ∙ e ∙ ap (λ (x : List ℕ). x ++ zeros) q) b)
no-bad [] (t ∷ ts) front rest front' zeros at p (f, r, parts, is, more) good a b e =
    good-front rest f (r ++ zeros) t at (sym (ap (λ (x : List ℕ). x ++ rest) p) ∙ e
    ∙ ap (λ (x : List ℕ). x ++ zeros) parts ∙ append_assoc f r zeros) is good.0 b
no-bad (u ∷ us) [] front rest front' zeros at (f, r, parts, is, more) q good a b e =
    zeros-no-tal zeros a f (r ++ rest) u (sym (ap (λ (x : List ℕ). x ++ zeros) q) ∙ sym e
    ∙ ap (λ (x : List ℕ). x ++ rest) parts ∙ append_assoc f r rest) is
no-bad (u ∷ us) (t ∷ ts) front rest front' zeros at (f, r, parts, is, more) (
  f',
  r',
  parts',
  is',
  more',
) good a b e =
    let s = same-front f f' (r ++ rest) (r' ++ zeros) (HasEnd-tal f u is) (HasEnd-tal f' t is')
    (regroup f r rest f' r' zeros front front' parts parts' e) in
    no-bad us ts r rest r' zeros at more more' good.1 a b s.suffix

pub good-block : (bytes : List ℕ) (ts : List Tal) (at : ℕ) → AreTalsAndZeros bytes ts →
    HaveUtf8Texts ts → HasNonUtf8TextAt bytes at → ⊥
good-block bytes ts at (front, zeros, parts, tals, are) good b =
    let s = bad-split bytes at b in
    no-bad s.tals ts s.prefix s.rest front zeros s.inner s.whole tals good are s.bad (sym s.parts
    ∙ parts)

-- the good texts before the first bad one
same-good : (good more : List (List ℕ)) (x y back rest : List ℕ) →
    AllByRecursion (λ x. IsText x × IsUtf8 x) good → AllByRecursion (λ x. IsText x × IsUtf8 x) more
    → IsText x → IsText y → ¬ IsUtf8 x → ¬ IsUtf8 y →
    terminated good ++ (x ++ 20 ∷ back) ≡ terminated more ++ (y ++ 20 ∷ rest) → good ≡ more
same-good [] [] x y back rest g m p q b c e = refl
same-good [] (m ∷ ms) x y back rest g a p q b c e =
    let s = same-sides 20 x m back (terminated ms ++ (y ++ 20 ∷ rest)) (Lacks-text x p)
    (Lacks-text m a.0.0) (e ∙ first-text m ms (y ++ 20 ∷ rest)) in
    absurd (b (rw (s.prefix) (a.0.1)))
same-good (g ∷ gs) [] x y back rest a m p q b c e =
    let s = same-sides 20 g y (terminated gs ++ (x ++ 20 ∷ back)) rest (Lacks-text g a.0.0)
    (Lacks-text y q) (sym (first-text g gs (x ++ 20 ∷ back)) ∙ e) in
    absurd (c (rw (← s.prefix) (a.0.1)))
same-good (g ∷ gs) (m ∷ ms) x y back rest a d p q b c e =
    let s = same-sides 20 g m (terminated gs ++ (x ++ 20 ∷ back)) (terminated ms
    ++ (y ++ 20 ∷ rest)) (Lacks-text g a.0.0) (Lacks-text m d.0.0)
    (sym (first-text g gs (x ++ 20 ∷ back)) ∙ e ∙ first-text m ms (y ++ 20 ∷ rest)) in
    let first : g ≡ m = s.prefix in
    let next : gs ≡ ms = same-good gs ms x y back rest a.1 d.1 p q b c s.suffix in
    cc

one-front : (bytes : List ℕ) (j k : ℕ) → IsBadFront bytes j → IsBadFront bytes k → j ≡ k
one-front bytes j k b c =
    let s = same-sides 20 (b.onset ++ b.duration) (c.onset ++ c.duration) (terminated b.good
    ++ (b.text ++ 20 ∷ b.suffix)) (terminated c.good ++ (c.text ++ 20 ∷ c.suffix))
    (Lacks-head b.onset b.duration b.is_onset b.is_duration)
    (Lacks-head c.onset c.duration c.is_onset c.is_duration) (sym b.parts ∙ c.parts) in
    let g = same-good b.good c.good b.text c.text b.suffix c.suffix b.good_texts c.good_texts
    b.is_text c.is_text b.bad c.bad s.suffix in
    let heads : length b.onset + length b.duration ≡ length c.onset + length c.duration =
    sym (length-append b.onset b.duration) ∙ ap length s.prefix
    ∙ length-append c.onset c.duration in
    let goods : length (terminated b.good) ≡ length (terminated c.good) =
    ap (λ (x : List (List ℕ)). length (terminated x)) g in
    let p : j ≡ length b.onset + length b.duration + 1 + length (terminated b.good) = b.at_is in
    let q : k ≡ length c.onset + length c.duration + 1 + length (terminated c.good) = c.at_is in
    omega arith

one-bad : (ts us : List Tal) (front rest front' rest' : List ℕ) (j k : ℕ) → AreTals front ts →
    AreTals front' us → HaveUtf8Texts ts → HaveUtf8Texts us
    → IsBadFront rest j → IsBadFront rest' k → front ++ rest ≡ front' ++ rest' →
    length front + j ≡ length front' + k
one-bad [] [] front rest front' rest' j k p q g h b c e =
    let same : rest ≡ rest' = sym (ap (λ (x : List ℕ). x ++ rest) p) ∙ e
    ∙ ap (λ (x : List ℕ). x ++ rest') q in
    let at : j ≡ k = one-front rest j k b (rw same c) in
    rw (p, q, at) refl
one-bad [] (u ∷ us) front rest front' rest' j k p (f, r, parts, is, more) g h b c e =
    absurd (good-front rest f (r ++ rest') u j (sym (ap (λ (x : List ℕ). x ++ rest) p) ∙ e
    ∙ ap (λ (x : List ℕ). x ++ rest') parts ∙ append_assoc f r rest') is h.0 b)
one-bad (t ∷ ts) [] front rest front' rest' j k (f, r, parts, is, more) q g h b c e =
    absurd (good-front rest' f (r ++ rest) t k (sym (ap (λ (x : List ℕ). x ++ rest') q) ∙ sym e
    ∙ ap (λ (x : List ℕ). x ++ rest) parts ∙ append_assoc f r rest) is g.0 c)
one-bad (t ∷ ts) (u ∷ us) front rest front' rest' j k (f, r, parts, is, more) (
  f',
  r',
  parts',
  is',
  more',
) g h b c e =
    let s = same-front f f' (r ++ rest) (r' ++ rest') (HasEnd-tal f t is) (HasEnd-tal f' u is')
    (regroup f r rest f' r' rest' front front' parts parts' e) in
    let next = one-bad ts us r rest r' rest' j k more more' g.1 h.1 b c s.suffix in
    rw (parts, parts') (omega (
      arith,
      next,
      length-append f r,
      length-append f' r',
      ap length s.prefix,
    ))

pub one-bad-text : (bytes : List ℕ) (j k : ℕ) → HasNonUtf8TextAt bytes j →
    HasNonUtf8TextAt bytes k → j ≡ k
one-bad-text bytes j k b c =
    let p = bad-split bytes j b in
    let q = bad-split bytes k c in
    let same = one-bad p.tals q.tals p.prefix p.rest q.prefix q.rest p.inner q.inner p.whole q.whole
    p.good q.good p.bad q.bad (sym p.parts ∙ q.parts) in
    let left : j ≡ length p.prefix + p.inner = p.at_is in
    let right : k ≡ length q.prefix + q.inner = q.at_is in
    omega (arith, same)
