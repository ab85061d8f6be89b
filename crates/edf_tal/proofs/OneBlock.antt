-- Blocks are TALs and zeros in one way.
use Rattle.std.proofs.Common.{◌≡◌, ℕ, List, [], ◌∷◌, ◌++◌, arith, refl, sym, ap, ◌∙◌, append_assoc}
use Rattle.std.proofs.Common.{inl, inr, ℤ}
use Rattle.edf_tal.specs.Tal.{Tal, IsTal, IsOnset, terminated, AreTals, AreTalsAndZeros}
use Rattle.edf_tal.specs.Tal.{AreTalBlocks}
use Rattle.edf_tal.specs.Inside.Scan.{NoTal, AreZeros}
use Rattle.edf_tal.proofs.Unique.{one-tal}
use Rattle.edf_tal.proofs.Fronts.{same-front, HasEnd-tal}

-- zeros do not begin with an onset
pub no-onset : (o x zeros : List ℕ) (z : ℤ) → AreZeros zeros → IsOnset o z → zeros ≡ o ++ x → ⊥
no-onset [] x zeros z a p e = p
no-onset (b ∷ o) x [] z a p e = cc
no-onset (b ∷ o) x (c ∷ zeros) z a (inl (is, more)) e = let same : c ≡ b = cc in let low = a.0 in
    absurd (omega arith)
no-onset (b ∷ o) x (c ∷ zeros) z a (inr (is, more)) e = let same : c ≡ b = cc in let low = a.0 in
    absurd (omega arith)

-- a TAL around its first byte 20
pub tal-sides : (front rest : List ℕ) (t : Tal) (s : IsTal front t) → front
    ++ rest ≡ (s.onset ++ s.duration) ++ 20 ∷ (terminated t.texts ++ 0 ∷ rest)
tal-sides front rest t s = ap (λ (x : List ℕ). x ++ rest) s.parts ∙ simp append_assoc

-- nor with a TAL
pub zeros-no-tal : (zeros : List ℕ) → AreZeros zeros → NoTal zeros
zeros-no-tal zeros a front rest t e s =
    no-onset s.onset (s.duration ++ 20 ∷ (terminated t.texts ++ 0 ∷ rest)) zeros t.onset a
    s.is_onset (e ∙ tal-sides front rest t s
    ∙ append_assoc s.onset s.duration (20 ∷ (terminated t.texts ++ 0 ∷ rest)))

pub record SameTals (ts us : List Tal) (f x g y : List ℕ) : Type 0 where
  pub tals : ts ≡ us
  pub prefix : f ≡ g
  pub rest : x ≡ y

-- TALs up to where no TAL follows
pub same-tals : (ts us : List Tal) (front rest front' rest' : List ℕ) → AreTals front ts →
    AreTals front' us → NoTal rest → NoTal rest'
    → front ++ rest ≡ front' ++ rest' → SameTals ts us front rest front' rest'
same-tals [] [] front rest front' rest' p q none none' e =
    record {
      tals = refl;
      prefix = p ∙ sym q;
      rest = sym (ap (λ (x : List ℕ). x ++ rest) p) ∙ e
          ∙ ap (λ (x : List ℕ). x ++ rest') q;
    }
same-tals [] (u ∷ us) front rest front' rest' p (f, r, parts, is, more) none none' e =
    absurd (none f (r ++ rest') u (sym (ap (λ (x : List ℕ). x ++ rest) p) ∙ e
    ∙ ap (λ (x : List ℕ). x ++ rest') parts ∙ append_assoc f r rest') is)
same-tals (t ∷ ts) [] front rest front' rest' (f, r, parts, is, more) q none none' e =
    absurd (none' f (r ++ rest) t (sym (ap (λ (x : List ℕ). x ++ rest') q) ∙ sym e
    ∙ ap (λ (x : List ℕ). x ++ rest) parts ∙ append_assoc f r rest) is)
same-tals (t ∷ ts) (u ∷ us) front rest front' rest' (f, r, parts, is, more) (
  f',
  r',
  parts',
  is',
  more',
) none none' e =
    let both : f ++ (r ++ rest) ≡ f' ++ (r' ++ rest') = sym (append_assoc f r rest)
    ∙ ap (λ (x : List ℕ). x ++ rest) (sym parts) ∙ e ∙ ap (λ (x : List ℕ). x ++ rest') parts'
    ∙ append_assoc f' r' rest' in
    let s = same-front f f' (r ++ rest) (r' ++ rest') (HasEnd-tal f t is) (HasEnd-tal f' u is')
    both in
    let first : t ≡ u = one-tal f t u is (rw (s.prefix) is') in
    let next = same-tals ts us r rest r' rest' more more' none none' s.suffix in
    let tails : ts ≡ us = next.tals in
    let fronts : f ≡ f' = s.prefix in
    let rests : r ≡ r' = next.prefix in
    record { tals = cc; prefix = cc; rest = next.rest }

pub one-block : (b : List ℕ) (ts us : List Tal) → AreTalsAndZeros b ts → AreTalsAndZeros b us →
    ts ≡ us
one-block b ts us (front, zeros, parts, tals, are) (front', zeros', parts', tals', are') =
    (same-tals ts us front zeros front' zeros' tals tals' (zeros-no-tal zeros are)
    (zeros-no-tal zeros' are') (sym parts ∙ parts')).tals

pub one-lists : (bs : List (List ℕ)) (ts us : List (List Tal)) → AreTalBlocks bs ts →
    AreTalBlocks bs us → ts ≡ us
one-lists [] [] [] p q = refl
one-lists [] [] (u ∷ us) p q = absurd q
one-lists [] (t ∷ ts) us p q = absurd p
one-lists (b ∷ bs) [] us p q = absurd p
one-lists (b ∷ bs) (t ∷ ts) [] p q = absurd q
one-lists (b ∷ bs) (t ∷ ts) (u ∷ us) p q =
    let first : t ≡ u = one-block b t u p.0 q.0 in
    let more : ts ≡ us = one-lists bs ts us p.1 q.1 in
    cc
