-- A TAL ends with its first byte 0, so bytes begin with one TAL at most.
use Rattle.std.proofs.Common.{◌≡◌, ℕ, ◌≤◌, List, [], ◌∷◌, ◌++◌, length, arith, refl, sym, ap, ◌∙◌}
use Rattle.std.proofs.Common.{append_assoc, Option, Some, None}
use Rattle.std.specs.List.{AllByRecursion}
use Rattle.std.proofs.lemmas.List.{length-append, append-nil}
use Rattle.edf_tal.specs.Tal.{Tal, IsTal, IsDurationPart, IsText, terminated, AreTals}
use Rattle.edf_tal.specs.Inside.Scan.{Lacks, NoTal}
use Rattle.edf_tal.proofs.Unique.{SameSides, same-sides, Lacks-append, Lacks-onset, Lacks-seconds}

NoZero-duration : (bytes : List ℕ) (d : Option ℕ) → IsDurationPart bytes d → Lacks 0 bytes
NoZero-duration bytes None e = rw e tt
NoZero-duration bytes (Some n) (text, e, s) =
    rw e ((λ zero-is. absurd (omega arith)), Lacks-seconds 0 text n (omega arith) s)

NoZero-text : (text : List ℕ) → IsText text → Lacks 0 text
NoZero-text [] p = tt
NoZero-text (b ∷ text) p = (p.0.0, NoZero-text text p.1)

pub NoZero-ended : (texts : List (List ℕ)) → AllByRecursion IsText texts →
    Lacks 0 (terminated texts)
NoZero-ended [] p = tt
NoZero-ended (text ∷ texts) p =
    Lacks-append 0 (text ++ 20 ∷ []) (terminated texts) (Lacks-append 0 text (20 ∷ []) (NoZero-text
    text p.0) ((λ e. absurd (omega arith)), tt)) (NoZero-ended texts p.1)

-- what a TAL has before its last byte
pub record HasEnd (bytes : List ℕ) : Type 0 where
  pub body : List ℕ
  pub parts : bytes ≡ body ++ 0 ∷ []
  pub no_zero : Lacks 0 body

pub NoZero-tal : (bytes : List ℕ) (t : Tal) (s : IsTal bytes t) →
    Lacks 0 ((s.onset ++ s.duration) ++ 20 ∷ terminated t.texts)
NoZero-tal bytes t s =
    Lacks-append 0 (s.onset ++ s.duration) (20 ∷ terminated t.texts) (Lacks-append 0 s.onset
    s.duration (Lacks-onset 0 s.onset t.onset (omega arith) s.is_onset) (NoZero-duration s.duration
    t.duration s.is_duration)) ((λ e. absurd (omega arith)), NoZero-ended t.texts s.are_texts)

pub HasEnd-tal : (bytes : List ℕ) (t : Tal) → IsTal bytes t → HasEnd bytes
HasEnd-tal bytes t s = record {
  body = s.onset ++ s.duration ++ 20 ∷ terminated t.texts;
  parts = s.parts;
  no_zero = NoZero-tal bytes t s;
}

-- of two TALs at the front of the same bytes, one is the other
pub same-front : (a b x y : List ℕ) → HasEnd a → HasEnd b → a ++ x ≡ b ++ y → SameSides a b x y
same-front a b x y p q e =
    let left : a ++ x ≡ p.body ++ 0 ∷ x = rw (p.parts) (append_assoc p.body (0 ∷ []) x) in
    let right : b ++ y ≡ q.body ++ 0 ∷ y = rw (q.parts) (append_assoc q.body (0 ∷ []) y) in
    let s = same-sides 0 p.body q.body x y p.no_zero q.no_zero (sym left ∙ e ∙ right) in
    record {
      prefix = p.parts ∙ ap (λ (g : List ℕ). g ++ 0 ∷ []) s.prefix ∙ sym q.parts;
      suffix =
          s.suffix;
    }

-- TALs that no TAL follows are the longest
pub longest : (ts others : List Tal) (front rest front' rest' : List ℕ) → AreTals front ts →
    NoTal rest
    → AreTals front' others → front ++ rest ≡ front' ++ rest' → length front' ≤ length front
longest ts [] front rest front' rest' p none q e = rw q (omega arith)
longest [] (o ∷ os) front rest front' rest' p none (f, r, parts, is, more) e =
    absurd (none f (r ++ rest') o (rw (
      ← (let h : front ++ rest ≡ rest = rw p refl in h),
      e,
      parts,
    ) (append_assoc f r rest')) is)
longest (t ∷ ts) (o ∷ os) front rest front' rest' (f, r, parts, is, more) none (
  f',
  r',
  parts',
  is',
  more',
) e =
    let both : f ++ (r ++ rest) ≡ f' ++ (r' ++ rest') = sym (append_assoc f r rest)
    ∙ ap (λ (x : List ℕ). x ++ rest) (sym parts) ∙ e ∙ ap (λ (x : List ℕ). x ++ rest') parts'
    ∙ append_assoc f' r' rest' in
    let s = same-front f f' (r ++ rest) (r' ++ rest') (HasEnd-tal f t is) (HasEnd-tal f' o is')
    both in
    let next = longest ts os r rest r' rest' more none more' s.suffix in
    rw (parts, parts') (omega (
      arith,
      next,
      length-append f r,
      length-append f' r',
      ap length s.prefix,
    ))

-- one TAL more
pub AreTals-more : (front f : List ℕ) (ts : List Tal) (t : Tal) → AreTals front ts → IsTal f t →
    AreTals (front ++ f) (ts ++ t ∷ [])
AreTals-more front f [] t p s = (f, [], rw p (sym (append-nil f)), s, refl)
AreTals-more front f (o ∷ os) t (g, r, parts, is, more) s = (
  g,
  r ++ f,
  ap (λ (x : List ℕ). x ++ f) parts ∙ append_assoc g r f,
  is,
  AreTals-more r f os t more s,
)
