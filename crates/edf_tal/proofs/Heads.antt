-- What the scan's helpers test.
use Rattle.std.proofs.Common.{◌≡◌, ◌≢◌, ℕ, suc, ◌-◌, ◌≤◌, ◌<◌, ◌⊎◌, nat_eq, List, [], ◌∷◌}
use Rattle.std.proofs.Common.{◌++◌, length, get_or, take, drop, arith, refl, sym, ap, ◌∙◌, subst}
use Rattle.std.proofs.Common.{inl, inr, append_assoc, ℤ, pos, neg_ℤ, Option, Some, None}
use Rattle.std.specs.Prelude.{IsTrue}
use Rattle.std.specs.List.{AllByRecursion}
use Rattle.std.proofs.lemmas.Bool.{cases_eq}
use Rattle.std.proofs.lemmas.List.{append-nil, length-append, take_all}
use Rattle.edf_time.specs.Decimal.{IsDecimal, IsFine, IsSeconds}
use Rattle.edf_tal.specs.Tal.{Tal, IsTal, IsOnset, IsDurationPart, IsText, terminated}
use Rattle.edf_tal.specs.Inside.Scan.{Lacks, NoTal, IsSecondsAndDuration, IsOnsetAndDuration}
use Rattle.edf_tal.specs.Inside.Scan.{IsEmptyOrEndsWith20, IsLeadingTal}
use Rattle.edf_time.proofs.Cited.{same-parts}
use Rattle.edf_tal.proofs.Unique.{same-sides, not-both, Lacks-append, Lacks-onset, Lacks-duration}
use Rattle.edf_tal.proofs.Unique.{Lacks-seconds}
use Rattle.edf_tal.proofs.Fronts.{NoZero-tal}
use Rattle.edf_tal.proofs.Totals.{Lacks-back}

-- a decimal that is too fine has no value
pub too-fine : (text w f : List ℕ) (n : ℕ) → IsDecimal text w f → ¬ IsFine f → ¬ IsSeconds text n
too-fine text w f n d bad s =
    bad (subst (λ (x : List ℕ). IsFine x)
    (sym (same-parts text w f s.whole s.fraction d s.parts).fraction) s.fine)

pub alone : (bytes : List ℕ) (n : ℕ) → IsSeconds bytes n → IsSecondsAndDuration bytes n None
alone bytes n s = record {
  onset = bytes;
  duration = [];
  parts = sym (append-nil bytes);
  is_seconds = s;
  is_duration = refl;
}

alone-back : (bytes o x : List ℕ) (n : ℕ) (d : Option ℕ) → Lacks 21 bytes → bytes ≡ o ++ x →
    IsSeconds o n → IsDurationPart x d → (k : ℕ) × IsSeconds bytes k
alone-back bytes o x n None lacks e s is = (n, rw (e, is, append-nil o) s)
alone-back bytes o x n (Some m) lacks e s (text, is, t) =
    absurd (not-both 21 bytes o text lacks (e ∙ ap (λ (w : List ℕ). o ++ w) is))

pub from-alone : (bytes : List ℕ) (n : ℕ) (d : Option ℕ) → Lacks 21 bytes →
    IsSecondsAndDuration bytes n d → (k : ℕ) × IsSeconds bytes k
from-alone bytes n d lacks t = alone-back bytes t.onset t.duration n d lacks t.parts t.is_seconds
    t.is_duration

pub both : (bytes o x : List ℕ) (m n : ℕ) → bytes ≡ o ++ 21 ∷ x → IsSeconds o m → IsSeconds x n →
    IsSecondsAndDuration bytes m (Some n)
both bytes o x m n e s t = record {
  onset = o;
  duration = 21 ∷ x;
  parts = e;
  is_seconds = s;
  is_duration = (x, refl, t);
}

pub record Both (o x : List ℕ) : Type 0 where
  pub onset : (k : ℕ) × IsSeconds o k
  pub duration : (k : ℕ) × IsSeconds x k

both-back : (bytes o x p y : List ℕ) (n : ℕ) (d : Option ℕ) → Lacks 21 o → bytes ≡ o ++ 21 ∷ x →
    bytes ≡ p ++ y → IsSeconds p n → IsDurationPart y d → Both o x
both-back bytes o x p y n None lacks e f s is =
    absurd (not-both 21 p o x (Lacks-seconds 21 p n (omega arith) s) (sym (append-nil p)
    ∙ ap (λ (w : List ℕ). p ++ w) (sym is) ∙ sym f ∙ e))
both-back bytes o x p y n (Some m) lacks e f s (text, is, t) =
    let same = same-sides 21 o p x text lacks (Lacks-seconds 21 p n (omega arith) s) (sym e ∙ f
    ∙ ap (λ (w : List ℕ). p ++ w) is) in
    record { onset = (n, rw (same.prefix) s); duration = (m, rw (same.suffix) t) }

pub from-both : (bytes o x : List ℕ) (n : ℕ) (d : Option ℕ) → Lacks 21 o → bytes ≡ o ++ 21 ∷ x →
    IsSecondsAndDuration bytes n d → Both o x
from-both bytes o x n d lacks e t =
    both-back bytes o x t.onset t.duration n d lacks e t.parts t.is_seconds t.is_duration

-- a head is a sign and times
pub record Signed (b : ℕ) (bytes : List ℕ) (d : Option ℕ) : Type 0 where
  pub sign : (b ≡ 43) ⊎ (b ≡ 45)
  pub n : ℕ
  pub times : IsSecondsAndDuration bytes n d

signed-of : (b : ℕ) (bytes o x : List ℕ) (z : ℤ) (d : Option ℕ) → b ∷ bytes ≡ o ++ x → IsOnset o z →
    IsDurationPart x d → Signed b bytes d
signed-of b bytes [] x z d e p q = absurd p
signed-of b bytes (c ∷ o) x z d e (inl (is, (n, s, v))) q =
    let same : b ≡ c = cc in
    let rest : bytes ≡ o ++ x = cc in
    record {
      sign = inl (same ∙ is);
      n = n;
      times =
          record { onset = o; duration = x; parts = rest; is_seconds = s; is_duration = q };
    }
signed-of b bytes (c ∷ o) x z d e (inr (is, (n, s, v))) q =
    let same : b ≡ c = cc in
    let rest : bytes ≡ o ++ x = cc in
    record {
      sign = inr (same ∙ is);
      n = n;
      times =
          record { onset = o; duration = x; parts = rest; is_seconds = s; is_duration = q };
    }

pub head-signed : (b : ℕ) (bytes : List ℕ) (z : ℤ) (d : Option ℕ) →
    IsOnsetAndDuration (b ∷ bytes) z d → Signed b bytes d
head-signed b bytes z d h = signed-of b bytes h.onset h.duration z d h.parts h.is_onset
    h.is_duration

pub no-head : (z : ℤ) (d : Option ℕ) → ¬ IsOnsetAndDuration [] z d
no-head z d h = none h.onset h.parts h.is_onset
  where
    none : (o : List ℕ) → [] ≡ o ++ h.duration → IsOnset o z → ⊥
    none [] e p = p
    none (c ∷ o) e p = cc

-- the head of a sign
pub head-plus : (bytes : List ℕ) (n : ℕ) (d : Option ℕ) → IsSecondsAndDuration bytes n d →
    IsOnsetAndDuration (43 ∷ bytes) (pos n) d
head-plus bytes n d t = record {
  onset = 43 ∷ t.onset;
  duration = t.duration;
  parts =
      ap (λ (w : List ℕ). 43 ∷ w) t.parts;
  is_onset = inl (refl, (n, t.is_seconds, refl));
  is_duration = t.is_duration;
}

pub head-minus : (bytes : List ℕ) (n : ℕ) (d : Option ℕ) → IsSecondsAndDuration bytes n d →
    IsOnsetAndDuration (45 ∷ bytes) (neg_ℤ (pos n)) d
head-minus bytes n d t = record {
  onset = 45 ∷ t.onset;
  duration = t.duration;
  parts =
      ap (λ (w : List ℕ). 45 ∷ w) t.parts;
  is_onset = inr (refl, (n, t.is_seconds, refl));
  is_duration = t.is_duration;
}

-- the first byte and the rest
pub head-apart : (head : List ℕ) → 1 ≤ length head →
    get_or head 0 0 ∷ take (length head - 1) (drop 1 head) ≡ head
head-apart [] some = absurd (omega arith)
head-apart (b ∷ head) some = let e : suc (length head) - 1 ≡ length head = omega arith in
    ap (λ (w : List ℕ). b ∷ w) (take_all (suc (length head) - 1) head (omega arith))

-- no other sign
pub neither : (b : ℕ) (bytes : List ℕ) (z : ℤ) (d : Option ℕ) → b ≢ 43 → b ≢ 45 →
    ¬ IsOnsetAndDuration (b ∷ bytes) z d
neither b bytes z d p q h = elim (head-signed b bytes z d h).sign [ inl e ↦ p e | inr e ↦ q e ]

-- the last byte
IsEnded-last : (b : ℕ) (bytes : List ℕ) → IsEmptyOrEndsWith20 (b ∷ bytes) →
    get_or (b ∷ bytes) (length bytes) 0 ≡ 20
IsEnded-last b [] e = e
IsEnded-last b (c ∷ bytes) e = IsEnded-last c bytes e

last-IsEnded : (b : ℕ) (bytes : List ℕ) → get_or (b ∷ bytes) (length bytes) 0 ≡ 20 →
    IsEmptyOrEndsWith20 (b ∷ bytes)
last-IsEnded b [] e = e
last-IsEnded b (c ∷ bytes) e = last-IsEnded c bytes e

IsEnded-append : (a b : List ℕ) → 0 < length b → IsEmptyOrEndsWith20 b →
    IsEmptyOrEndsWith20 (a ++ b)
IsEnded-append [] b some e = e
IsEnded-append (x ∷ []) [] some e = absurd (omega arith)
IsEnded-append (x ∷ []) (y ∷ b) some e = e
IsEnded-append (x ∷ c ∷ a) b some e = IsEnded-append (c ∷ a) b some e

pub IsEnded-ended : (texts : List (List ℕ)) → IsEmptyOrEndsWith20 (terminated texts)
IsEnded-ended [] = tt
IsEnded-ended (x ∷ []) = rw (append-nil (x ++ 20 ∷ []))
    (IsEnded-append x (20 ∷ []) (omega arith) refl)
IsEnded-ended (x ∷ y ∷ texts) = IsEnded-append (x
    ++ 20 ∷ []) (terminated (y ∷ texts)) (omega (
      arith,
      length-append (y ++ 20 ∷ []) (terminated texts),
      length-append y (20 ∷ []),
    )) (IsEnded-ended (y ∷ texts))

-- the test of the last byte
pub ended-tests : (bytes : List ℕ) → 0 < length bytes →
    (IsTrue (nat_eq (get_or bytes (length bytes - 1) 0) 20) → IsEmptyOrEndsWith20 bytes)
    × (IsEmptyOrEndsWith20 bytes → IsTrue (nat_eq (get_or bytes (length bytes - 1) 0) 20))
ended-tests [] some = absurd (omega arith)
ended-tests (b ∷ bytes) some =
    let at : suc (length bytes) - 1 ≡ length bytes = omega arith in (
      λ t. last-IsEnded b bytes (let e : get_or (b ∷ bytes) (suc (length bytes) - 1) 0 ≡ 20 =
          grind (arith, t) in subst (λ (i : ℕ). get_or (b ∷ bytes) i 0 ≡ 20) at e),
      λ e. let f : get_or (b ∷ bytes) (suc (length bytes) - 1) 0 ≡ 20 =
          subst (λ (i : ℕ). get_or (b ∷ bytes) i 0 ≡ 20) (sym at) (IsEnded-last b bytes e) in
          rw f refl,
    )

-- the texts of a tail
pub record Texts (tail : List ℕ) : Type 0 where
  pub texts : List (List ℕ)
  pub parts : tail ≡ terminated texts
  pub are_texts : AllByRecursion IsText texts

onto : (b : ℕ) (tail : List ℕ) → b ≢ 0 → b ≢ 20 → 0 < length tail → Texts tail → Texts (b ∷ tail)
onto b tail nz nt some t = go t.texts t.parts t.are_texts
  where
    go : (ts : List (List ℕ)) → tail ≡ terminated ts → AllByRecursion IsText ts → Texts (b ∷ tail)
    go [] e a = absurd (omega (arith, ap length e))
    go (x ∷ xs) e a = record {
      texts = (b ∷ x) ∷ xs;
      parts = ap (λ (w : List ℕ). b ∷ w) e;
      are_texts = (((nz, nt), a.0), a.1);
    }

pub texts-of : (tail : List ℕ) → Lacks 0 tail → IsEmptyOrEndsWith20 tail → Texts tail
texts-of [] nz e = record { texts = []; parts = refl; are_texts = tt }
texts-of (b ∷ []) nz e = record { texts = [] ∷ []; parts = rw e refl; are_texts = (tt, tt) }
texts-of (b ∷ c ∷ tail) nz e =
    let rest = texts-of (c ∷ tail) nz.1 e in
    elim (cases_eq b 20) [
      | inl is ↦ record {
        texts = [] ∷ rest.texts;
        parts =
            rw is (ap (λ (w : List ℕ). 20 ∷ w) rest.parts);
        are_texts = (tt, rest.are_texts);
      }
      | inr isnt ↦ onto b (c ∷ tail) nz.0 isnt (omega arith) rest
    ]

-- the TAL at the front, by the first bytes 0 and 20
pub record Reads (body rest front later : List ℕ) (t : Tal) (s : IsTal front t) : Type 0 where
  pub body_is : body ≡ (s.onset ++ s.duration) ++ 20 ∷ terminated t.texts
  pub rest_is : rest ≡ later

pub front-body : (bytes body rest front later : List ℕ) (t : Tal) → Lacks 0 body → bytes ≡ body
    ++ 0 ∷ rest → bytes ≡ front ++ later → (s : IsTal front t) → Reads body rest front later t s
front-body bytes body rest front later t lacks e f s =
    let b = (s.onset ++ s.duration) ++ 20 ∷ terminated t.texts in
    let whole : front ++ later ≡ b ++ 0 ∷ later = ap (λ (w : List ℕ). w ++ later) s.parts
    ∙ append_assoc b (0 ∷ []) later in
    let same = same-sides 0 body b rest later lacks (NoZero-tal front t s) (sym e ∙ f ∙ whole) in
    record { body_is = same.prefix; rest_is = same.suffix }

pub no-zero-byte : (bytes : List ℕ) → Lacks 0 bytes → NoTal bytes
no-zero-byte bytes lacks front rest t e s =
    not-both 0 bytes ((s.onset ++ s.duration) ++ 20 ∷ terminated t.texts) rest lacks
    (e ∙ ap (λ (w : List ℕ). w ++ rest) s.parts
    ∙ append_assoc ((s.onset ++ s.duration) ++ 20 ∷ terminated t.texts) (0 ∷ []) rest)

pub no-twenty : (bytes body rest : List ℕ) → Lacks 0 body → bytes ≡ body ++ 0 ∷ rest →
    Lacks 20 body → NoTal bytes
no-twenty bytes body rest lacks e none front later t f s =
    not-both 20 body (s.onset ++ s.duration) (terminated t.texts) none
    (front-body bytes body rest front later t lacks e f s).body_is

pub record Sides (h x : List ℕ) (t : Tal) : Type 0 where
  pub head : IsOnsetAndDuration h t.onset t.duration
  pub texts : x ≡ terminated t.texts

pub front-sides : (bytes body rest head texts front later : List ℕ) (t : Tal) → Lacks 0 body →
    bytes ≡ body ++ 0 ∷ rest → Lacks 20 head → body ≡ head ++ 20 ∷ texts
    → bytes ≡ front ++ later → IsTal front t → Sides head texts t
front-sides bytes body rest head texts front later t lacks e lacks' f g s =
    let same = same-sides 20 head (s.onset ++ s.duration) texts (terminated t.texts) lacks'
    (Lacks-append 20 s.onset s.duration (Lacks-onset 20 s.onset t.onset (omega arith) s.is_onset)
    (Lacks-duration s.duration t.duration s.is_duration))
    (sym f ∙ (front-body bytes body rest front later t lacks e g s).body_is) in
    record {
      head = record {
        onset = s.onset;
        duration = s.duration;
        parts = same.prefix;
        is_onset =
            s.is_onset;
        is_duration = s.is_duration;
      };
      texts = same.suffix;
    }

pub front-made : (bytes body rest head texts : List ℕ) (z : ℤ) (d : Option ℕ) → Lacks 0 body →
    bytes ≡ body ++ 0 ∷ rest → body ≡ head ++ 20 ∷ texts → IsOnsetAndDuration head z d →
    IsEmptyOrEndsWith20 texts → (x : Texts texts) × IsLeadingTal bytes texts rest
    (record { onset = z; duration = d; texts = x.texts })
front-made bytes body rest head texts z d lacks e f h ends =
    let none : Lacks 0 texts =
    (Lacks-back 0 head (20 ∷ texts) (subst (λ (w : List ℕ). Lacks 0 w) f lacks)).1 in
    let x = texts-of texts none ends in (
      x,
      record {
        prefix = body ++ 0 ∷ [];
        parts = e ∙ sym (append_assoc body (0 ∷ []) rest);
        tal = record {
          onset = h.onset;
          duration = h.duration;
          parts = ap (λ (w : List ℕ). w ++ 0 ∷ []) (f ∙ ap (λ (w : List ℕ). w ++ 20 ∷ texts) h.parts
              ∙ ap (λ (w : List ℕ). (h.onset ++ h.duration) ++ 20 ∷ w) x.parts);
          is_onset = h.is_onset;
          is_duration = h.is_duration;
          are_texts = x.are_texts;
        };
        texts_are = x.parts;
      },
    )
