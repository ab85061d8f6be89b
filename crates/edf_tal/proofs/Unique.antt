-- No bytes are a TAL in two ways.
use Rattle.std.proofs.Common.{◌≡◌, ℕ, ◌<◌, List, [], ◌∷◌, ◌++◌, arith, refl, sym, ap, ◌∙◌, inl, inr}
use Rattle.std.proofs.Common.{append_assoc, ℤ, pos, neg_ℤ, Option, Some, None}
use Rattle.std.specs.List.{AllByRecursion}
use Rattle.std.proofs.lemmas.List.{append-nil}
use Rattle.std.specs.Str.Parse.{AllDigits}
use Rattle.edf_time.specs.Decimal.{IsDecimal, IsSeconds}
use Rattle.edf_time.proofs.Cited.{digit_only, one-value}
use Rattle.edf_tal.specs.Inside.Scan.{Lacks}
use Rattle.edf_tal.specs.Tal.{Tal, IsTal, IsOnset, IsDurationPart, IsText, terminated}

pub Lacks-append : (c : ℕ) (a b : List ℕ) → Lacks c a → Lacks c b → Lacks c (a ++ b)
Lacks-append c [] b p q = q
Lacks-append c (x ∷ a) b p q = (p.0, Lacks-append c a b p.1 q)

pub record SameSides (a b x y : List ℕ) : Type 0 where
  pub prefix : a ≡ b
  pub suffix : x ≡ y

-- the two sides of the first such byte
pub same-sides : (c : ℕ) (a b x y : List ℕ) → Lacks c a → Lacks c b → a ++ c ∷ x ≡ b ++ c ∷ y →
    SameSides a b x y
same-sides c [] [] x y p q e = record { prefix = refl; suffix = cc }
same-sides c [] (d ∷ b) x y p q e = absurd (q.0 (sym (let z : c ≡ d = cc in z)))
same-sides c (d ∷ a) [] x y p q e = absurd (p.0 (let z : d ≡ c = cc in z))
same-sides c (d ∷ a) (f ∷ b) x y p q e =
    let head : d ≡ f = cc in
    let rest : a ++ c ∷ x ≡ b ++ c ∷ y = cc in
    let s = same-sides c a b x y p.1 q.1 rest in
    record { prefix = cc; suffix = s.suffix }

-- a list with the byte is none without it
pub not-both : (c : ℕ) (a b y : List ℕ) → Lacks c a → a ≡ b ++ c ∷ y → ⊥
not-both c [] [] y p e = absurd cc
not-both c [] (d ∷ b) y p e = absurd cc
not-both c (x ∷ a) [] y p e = p.0 (let z : x ≡ c = cc in z)
not-both c (x ∷ a) (d ∷ b) y p e = not-both c a b y p.1 (let z : a ≡ b ++ c ∷ y = cc in z)

Lacks-digits : (c : ℕ) (ds : List ℕ) → (c < 48) → AllDigits 10 ds → Lacks c ds
Lacks-digits c [] low p = tt
Lacks-digits c (d ∷ ds) low p = (
  (λ e. let b = (digit_only d p.0).0 in absurd (omega arith)),
  Lacks-digits c ds low p.1,
)

Lacks-decimal : (c : ℕ) (text w f : List ℕ) → c < 46 → IsDecimal text w f → Lacks c text
Lacks-decimal c text w [] low d = rw (d.1) (Lacks-digits c w (omega arith) d.0.1)
Lacks-decimal c text w (x ∷ f) low d =
    rw (d.2) (Lacks-append c w (46 ∷ x ∷ f) (Lacks-digits c w (omega arith) d.0.1)
    ((λ e. absurd (omega arith)), Lacks-digits c (x ∷ f) (omega arith) d.1.1))

pub Lacks-seconds : (c : ℕ) (text : List ℕ) (n : ℕ) → c < 46 → IsSeconds text n → Lacks c text
Lacks-seconds c text n low s = Lacks-decimal c text s.whole s.fraction low s.parts

pub one-onset : (text : List ℕ) (y z : ℤ) → IsOnset text y → IsOnset text z → y ≡ z
one-onset [] y z p q = absurd p
one-onset (b ∷ text) y z (inl (e, (m, s, v))) (inl (f, (n, t, w))) = v
    ∙ ap pos (one-value text m n s t) ∙ sym w
one-onset (b ∷ text) y z (inl (e, (m, s, v))) (inr (f, (n, t, w))) = absurd (omega arith)
one-onset (b ∷ text) y z (inr (e, (m, s, v))) (inl (f, (n, t, w))) = absurd (omega arith)
one-onset (b ∷ text) y z (inr (e, (m, s, v))) (inr (f, (n, t, w))) = v
    ∙ ap (λ k. neg_ℤ (pos k)) (one-value text m n s t) ∙ sym w

pub Lacks-onset : (c : ℕ) (text : List ℕ) (z : ℤ) → c < 43 → IsOnset text z → Lacks c text
Lacks-onset c [] z low o = tt
Lacks-onset c (b ∷ text) z low (inl (e, (n, s, v))) =
    ((λ is. absurd (omega arith)), Lacks-seconds c text n (omega arith) s)
Lacks-onset c (b ∷ text) z low (inr (e, (n, s, v))) =
    ((λ is. absurd (omega arith)), Lacks-seconds c text n (omega arith) s)

pub Lacks-duration : (bytes : List ℕ) (d : Option ℕ) → IsDurationPart bytes d → Lacks 20 bytes
Lacks-duration bytes None e = rw e tt
Lacks-duration bytes (Some n) (text, e, s) =
    rw e ((λ is. absurd (omega arith)), Lacks-seconds 20 text n (omega arith) s)

-- the onset and the duration
pub record SameHead (o p : List ℕ) (d e : Option ℕ) : Type 0 where
  pub onset : o ≡ p
  pub duration : d ≡ e

pub one-head : (o p x y : List ℕ) (u v : Option ℕ) → Lacks 21 o → Lacks 21 p → IsDurationPart x u →
    IsDurationPart y v → o ++ x ≡ p ++ y → SameHead o p u v
one-head o p x y None None a b c d e =
    record {
      onset = sym (append-nil o) ∙ ap (λ (t : List ℕ). o ++ t) (sym c) ∙ e
          ∙ ap (λ (t : List ℕ). p ++ t) d ∙ append-nil p;
      duration = refl;
    }
one-head o p x y None (Some n) a b c (t, f, s) e =
    absurd (not-both 21 o p t a (sym (append-nil o) ∙ ap (λ (w : List ℕ). o ++ w) (sym c) ∙ e
    ∙ ap (λ (w : List ℕ). p ++ w) f))
one-head o p x y (Some m) None a b (t, f, s) d e =
    absurd (not-both 21 p o t b (sym (append-nil p) ∙ ap (λ (w : List ℕ). p ++ w) (sym d) ∙ sym e
    ∙ ap (λ (w : List ℕ). o ++ w) f))
one-head o p x y (Some m) (Some n) a b (t, f, s) (r, g, q) e =
    let same = same-sides 21 o p t r a b (ap (λ (w : List ℕ). o ++ w) (sym f) ∙ e
    ∙ ap (λ (w : List ℕ). p ++ w) g) in
    record {
      onset = same.prefix;
      duration =
          ap (λ (k : ℕ). Some k) (one-value t m n s (rw (same.suffix) q));
    }

pub Lacks-text : (text : List ℕ) → IsText text → Lacks 20 text
Lacks-text [] p = tt
Lacks-text (b ∷ text) p = (p.0.1, Lacks-text text p.1)

regrouped : (x : List ℕ) (xs : List (List ℕ)) → terminated (x ∷ xs) ++ 0 ∷ [] ≡ x
    ++ 20 ∷ (terminated xs ++ 0 ∷ [])
regrouped x xs = append_assoc (x ++ 20 ∷ []) (terminated xs) (0 ∷ [])
    ∙ append_assoc x (20 ∷ []) (terminated xs ++ 0 ∷ [])

-- the texts
pub one-texts : (xs ys : List (List ℕ)) → AllByRecursion IsText xs → AllByRecursion IsText ys →
    terminated xs ++ 0 ∷ [] ≡ terminated ys ++ 0 ∷ [] → xs ≡ ys
one-texts [] [] p q e = refl
one-texts [] (y ∷ ys) p q e =
    absurd (not-both 20 (0 ∷ []) y (terminated ys ++ 0 ∷ []) ((λ is. absurd (omega arith)), tt) (e
    ∙ regrouped y ys))
one-texts (x ∷ xs) [] p q e =
    absurd (not-both 20 (0 ∷ []) x (terminated xs ++ 0 ∷ []) (
      (λ is. absurd (omega arith)),
      tt,
    ) (sym e
    ∙ regrouped x xs))
one-texts (x ∷ xs) (y ∷ ys) p q e =
    let left : x ++ 20 ∷ (terminated xs ++ 0 ∷ []) ≡ y ++ 20 ∷ (terminated ys ++ 0 ∷ []) =
    sym (regrouped x xs) ∙ e ∙ regrouped y ys in
    let s = same-sides 20 x y (terminated xs ++ 0 ∷ []) (terminated ys
    ++ 0 ∷ []) (Lacks-text x p.0) (Lacks-text y q.0) left in
    let more = one-texts xs ys p.1 q.1 s.suffix in
    let first : x ≡ y = s.prefix in
    cc

-- bytes are one TAL at most
pub one-tal : (bytes : List ℕ) (t s : Tal) → IsTal bytes t → IsTal bytes s → t ≡ s
one-tal bytes t s p q =
    let whole : (p.onset ++ p.duration) ++ 20 ∷ (terminated t.texts ++ 0 ∷ [])
    ≡ (q.onset ++ q.duration) ++ 20 ∷ (terminated s.texts ++ 0 ∷ []) =
    sym (append_assoc (p.onset ++ p.duration) (20 ∷ terminated t.texts) (0 ∷ [])) ∙ sym p.parts
    ∙ q.parts ∙ append_assoc (q.onset ++ q.duration) (20 ∷ terminated s.texts) (0 ∷ []) in
    let sides = same-sides 20 (p.onset ++ p.duration) (q.onset ++ q.duration) (terminated t.texts
    ++ 0 ∷ []) (terminated s.texts ++ 0 ∷ []) (Lacks-append 20 p.onset p.duration (Lacks-onset 20
    p.onset t.onset (omega arith) p.is_onset) (Lacks-duration p.duration t.duration p.is_duration))
    (Lacks-append 20 q.onset q.duration (Lacks-onset 20 q.onset s.onset (omega arith) q.is_onset)
    (Lacks-duration q.duration s.duration q.is_duration)) whole in
    let head = one-head p.onset q.onset p.duration q.duration t.duration s.duration
    (Lacks-onset 21 p.onset t.onset (omega arith) p.is_onset) (Lacks-onset 21 q.onset s.onset (omega
    arith) q.is_onset) p.is_duration q.is_duration sides.prefix in
    let onset : t.onset ≡ s.onset =
    one-onset p.onset t.onset s.onset p.is_onset (rw (head.onset) q.is_onset) in
    let duration : t.duration ≡ s.duration = head.duration in
    let texts : t.texts ≡ s.texts =
    one-texts t.texts s.texts p.are_texts q.are_texts sides.suffix in
    λ i. record { onset = onset i; duration = duration i; texts = texts i }
