-- The list of a data record's annotations, as far as it is made.
use Rattle.std.proofs.Common.{◌≡◌, ℕ, Bool, List, [], ◌∷◌, ◌++◌, drop, map, refl, sym}
use Rattle.std.proofs.Common.{ap, ◌∙◌, subst, append_assoc, Option}
use Rattle.std.specs.Prelude.{IsUtf8}
use Rattle.std.specs.List.{AllByRecursion, flat_map}
use Rattle.std.proofs.lemmas.List.{append-nil}
use Rattle.edf_tal.specs.Tal.{Tal, Annotation, IsText, terminated, AreTalsAndZeros, HaveUtf8Texts}
use Rattle.edf_tal.specs.Tal.{HasTimeKeepingTal, IsTalInWindow, instant, tal_annotations}
use Rattle.edf_tal.specs.Tal.{annotations}
use Rattle.edf_tal.specs.Inside.Scan.{Lacks, NoTal, IsLeadingTal, IsCappedOnset, IsCappedDuration}
use Rattle.edf_tal.specs.Inside.Scan.{AreUtf8Texts, IsScannedTal}
use Rattle.edf_tal.specs.Inside.Blocks.{AreSoundTals}
use Rattle.edf_tal.proofs.Unique.{same-sides, not-both, Lacks-text, one-tal}
use Rattle.edf_tal.proofs.Fronts.{same-front, HasEnd-tal}
use Rattle.edf_tal.proofs.OneBlock.{one-block, zeros-no-tal}
use Rattle.edf_tal.proofs.Totals.{note_of}

-- the annotations of the texts so far
pub record HasPushed (onset : ℕ) (duration : Option ℕ) (texts rest : List ℕ)
    (old new : List Annotation) : Type 0 where
  pub all : List (List ℕ)
  pub left : List (List ℕ)
  pub are_all : AreUtf8Texts texts all
  pub are_left : AreUtf8Texts rest left
  pub items : old ++ map (note_of onset duration) all ≡ new ++ map (note_of onset duration) left

pub record NextText (text more : List ℕ) (left : List (List ℕ)) : Type 0 where
  pub others : List (List ℕ)
  pub left_is : left ≡ text ∷ others
  pub is_text : IsText text
  pub good : IsUtf8 text
  pub rest : AreUtf8Texts more others

next-text : (rest text more : List ℕ) (xs : List (List ℕ)) → rest ≡ terminated xs →
    AllByRecursion IsText xs → AllByRecursion IsUtf8 xs → Lacks 20 text → rest ≡ text ++ 20 ∷ more →
    NextText text more xs
next-text rest text more [] e a u lacks f = absurd (not-both 20 [] text more tt (sym e ∙ f))
next-text rest text more (x ∷ xs) e a u lacks f =
    let s = same-sides 20 x text (terminated xs) more (Lacks-text x a.0) lacks
    (sym (append_assoc x (20 ∷ []) (terminated xs)) ∙ sym e ∙ f) in
    record {
      others = xs;
      left_is = ap (λ (w : List ℕ). w ∷ xs) s.prefix;
      is_text = subst IsText s.prefix a.0;
      good = subst IsUtf8 s.prefix u.0;
      rest = record { bytes_are = sym s.suffix; are_texts = a.1; good = u.1 };
    }

pub pushed-next : (onset : ℕ) (duration : Option ℕ) (texts rest text more : List ℕ)
    (old new : List Annotation) (h : HasPushed onset duration texts rest old new)
    → Lacks 20 text → rest ≡ text ++ 20 ∷ more → NextText text more h.left
pushed-next onset duration texts rest text more old new h lacks e =
    next-text rest text more h.left h.are_left.bytes_are h.are_left.are_texts h.are_left.good lacks
    e

pub pushed-more : (onset : ℕ) (duration : Option ℕ) (texts rest text more : List ℕ)
    (old new newer : List Annotation) → HasPushed onset duration texts rest old new
    → Lacks 20 text → rest ≡ text ++ 20 ∷ more → newer ≡ new ++ note_of onset duration text ∷ [] →
    HasPushed onset duration texts more old newer
pushed-more onset duration texts rest text more old new newer h lacks e is =
    let n = pushed-next onset duration texts rest text more old new h lacks e in
    record {
      all = h.all;
      left = n.others;
      are_all = h.are_all;
      are_left = n.rest;
      items = h.items ∙ ap (λ (w : List (List ℕ)). new ++ map (note_of onset duration) w) n.left_is
          ∙ sym (ap (λ (w : List Annotation). w ++ map (note_of onset duration) n.others) is
          ∙ append_assoc new (note_of onset duration text ∷ [])
          (map (note_of onset duration) n.others));
    }

no-text-left : (rest : List ℕ) (xs : List (List ℕ)) → rest ≡ terminated xs → Lacks 20 rest → xs ≡ []
no-text-left rest [] e lacks = refl
no-text-left rest (x ∷ xs) e lacks =
    absurd (not-both 20 rest x (terminated xs) lacks (e ∙ append_assoc x (20 ∷ []) (terminated xs)))

same-texts : (xs ys : List (List ℕ)) → AllByRecursion IsText xs → AllByRecursion IsText ys →
    terminated xs ≡ terminated ys → xs ≡ ys
same-texts [] [] a b e = refl
same-texts [] (y ∷ ys) a b e =
    absurd (not-both 20 [] y (terminated ys) tt (e ∙ append_assoc y (20 ∷ []) (terminated ys)))
same-texts (x ∷ xs) [] a b e =
    absurd (not-both 20 [] x (terminated xs) tt (sym e ∙ append_assoc x (20 ∷ []) (terminated xs)))
same-texts (x ∷ xs) (y ∷ ys) a b e =
    let s = same-sides 20 x y (terminated xs) (terminated ys) (Lacks-text x a.0) (Lacks-text y b.0)
    (sym (append_assoc x (20 ∷ []) (terminated xs)) ∙ e ∙ append_assoc y (20 ∷ []) (terminated ys))
    in
    let first : x ≡ y = s.prefix in
    let more : xs ≡ ys = same-texts xs ys a.1 b.1 s.suffix in
    cc

pub pushed-all : (onset : ℕ) (duration : Option ℕ) (texts rest : List ℕ)
    (old new : List Annotation) → HasPushed onset duration texts rest old new → Lacks 20 rest
    → (xs : List (List ℕ)) → AreUtf8Texts texts xs → new ≡ old ++ map (note_of onset duration) xs
pushed-all onset duration texts rest old new h lacks xs a =
    let none = no-text-left rest h.left h.are_left.bytes_are lacks in
    let same = same-texts h.all xs h.are_all.are_texts a.are_texts (sym h.are_all.bytes_are
    ∙ a.bytes_are) in
    sym (append-nil new) ∙ sym (ap (λ (w : List (List ℕ)). new ++ map (note_of onset duration) w)
    none) ∙ sym h.items ∙ ap (λ (w : List (List ℕ)). old ++ map (note_of onset duration) w) same

-- the annotations of the TALs so far
pub record HasPushedTals (file_start : ℕ) (tals rest : List ℕ) (old new : List Annotation) : Type 0
  where
    pub all : List Tal
    pub left : List Tal
    pub are_all : AreSoundTals tals file_start all
    pub are_left : AreSoundTals rest file_start left
    pub items : old ++ flat_map (tal_annotations file_start) all ≡ new
        ++ flat_map (tal_annotations file_start) left

-- the TAL at the front is the first of them
pub record NextTal (s : ℕ) (rest texts : List ℕ) (t : Tal) (left : List Tal) : Type 0 where
  pub others : List Tal
  pub left_is : left ≡ t ∷ others
  pub are_texts : AllByRecursion IsText t.texts
  pub good : AllByRecursion IsUtf8 t.texts
  pub window : IsTalInWindow s t
  pub texts_are : texts ≡ terminated t.texts
  pub sound : AreSoundTals rest s others

pub next-tal : (s : ℕ) (bytes texts more : List ℕ) (t : Tal) (ts : List Tal) →
    AreSoundTals bytes s ts → IsLeadingTal bytes texts more t → NextTal s more texts t ts
next-tal s bytes texts more t ts a f = at ts a.whole a.good a.window
  where
    at : (us : List Tal) → AreTalsAndZeros bytes us → HaveUtf8Texts us →
        AllByRecursion (IsTalInWindow s) us → NextTal s more texts t us
    at [] (front, zeros, parts, w, are) g i =
        absurd (zeros-no-tal zeros are f.prefix more t
        (sym (parts ∙ ap (λ (x : List ℕ). x ++ zeros) w) ∙ f.parts) f.tal)
    at (u ∷ us) (front, zeros, parts, (first, r, both, is, others), are) g i =
        let whole : bytes ≡ first ++ (r ++ zeros) = parts ∙ ap (λ (x : List ℕ). x ++ zeros) both
        ∙ append_assoc first r zeros in
        let same = same-front first f.prefix (r ++ zeros) more (HasEnd-tal first u is)
        (HasEnd-tal f.prefix t f.tal) (sym whole ∙ f.parts) in
        let one = one-tal first u t is (rw (same.prefix) (f.tal)) in
        record {
          others = us;
          left_is = ap (λ (x : Tal). x ∷ us) one;
          are_texts = f.tal.are_texts;
          good = subst (λ (x : Tal). AllByRecursion IsUtf8 x.texts) one g.0;
          window = subst (IsTalInWindow s) one i.0;
          texts_are = f.texts_are;
          sound = record {
            whole = (r, zeros, sym same.suffix, others, are);
            good = g.1;
            window =
                i.1;
          };
        }

pub tells : (s : ℕ) (rest texts : List ℕ) (t : Tal) (left : List Tal) (ahead : Bool) (onset : ℕ)
    (duration : Option ℕ) → NextTal s rest texts t left → IsCappedOnset ahead onset t.onset →
    IsCappedDuration duration t.duration → IsScannedTal texts ahead onset duration s t
tells s rest texts t left ahead onset duration n o d = record {
  texts_are = n.texts_are;
  are_texts = n.are_texts;
  good = n.good;
  is_onset = o;
  is_duration = d;
  window = n.window;
}

pub tals-more : (s : ℕ) (tals rest texts more : List ℕ) (old new newer : List Annotation)
    (t : Tal) → HasPushedTals s tals rest old new → IsLeadingTal rest texts more t
    → newer ≡ new ++ tal_annotations s t → HasPushedTals s tals more old newer
tals-more s tals rest texts more old new newer t h f is =
    let n = next-tal s rest texts more t h.left h.are_left f in
    record {
      all = h.all;
      left = n.others;
      are_all = h.are_all;
      are_left = n.sound;
      items = h.items ∙ ap (λ (w : List Tal). new ++ flat_map (tal_annotations s) w) n.left_is
          ∙ sym (ap (λ (w : List Annotation). w ++ flat_map (tal_annotations s) n.others) is
          ∙ append_assoc new (tal_annotations s t) (flat_map (tal_annotations s) n.others));
    }

no-tal-left : (rest : List ℕ) (ts : List Tal) → AreTalsAndZeros rest ts → NoTal rest → ts ≡ []
no-tal-left rest [] a none = refl
no-tal-left rest (t ∷ ts) (front, zeros, parts, (f, r, both, is, more), are) none =
    absurd (none f (r ++ zeros) t (parts ∙ ap (λ (x : List ℕ). x ++ zeros) both
    ∙ append_assoc f r zeros) is)

pub tals-all : (s : ℕ) (tals rest : List ℕ) (old new : List Annotation) →
    HasPushedTals s tals rest old new → NoTal rest
    → (ts : List Tal) → AreSoundTals tals s ts → new ≡ old ++ flat_map (tal_annotations s) ts
tals-all s tals rest old new h last ts a =
    let none = no-tal-left rest h.left h.are_left.whole last in
    let same = one-block tals h.all ts h.are_all.whole a.whole in
    sym (append-nil new) ∙ sym (ap (λ (w : List Tal). new ++ flat_map (tal_annotations s) w) none)
    ∙ sym h.items ∙ ap (λ (w : List Tal). old ++ flat_map (tal_annotations s) w) same

-- the TALs of a timed block have a first
pub some-tal : (s : ℕ) (bytes : List ℕ) (ts : List Tal) → AreSoundTals bytes s ts →
    HasTimeKeepingTal ts → NoTal bytes → ⊥
some-tal s bytes ts a h none = subst HasTimeKeepingTal (no-tal-left bytes ts a.whole none) h

pub first-timed : (s : ℕ) (rest texts : List ℕ) (t : Tal) (ts : List Tal) →
    NextTal s rest texts t ts → HasTimeKeepingTal ts → (xs : List (List ℕ)) × (t.texts ≡ [] ∷ xs)
first-timed s rest texts t ts n h = subst HasTimeKeepingTal n.left_is h

pub after-empty : (s : ℕ) (rest texts : List ℕ) (t : Tal) (ts : List Tal) (xs : List (List ℕ)) →
    NextTal s rest texts t ts → t.texts ≡ [] ∷ xs → texts ≡ 20 ∷ terminated xs
after-empty s rest texts t ts xs n e = n.texts_are ∙ ap terminated e

pub tells-rest : (s : ℕ) (rest texts : List ℕ) (t : Tal) (ts : List Tal) (xs : List (List ℕ))
    (ahead : Bool) (onset : ℕ) (duration : Option ℕ) (texts_after : List ℕ) → NextTal s rest texts t
    ts → t.texts ≡ [] ∷ xs → texts_after ≡ terminated xs → IsCappedOnset ahead onset t.onset →
    IsCappedDuration duration t.duration →
    IsScannedTal texts_after ahead onset duration s (record t { texts = xs })
tells-rest s rest texts t ts xs ahead onset duration texts_after n e b o d = record {
  texts_are = b;
  are_texts = (subst (AllByRecursion IsText) e n.are_texts).1;
  good = (subst (AllByRecursion IsUtf8) e n.good).1;
  is_onset = o;
  is_duration = d;
  window = let w = n.window in record { onset = w.onset; duration = w.duration };
}

pub whole-list : (s : ℕ) (rest texts : List ℕ) (t : Tal) (ts : List Tal) (xs : List (List ℕ))
    (none first all : List Annotation) → (n : NextTal s rest texts t ts) → t.texts ≡ [] ∷ xs
    → first ≡ none ++ tal_annotations s (record t { texts = xs }) → all ≡ first
    ++ flat_map (tal_annotations s) n.others → all ≡ none ++ annotations s ts
whole-list s rest texts t ts xs none first all n e g h =
    let there : annotations s ts ≡ tal_annotations s (record t { texts = xs })
    ++ flat_map (tal_annotations s) n.others =
    ap (annotations s) n.left_is ∙ ap (λ (w : List (List ℕ)). drop 1 (map (note_of (instant s
    t.onset) t.duration) w ++ flat_map (tal_annotations s) n.others)) e in
    h ∙ ap (λ (w : List Annotation). w ++ flat_map (tal_annotations s) n.others) g
    ∙ append_assoc none (tal_annotations s (record t { texts = xs }))
    (flat_map (tal_annotations s) n.others) ∙ ap (λ (w : List Annotation). none ++ w) (sym there)
