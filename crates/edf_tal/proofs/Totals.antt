-- One after another, the TALs of a block.
use Rattle.std.proofs.Common.{◌≡◌, ℕ, ◌+◌, ◌-◌, ◌≤◌, ◌<◌, Bool, true, false, ◌&&◌, List, [], ◌∷◌}
use Rattle.std.proofs.Common.{◌++◌, length, map, arith, refl, sym, ap, ◌∙◌, subst, append_assoc}
use Rattle.std.proofs.Common.{Option, Some, None}
use Rattle.std.specs.Prelude.{IsTrue, IsUtf8, sum_by, IfSome, ◌↔◌}
use Rattle.std.specs.List.{AllByRecursion, flat_map}
use Rattle.std.proofs.lemmas.List.{append-nil, length-append, length-map}
use Rattle.std.proofs.lemmas.List.Sums.{sum_by-append, sum_by-cons}
use Rattle.edf_time.specs.Civil.{window}
use Rattle.edf_tal.specs.Tal.{Tal, Annotation, IsText, terminated, AreTals, IsTalInWindow, instant}
use Rattle.edf_tal.specs.Tal.{tal_annotations}
use Rattle.edf_tal.specs.Condition.{HasNonUtf8TextAt}
use Rattle.edf_tal.specs.Inside.Scan.{Lacks, IsCappedDuration, IsLeadingTal, HasNonUtf8TextAmong}
use Rattle.edf_tal.specs.Inside.Scan.{BeginWithUtf8Texts, FollowsTals, IsSurvey}
use Rattle.edf_tal.proofs.Unique.{same-sides, not-both, Lacks-text}
use Rattle.edf_tal.proofs.Fronts.{AreTals-more, NoZero-ended}
use Rattle.edf_tal.proofs.OneBlock.{tal-sides}
use Rattle.edf_tal.proofs.BadText.{IsBadFront, bad-join, first-text}
use Rattle.edf_tal.proofs.Surveys.{all-more}

-- a duration
pub duration-tells : (d e : Option ℕ) → IsCappedDuration d e → IfSome d (λ n. n < window) →
    IfSome e (λ n. n < window)
duration-tells None None t h = tt
duration-tells (Some n) (Some m) t h = omega arith
duration-tells None (Some m) t h = absurd t
duration-tells (Some n) None t h = absurd t

pub duration-told : (d e : Option ℕ) → IsCappedDuration d e → IfSome e (λ n. n < window) →
    IfSome d (λ n. n < window)
duration-told None None t h = tt
duration-told (Some n) (Some m) t h = omega arith
duration-told None (Some m) t h = absurd t
duration-told (Some n) None t h = absurd t

-- one TAL more
pub after-none : (bytes : List ℕ) → FollowsTals bytes bytes
after-none bytes = record { prefix = []; tals = []; parts = refl; whole = refl }

pub after-more : (bytes rest texts more : List ℕ) (t : Tal) → FollowsTals bytes rest →
    IsLeadingTal rest texts more t → FollowsTals bytes more
after-more bytes rest texts more t b f = record {
  prefix = b.prefix ++ f.prefix;
  tals = b.tals ++ t ∷ [];
  parts = b.parts ∙ ap (λ (w : List ℕ). b.prefix ++ w) f.parts
      ∙ sym (append_assoc b.prefix f.prefix more);
  whole = AreTals-more b.prefix f.prefix b.tals t b.whole f.tal;
}

AreTals-append : (a b : List ℕ) (ts us : List Tal) → AreTals a ts → AreTals b us →
    AreTals (a ++ b) (ts ++ us)
AreTals-append a b [] us p q = rw p q
AreTals-append a b (t ∷ ts) us (f, r, parts, is, more) q = (
  f,
  r ++ b,
  ap (λ (x : List ℕ). x ++ b) parts ∙ append_assoc f r b,
  is,
  AreTals-append r b ts us more q,
)

pub after-after : (bytes rest more : List ℕ) → FollowsTals bytes rest → FollowsTals rest more →
    FollowsTals bytes more
after-after bytes rest more b c = record {
  prefix = b.prefix ++ c.prefix;
  tals = b.tals ++ c.tals;
  parts = b.parts ∙ ap (λ (w : List ℕ). b.prefix ++ w) c.parts
      ∙ sym (append_assoc b.prefix c.prefix more);
  whole = AreTals-append b.prefix c.prefix b.tals c.tals b.whole c.whole;
}

pub front-shorter : (bytes texts rest : List ℕ) (t : Tal) → IsLeadingTal bytes texts rest t →
    length rest + length texts + 2 ≤ length bytes
front-shorter bytes texts rest t f =
    omega (
      arith,
      ap length f.parts,
      ap length f.texts_are,
      ap length f.tal.parts,
      length-append f.prefix rest,
      length-append ((f.tal.onset ++ f.tal.duration) ++ 20 ∷ terminated t.texts) (0 ∷ []),
      length-append (f.tal.onset ++ f.tal.duration) (20 ∷ terminated t.texts),
    )

-- the texts that were counted are those of the TAL
same-list : (xs ys : List (List ℕ)) (rest : List ℕ) →
    AllByRecursion (λ x. Lacks 20 x × IsUtf8 x) xs → Lacks 20 rest → AllByRecursion IsText ys
    → terminated xs ++ rest ≡ terminated ys → xs ≡ ys
same-list [] [] rest a l b e = refl
same-list [] (y ∷ ys) rest a l b e =
    absurd (not-both 20 rest y (terminated ys) l (e ∙ append_assoc y (20 ∷ []) (terminated ys)))
same-list (x ∷ xs) [] rest a l b e =
    absurd (not-both 20 [] x (terminated xs ++ rest) tt (sym e ∙ first-text x xs rest))
same-list (x ∷ xs) (y ∷ ys) rest a l b e =
    let s = same-sides 20 x y (terminated xs ++ rest) (terminated ys) a.0.0 (Lacks-text y b.0)
    (sym (first-text x xs rest) ∙ e ∙ append_assoc y (20 ∷ []) (terminated ys)) in
    let first : x ≡ y = s.prefix in
    let more : xs ≡ ys = same-list xs ys rest a.1 l b.1 s.suffix in
    cc

all-utf8 : (xs : List (List ℕ)) → AllByRecursion (λ x. Lacks 20 x × IsUtf8 x) xs →
    AllByRecursion IsUtf8 xs
all-utf8 [] a = tt
all-utf8 (x ∷ xs) a = (a.0.1, all-utf8 xs a.1)

pub record Counted (t : Tal) (count : ℕ) : Type 0 where
  pub good : AllByRecursion IsUtf8 t.texts
  pub count_is : count ≡ length t.texts

pub counted : (texts rest bytes : List ℕ) (t : Tal) (count : ℕ) → IsLeadingTal bytes texts rest t →
    BeginWithUtf8Texts texts count → Counted t count
counted texts rest bytes t count f g =
    let same = same-list g.list t.texts g.rest g.good g.is_rest f.tal.are_texts (sym g.parts
    ∙ f.texts_are) in
    record {
      good = subst (AllByRecursion IsUtf8) same (all-utf8 g.list g.good);
      count_is =
          g.count_is ∙ ap length same;
    }

-- how many bytes texts and their ends have
length-ended-is : (xs : List (List ℕ)) → length (terminated xs) ≡ length xs + sum_by length xs
length-ended-is [] = refl
length-ended-is (x ∷ xs) = omega (
  arith,
  length-ended-is xs,
  length-append (x ++ 20 ∷ []) (terminated xs),
  length-append x (20 ∷ []),
  sum_by-cons length x xs,
)

-- the annotations of a TAL have its texts
abbrev pub note_of : ℕ → Option ℕ → List ℕ → Annotation
note_of onset duration text = record { onset = onset; duration = duration; text = text }

abbrev pub text_bytes : List Annotation → ℕ
text_bytes list = sum_by (λ (a : Annotation). length a.text) list

sum-texts : (onset : ℕ) (duration : Option ℕ) (xs : List (List ℕ)) →
    text_bytes (map (note_of onset duration) xs) ≡ sum_by length xs
sum-texts onset duration [] = refl
sum-texts onset duration (x ∷ xs) =
    sum_by-cons (λ (a : Annotation). length a.text) (note_of onset duration x)
    (map (note_of onset duration) xs)
    ∙ ap (λ (n : ℕ). length x + n) (sum-texts onset duration xs) ∙ sym (sum_by-cons length x xs)

flat_map-append : (s : ℕ) (ts : List Tal) (t : Tal) →
    flat_map (tal_annotations s) (ts ++ t ∷ []) ≡ flat_map (tal_annotations s) ts
    ++ tal_annotations s t
flat_map-append s [] t = append-nil (tal_annotations s t)
flat_map-append s (u ∷ ts) t = ap (λ (w : List Annotation). tal_annotations s u
    ++ w) (flat_map-append s ts t) ∙ sym (append_assoc (tal_annotations s u) (flat_map
    (tal_annotations s) ts) (tal_annotations s t))

length-annotations : (s : ℕ) (t : Tal) → length (tal_annotations s t) ≡ length t.texts
length-annotations s t = length-map t.texts (note_of (instant s t.onset) t.duration)

bytes-annotations : (s : ℕ) (t : Tal) → text_bytes (tal_annotations s t) ≡ sum_by length t.texts
bytes-annotations s t = sum-texts (instant s t.onset) t.duration t.texts

-- all of them keep the window, where those before do and this one does
window-more : (s : ℕ) (ts : List Tal) (t : Tal) → AllByRecursion (IsTalInWindow s) (ts ++ t ∷ []) →
    AllByRecursion (IsTalInWindow s) ts × IsTalInWindow s t
window-more s [] t a = (tt, a.0)
window-more s (u ∷ ts) t a = let r = window-more s ts t a.1 in ((a.0, r.0), r.1)

pub survey-none : (block : List ℕ) (s : ℕ) → IsSurvey block s block true 0 0
survey-none block s = record {
  prefix = [];
  tals = [];
  parts = refl;
  whole = refl;
  good = tt;
  window = (λ h. tt, λ h. refl);
  count_is = refl;
  bytes_is = refl;
}

pub survey-more : (block rest texts more : List ℕ) (s : ℕ) (t : Tal) (in_window next is : Bool)
    (count bytes n m : ℕ) → IsSurvey block s rest in_window count bytes → IsLeadingTal rest texts
    more t → BeginWithUtf8Texts texts n → (IsTrue is ↔ IsTalInWindow s t) → (IsTrue next ↔ (IsTrue
    in_window × IsTrue is)) → n + m ≡ length texts → IsSurvey block s more next (count + n) (bytes +
    m)
survey-more block rest texts more s t in_window next is count bytes n m v f g one both sum =
    let c = counted texts more rest t n f g in
    let b = after-more block rest texts more t
    (record { prefix = v.prefix; tals = v.tals; parts = v.parts; whole = v.whole }) f in
    let list = flat_map-append s v.tals t in
    let before : count ≡ length (flat_map (tal_annotations s) v.tals) = v.count_is in
    let bytes-before : bytes ≡ text_bytes (flat_map (tal_annotations s) v.tals) = v.bytes_is in
    let here : n ≡ length t.texts = c.count_is in
    let texts-are : length texts ≡ length t.texts + sum_by length t.texts = ap length f.texts_are
    ∙ length-ended-is t.texts in
    record {
      prefix = v.prefix ++ f.prefix;
      tals = v.tals ++ t ∷ [];
      parts = v.parts ∙ ap (λ (w : List ℕ). v.prefix ++ w) f.parts
          ∙ sym (append_assoc v.prefix f.prefix more);
      whole = AreTals-more v.prefix f.prefix v.tals t v.whole f.tal;
      good = all-more (λ (t : Tal). AllByRecursion IsUtf8 t.texts) v.tals t v.good c.good;
      window = (
        λ h. let p = both.0 h in all-more (IsTalInWindow s) v.tals t (v.window.0 p.0) (one.0 p.1),
        λ a. let r = window-more s v.tals t a in both.1 (v.window.1 r.0, one.1 r.1),
      );
      count_is = rw list (omega (
        arith,
        length-append (flat_map (tal_annotations s) v.tals) (tal_annotations s t),
        length-annotations s t,
      ));
      bytes_is = rw list (omega (
        arith,
        sum_by-append (λ (a : Annotation). length a.text) (flat_map (tal_annotations s) v.tals)
            (tal_annotations s t),
        bytes-annotations s t,
      ));
    }

pub length-tals : (s : ℕ) (front : List ℕ) (ts : List Tal) → AreTals front ts →
    length (flat_map (tal_annotations s) ts) + text_bytes (flat_map (tal_annotations s) ts) ≤ length
    front
length-tals s front [] a = omega arith
length-tals s front (t ∷ ts) (f, r, parts, is, more) =
    omega (
      arith,
      length-tals s r ts more,
      ap length parts,
      length-append f r,
      ap length is.parts,
      length-ended-is t.texts,
      length-append ((is.onset ++ is.duration) ++ 20 ∷ terminated t.texts) (0 ∷ []),
      length-append (is.onset ++ is.duration) (20 ∷ terminated t.texts),
      length-append (tal_annotations s t) (flat_map (tal_annotations s) ts),
      length-annotations s t,
      sum_by-append (λ (a : Annotation). length a.text) (tal_annotations s t)
          (flat_map (tal_annotations s) ts),
      bytes-annotations s t,
    )

pub survey-room : (block rest : List ℕ) (s : ℕ) (in_window : Bool) (count bytes : ℕ) →
    IsSurvey block s rest in_window count bytes → count + bytes + length rest ≤ length block
survey-room block rest s in_window count bytes v =
    let c : count ≡ length (flat_map (tal_annotations s) v.tals) = v.count_is in
    let b : bytes ≡ text_bytes (flat_map (tal_annotations s) v.tals) = v.bytes_is in
    omega (
      arith,
      length-tals s v.prefix v.tals v.whole,
      ap length v.parts,
      length-append v.prefix rest,
    )

pub good-count : (texts : List ℕ) (n : ℕ) → BeginWithUtf8Texts texts n → n ≤ length texts
good-count texts n g =
    let c : n ≡ length g.list = g.count_is in
    omega (
      arith,
      ap length g.parts,
      length-append (terminated g.list) g.rest,
      length-ended-is g.list,
    )

-- texts without a byte 0
Lacks-front : (c : ℕ) (a b : List ℕ) → Lacks c (a ++ b) → Lacks c a
Lacks-front c [] b p = tt
Lacks-front c (x ∷ a) b p = (p.0, Lacks-front c a b p.1)

pub Lacks-back : (c : ℕ) (a b : List ℕ) → Lacks c (a ++ b) → Lacks c b
Lacks-back c [] b p = p
Lacks-back c (x ∷ a) b p = Lacks-back c a b p.1

is-text : (x : List ℕ) → Lacks 0 x → Lacks 20 x → IsText x
is-text [] p q = tt
is-text (b ∷ x) p q = ((p.0, q.0), is-text x p.1 q.1)

good-texts : (xs : List (List ℕ)) → Lacks 0 (terminated xs) →
    AllByRecursion (λ x. Lacks 20 x × IsUtf8 x) xs → AllByRecursion (λ x. IsText x × IsUtf8 x) xs
good-texts [] p a = tt
good-texts (x ∷ xs) p a = (
  (
    is-text x (Lacks-front 0 x (20 ∷ []) (Lacks-front 0 (x ++ 20 ∷ []) (terminated xs) p)) a.0.0,
    a.0.1,
  ),
  good-texts xs (Lacks-back 0 (x ++ 20 ∷ []) (terminated xs) p) a.1,
)

bad-front : (rest texts more : List ℕ) (t : Tal) (at : ℕ) (f : IsLeadingTal rest texts more t) →
    HasNonUtf8TextAmong texts at
    → IsBadFront rest (length f.tal.onset + length f.tal.duration + 1 + at)
bad-front rest texts more t at f b =
    let none : Lacks 0 (terminated b.good ++ (b.text ++ 20 ∷ b.suffix)) =
    subst (Lacks 0) b.parts (rw (f.texts_are) (NoZero-ended t.texts f.tal.are_texts)) in
    record {
      onset = f.tal.onset;
      duration = f.tal.duration;
      good = b.good;
      text = b.text;
      suffix = b.suffix ++ 0 ∷ more;
      parts = f.parts ∙ tal-sides f.prefix more t f.tal
          ∙ ap (λ (w : List ℕ). (f.tal.onset ++ f.tal.duration)
          ++ 20 ∷ (w ++ 0 ∷ more)) (sym f.texts_are ∙ b.parts) ∙ simp append_assoc;
      is_onset = (t.onset, f.tal.is_onset);
      is_duration = (t.duration, f.tal.is_duration);
      good_texts = good-texts b.good
          (Lacks-front 0 (terminated b.good) (b.text ++ 20 ∷ b.suffix) none) b.good_texts;
      is_text = is-text b.text (Lacks-front 0 b.text (20 ∷ b.suffix)
          (Lacks-back 0 (terminated b.good) (b.text ++ 20 ∷ b.suffix) none)) b.is_text;
      bad = b.bad;
      at_is = let p : at ≡ length (terminated b.good) = b.at_is in omega arith;
    }

-- where the first bad text begins in the block
pub survey-bad : (block rest texts more : List ℕ) (s : ℕ) (t : Tal) (in_window : Bool)
    (count bytes at : ℕ) → IsSurvey block s rest in_window count bytes
    → IsLeadingTal rest texts more t → HasNonUtf8TextAmong texts at →
    HasNonUtf8TextAt block (length block - length more - 1 - length texts + at)
survey-bad block rest texts more s t in_window count bytes at v f b =
    bad-join block v.prefix rest v.tals (length block - length more - 1 - length texts + at)
    (length f.tal.onset + length f.tal.duration + 1 + at) v.parts v.whole v.good
    (bad-front rest texts more t at f b) (omega (
      arith,
      ap length v.parts,
      length-append v.prefix rest,
      ap length f.parts,
      length-append f.prefix more,
      ap length f.texts_are,
      ap length f.tal.parts,
      length-append ((f.tal.onset ++ f.tal.duration) ++ 20 ∷ terminated t.texts) (0 ∷ []),
      length-append (f.tal.onset ++ f.tal.duration) (20 ∷ terminated t.texts),
      length-append f.tal.onset f.tal.duration,
    ))

pub survey-after : (block rest : List ℕ) (s : ℕ) (in_window : Bool) (count bytes : ℕ) →
    IsSurvey block s rest in_window count bytes → FollowsTals block rest
survey-after block rest s in_window count bytes v =
    record { prefix = v.prefix; tals = v.tals; parts = v.parts; whole = v.whole }

pub both-true : (a b : Bool) → IsTrue (a && b) ↔ (IsTrue a × IsTrue b)
both-true true true = (λ h. (refl, refl), λ h. refl)
both-true true false = (λ h. absurd (let e : false ≡ true = h in cc), λ h. h.1)
both-true false b = (λ h. absurd (let e : false ≡ true = h in cc), λ h. h.0)
