-- Lists of blocks: what is known of some, and of those after them.
use Rattle.std.proofs.Common.{◌≡◌, ℕ, ◌+◌, ◌-◌, ◌≤◌, Bool, true, ◌&&◌, List, [], ◌∷◌, ◌++◌, length}
use Rattle.std.proofs.Common.{take, drop, arith, refl, sym, ap, ◌∙◌, subst, append_assoc}
use Rattle.std.specs.Prelude.{IsTrue, IsUtf8, ◌↔◌, sum_by}
use Rattle.std.specs.List.{AllByRecursion, flat_map}
use Rattle.std.proofs.lemmas.Grind.{flat_map-append}
use Rattle.std.proofs.lemmas.List.{append-nil, length-append, length-take, take-append-drop}
use Rattle.std.proofs.lemmas.List.{take_at}
use Rattle.std.proofs.lemmas.List.Sums.{sum_by-append, sum_by-cons}
use Rattle.edf_tal.specs.Tal.{Tal, Annotation, AreTalsAndZeros, AreTalBlocks, all_tals}
use Rattle.edf_tal.specs.Tal.{HaveUtf8Texts, IsTalInWindow, tal_annotations}
use Rattle.edf_tal.specs.Condition.{HasNonUtf8TextAt, IsLongestTalPrefix, AreMalformedAt}
use Rattle.edf_tal.specs.Condition.{HaveNonUtf8TextAt}
use Rattle.edf_tal.specs.Inside.Scan.{NoTal, AreZeros, FollowsTals, IsSurvey}
use Rattle.edf_tal.specs.Inside.Blocks.{HaveSums, HasForm}
use Rattle.edf_tal.specs.declared.blocks.Sums.{Sums}
use Rattle.edf_tal.specs.declared.blocks.Form.{Form}
use Rattle.edf_tal.specs.declared.blocks.Form.TheVariants.{Good, BadText}
use Rattle.edf_tal.proofs.Fronts.{longest}
use Rattle.edf_tal.proofs.OneBlock.{same-tals, zeros-no-tal}
use Rattle.edf_tal.proofs.BadText.{good-block, one-bad-text}
use Rattle.edf_tal.proofs.Totals.{text_bytes, length-tals, both-true}

-- ---- all of a list

pub all-append : {A : Type 0} (P : A → Type 0) (xs ys : List A) → AllByRecursion P xs →
    AllByRecursion P ys → AllByRecursion P (xs ++ ys)
all-append P [] ys p q = q
all-append P (x ∷ xs) ys p q = (p.0, all-append P xs ys p.1 q)

pub all-front : {A : Type 0} (P : A → Type 0) (xs ys : List A) → AllByRecursion P (xs ++ ys) →
    AllByRecursion P xs
all-front P [] ys p = tt
all-front P (x ∷ xs) ys p = (p.0, all-front P xs ys p.1)

pub all-back : {A : Type 0} (P : A → Type 0) (xs ys : List A) → AllByRecursion P (xs ++ ys) →
    AllByRecursion P ys
all-back P [] ys p = p
all-back P (x ∷ xs) ys p = all-back P xs ys p.1

-- each text of the TAL is UTF-8
abbrev IsGood : Tal → Type 0
IsGood t = AllByRecursion IsUtf8 t.texts

-- ---- blocks that are TALs and zeros

pub lists-append : (bs cs : List (List ℕ)) (ts us : List (List Tal)) → AreTalBlocks bs ts →
    AreTalBlocks cs us → AreTalBlocks (bs ++ cs) (ts ++ us)
lists-append [] cs [] us p q = q
lists-append [] cs (t ∷ ts) us p q = absurd p
lists-append (b ∷ bs) cs [] us p q = absurd p
lists-append (b ∷ bs) cs (t ∷ ts) us p q = (p.0, lists-append bs cs ts us p.1 q)

pub all_tals-append : (ts us : List (List Tal)) → all_tals (ts ++ us) ≡ all_tals ts ++ all_tals us
all_tals-append ts us = flat_map-append (λ (t : List Tal). t) ts us

pub notes-append : (s : ℕ) (ts us : List (List Tal)) →
    flat_map (tal_annotations s) (all_tals (ts ++ us)) ≡ flat_map (tal_annotations s) (all_tals ts)
    ++ flat_map (tal_annotations s) (all_tals us)
notes-append s ts us = ap (flat_map (tal_annotations s)) (all_tals-append ts us)
    ∙ flat_map-append (tal_annotations s) (all_tals ts) (all_tals us)

pub all_tals-one : (ts : List Tal) → ts ≡ all_tals (ts ∷ [])
all_tals-one ts = sym (append-nil ts)

-- the TALs of a block among others
block-at : (front back : List (List ℕ)) (b : List ℕ) (tss : List (List Tal)) →
    AreTalBlocks (front ++ b ∷ back) tss → (ts : List Tal) × AreTalsAndZeros b ts
block-at [] back b [] l = absurd l
block-at [] back b (ts ∷ tss) l = (ts, l.0)
block-at (f ∷ front) back b [] l = absurd l
block-at (f ∷ front) back b (ts ∷ tss) l = block-at front back b tss l.1

pub not-broken : (bs : List (List ℕ)) (tss : List (List Tal)) (at : ℕ) → AreTalBlocks bs tss →
    AreMalformedAt bs at → ⊥
not-broken bs tss at l h =
    let b = block-at h.prefix h.suffix h.block tss
    (subst (λ (x : List (List ℕ)). AreTalBlocks x tss) h.parts l) in
    h.broken b.0 b.1

-- each of them is
pub each-whole : (bs : List (List ℕ)) (tss : List (List Tal)) → AreTalBlocks bs tss →
    AllByRecursion (λ (b : List ℕ). (ts : List Tal) × AreTalsAndZeros b ts) bs
each-whole [] tss l = tt
each-whole (b ∷ bs) [] l = absurd l
each-whole (b ∷ bs) (ts ∷ tss) l = ((ts, l.0), each-whole bs tss l.1)

-- where all texts are UTF-8, no block has one that is not
pub each-good : (bs : List (List ℕ)) (tss : List (List Tal)) → AreTalBlocks bs tss →
    HaveUtf8Texts (all_tals tss) →
    AllByRecursion (λ (b : List ℕ). (at : ℕ) → ¬ HasNonUtf8TextAt b at) bs
each-good [] tss l g = tt
each-good (b ∷ bs) [] l g = absurd l
each-good (b ∷ bs) (ts ∷ tss) l g = (
  λ at bad. good-block b ts at l.0 (all-front IsGood ts (all_tals tss) g) bad,
  each-good bs tss l.1 (all-back IsGood ts (all_tals tss) g),
)

block-in : (front back : List (List ℕ)) (b : List ℕ) (P : List ℕ → Type 0) →
    AllByRecursion P (front ++ b ∷ back) → P b
block-in front back b P a = (all-back P front (b ∷ back) a).0

pub not-bad : (bs : List (List ℕ)) (tss : List (List Tal)) (at : ℕ) → AreTalBlocks bs tss →
    HaveUtf8Texts (all_tals tss) → HaveNonUtf8TextAt bs at → ⊥
not-bad bs tss at l g h =
    let P = λ (b : List ℕ). (at : ℕ) → ¬ HasNonUtf8TextAt b at in
    block-in h.prefix h.suffix h.block P (subst (AllByRecursion P) h.parts (each-good bs tss l g))
    h.offset h.bad

-- ---- the first block that is not right

pub record SameBlock (f g : List (List ℕ)) (b c : List ℕ) : Type 0 where
  pub prefix : f ≡ g
  pub block : b ≡ c

first-without : (P : List ℕ → Type 0) (f g x y : List (List ℕ)) (b c : List ℕ) →
    AllByRecursion P f → AllByRecursion P g → ¬ P b → ¬ P c
    → f ++ b ∷ x ≡ g ++ c ∷ y → SameBlock f g b c
first-without P [] [] x y b c p q fails fails' e = record { prefix = refl; block = cc }
first-without P [] (h ∷ g) x y b c p q fails fails' e =
    absurd (fails (subst P (let same : h ≡ b = cc in same) q.0))
first-without P (h ∷ f) [] x y b c p q fails fails' e =
    absurd (fails' (subst P (let same : h ≡ c = cc in same) p.0))
first-without P (h ∷ f) (k ∷ g) x y b c p q fails fails' e =
    let first : h ≡ k = cc in
    let rest : f ++ b ∷ x ≡ g ++ c ∷ y = cc in
    let s = first-without P f g x y b c p.1 q.1 fails fails' rest in
    let more : f ≡ g = s.prefix in
    record { prefix = cc; block = s.block }

one-offset : (b : List ℕ) (m n : ℕ) → IsLongestTalPrefix b m → IsLongestTalPrefix b n → m ≡ n
one-offset b m n p q =
    let up = p.longest n q.tals q.within q.prefix in
    let down = q.longest m p.tals p.within p.prefix in
    omega arith

pub one-broken : (bs : List (List ℕ)) (m n : ℕ) → AreMalformedAt bs m → AreMalformedAt bs n → m ≡ n
one-broken bs m n h k =
    let s = first-without (λ (b : List ℕ). (ts : List Tal) × AreTalsAndZeros b ts) h.prefix k.prefix
    h.suffix k.suffix h.block k.block (each-whole h.prefix h.whole.0 h.whole.1) (each-whole k.prefix
    k.whole.0 k.whole.1) (λ w. h.broken w.0 w.1) (λ w. k.broken w.0 w.1) (sym h.parts ∙ k.parts) in
    let offset : h.offset ≡ k.offset =
    one-offset h.block h.offset k.offset h.longest
    (subst (λ (b : List ℕ). IsLongestTalPrefix b k.offset) (sym s.block) k.longest) in
    let left : m ≡ sum_by length h.prefix + h.offset = h.at_is in
    let right : n ≡ sum_by length k.prefix + k.offset = k.at_is in
    let before : sum_by length h.prefix ≡ sum_by length k.prefix = ap (sum_by length) s.prefix in
    omega arith

pub one-bad-place : (bs : List (List ℕ)) (m n : ℕ) → HaveNonUtf8TextAt bs m →
    HaveNonUtf8TextAt bs n → m ≡ n
one-bad-place bs m n h k =
    let s = first-without (λ (b : List ℕ). (at : ℕ) → ¬ HasNonUtf8TextAt b at) h.prefix k.prefix
    h.suffix k.suffix h.block k.block
    (each-good h.prefix h.good.0 h.good.1 h.good.2) (each-good k.prefix k.good.0 k.good.1 k.good.2)
    (λ none. none h.offset h.bad) (λ none. none k.offset k.bad) (sym h.parts ∙ k.parts) in
    let offset : h.offset ≡ k.offset =
    one-bad-text h.block h.offset k.offset h.bad
    (subst (λ (b : List ℕ). HasNonUtf8TextAt b k.offset) (sym s.block) k.bad) in
    let left : m ≡ sum_by length h.prefix + h.offset = h.at_is in
    let right : n ≡ sum_by length k.prefix + k.offset = k.at_is in
    let before : sum_by length h.prefix ≡ sum_by length k.prefix = ap (sum_by length) s.prefix in
    omega arith

-- ---- blocks, and those after them

pub broken-front : (bs cs : List (List ℕ)) (at : ℕ) → AreMalformedAt bs at →
    AreMalformedAt (bs ++ cs) at
broken-front bs cs at h = record {
  prefix = h.prefix;
  block = h.block;
  suffix = h.suffix ++ cs;
  offset = h.offset;
  parts = ap (λ (x : List (List ℕ)). x ++ cs) h.parts
      ∙ append_assoc h.prefix (h.block ∷ h.suffix) cs;
  whole = h.whole;
  broken = h.broken;
  longest = h.longest;
  at_is = h.at_is;
}

pub broken-back : (bs cs : List (List ℕ)) (tss : List (List Tal)) (at : ℕ) → AreTalBlocks bs tss →
    AreMalformedAt cs at → AreMalformedAt (bs ++ cs) (sum_by length bs + at)
broken-back bs cs tss at l h = record {
  prefix = bs ++ h.prefix;
  block = h.block;
  suffix = h.suffix;
  offset = h.offset;
  parts = ap (λ (x : List (List ℕ)). bs ++ x) h.parts
      ∙ sym (append_assoc bs h.prefix (h.block ∷ h.suffix));
  whole = (tss ++ h.whole.0, lists-append bs h.prefix tss h.whole.0 l h.whole.1);
  broken = h.broken;
  longest = h.longest;
  at_is = let p : at ≡ sum_by length h.prefix + h.offset = h.at_is in
      omega (arith, sum_by-append length bs h.prefix);
}

pub bad-front : (bs cs : List (List ℕ)) (at : ℕ) → HaveNonUtf8TextAt bs at →
    HaveNonUtf8TextAt (bs ++ cs) at
bad-front bs cs at h = record {
  prefix = h.prefix;
  block = h.block;
  suffix = h.suffix ++ cs;
  offset = h.offset;
  parts = ap (λ (x : List (List ℕ)). x ++ cs) h.parts
      ∙ append_assoc h.prefix (h.block ∷ h.suffix) cs;
  good = h.good;
  bad = h.bad;
  at_is = h.at_is;
}

pub bad-back : (bs cs : List (List ℕ)) (s : ℕ) (sums : Sums) (at : ℕ) → HaveSums bs s sums →
    HaveNonUtf8TextAt cs at → HaveNonUtf8TextAt (bs ++ cs) (sum_by length bs + at)
bad-back bs cs s sums at v h = record {
  prefix = bs ++ h.prefix;
  block = h.block;
  suffix = h.suffix;
  offset = h.offset;
  parts = ap (λ (x : List (List ℕ)). bs ++ x) h.parts
      ∙ sym (append_assoc bs h.prefix (h.block ∷ h.suffix));
  good = (
    v.tals ++ h.good.0,
    lists-append bs h.prefix v.tals h.good.0 v.lists h.good.1,
    rw (all_tals-append v.tals h.good.0)
        (all-append IsGood (all_tals v.tals) (all_tals h.good.0) v.good h.good.2),
  );
  bad = h.bad;
  at_is = let p : at ≡ sum_by length h.prefix + h.offset = h.at_is in
      omega (arith, sum_by-append length bs h.prefix);
}

abbrev pub both : Sums → Sums → Sums
both a b = record {
  in_window = a.in_window && b.in_window;
  count = a.count + b.count;
  text_bytes =
      a.text_bytes + b.text_bytes;
}

pub surveyed-append : (bs cs : List (List ℕ)) (s : ℕ) (a b : Sums) → HaveSums bs s a →
    HaveSums cs s b → HaveSums (bs ++ cs) s (both a b)
surveyed-append bs cs s a b v w =
    let tals = all_tals-append v.tals w.tals in
    let notes = notes-append s v.tals w.tals in
    let count : a.count ≡ length (flat_map (tal_annotations s) (all_tals v.tals)) = v.count_is in
    let more : b.count ≡ length (flat_map (tal_annotations s) (all_tals w.tals)) = w.count_is in
    let bytes : a.text_bytes ≡ text_bytes (flat_map (tal_annotations s) (all_tals v.tals)) =
    v.bytes_is in
    let more-bytes : b.text_bytes ≡ text_bytes (flat_map (tal_annotations s) (all_tals w.tals)) =
    w.bytes_is in
    let are = both-true a.in_window b.in_window in
    record {
      tals = v.tals ++ w.tals;
      lists = lists-append bs cs v.tals w.tals v.lists w.lists;
      good = rw tals (all-append IsGood (all_tals v.tals) (all_tals w.tals) v.good w.good);
      window = rw tals (
        λ h. let p = are.0 h in all-append (IsTalInWindow s) (all_tals v.tals) (all_tals w.tals)
            (v.window.0 p.0) (w.window.0 p.1),
        λ h. are.1 (
          v.window.1 (all-front (IsTalInWindow s) (all_tals v.tals) (all_tals w.tals) h),
          w.window.1 (all-back (IsTalInWindow s) (all_tals v.tals) (all_tals w.tals) h),
        ),
      );
      count_is = rw notes (omega (
        arith,
        length-append (flat_map (tal_annotations s) (all_tals v.tals))
            (flat_map (tal_annotations s) (all_tals w.tals)),
      ));
      bytes_is = rw notes (omega (
        arith,
        sum_by-append (λ (x : Annotation). length x.text)
            (flat_map (tal_annotations s) (all_tals v.tals))
            (flat_map (tal_annotations s) (all_tals w.tals)),
      ));
    }

-- which lists of TALs blocks of this form are
pub form-lists : (bs : List (List ℕ)) (s : ℕ) (f : Form) → HasForm bs s f → (tss : List (List Tal))
    × AreTalBlocks bs tss
form-lists bs s (Good sums) v = (v.tals, v.lists)
form-lists bs s (BadText at) h = h.0

pub lists-both : (bs cs : List (List ℕ)) → ((ts : List (List Tal)) × AreTalBlocks bs ts) →
    ((us : List (List Tal)) × AreTalBlocks cs us) →
    (tss : List (List Tal)) × AreTalBlocks (bs ++ cs) tss
lists-both bs cs p q = (p.0 ++ q.0, lists-append bs cs p.0 q.0 p.1 q.1)

pub form-append : (bs cs : List (List ℕ)) (s : ℕ) (f g : Form) → HasForm bs s f → HasForm cs s g →
    (h : Form) × HasForm (bs ++ cs) s h
form-append bs cs s (Good a) (Good b) p q = (Good (both a b), surveyed-append bs cs s a b p q)
form-append bs cs s (Good a) (BadText at) p q = (
  BadText (sum_by length bs + at),
  (lists-both bs cs (p.tals, p.lists) q.0, bad-back bs cs s a at p q.1),
)
form-append bs cs s (BadText at) g p q =
    (BadText at, (lists-both bs cs p.0 (form-lists cs s g q), bad-front bs cs at p.1))

-- ---- one block

-- the front of TALs is the longest, and what is after it would be the zeros
not-block : (block rest : List ℕ) → FollowsTals block rest → NoTal rest → ¬ AreZeros rest →
    (ts : List Tal) → ¬ AreTalsAndZeros block ts
not-block block rest b last not-zeros ts (front, zeros, parts, tals, are) =
    not-zeros (rw (same-tals b.tals ts b.prefix rest front zeros b.whole tals last
    (zeros-no-tal zeros are) (sym b.parts ∙ parts)).rest are)

longest-front : (block rest : List ℕ) → FollowsTals block rest → NoTal rest →
    IsLongestTalPrefix block (length block - length rest)
longest-front block rest b last =
    let len : length block - length rest ≡ length b.prefix =
    omega (arith, ap length b.parts, length-append b.prefix rest) in
    rw len (record {
      tals = b.tals;
      within = omega (arith, ap length b.parts, length-append b.prefix rest);
      prefix = rw (b.parts, take_at b.prefix rest (length b.prefix) refl) b.whole;
      longest = λ m others low others-are.
          let s = longest b.tals others b.prefix rest (take m block) (drop m block) b.whole last
          others-are (sym b.parts ∙ sym (take-append-drop m block)) in
          omega (arith, s, length-take m block);
    })

pub broken-one : (block rest : List ℕ) → FollowsTals block rest → NoTal rest → ¬ AreZeros rest →
    AreMalformedAt (block ∷ []) (length block - length rest)
broken-one block rest b last not-zeros = record {
  prefix = [];
  block = block;
  suffix = [];
  offset = length block - length rest;
  parts = refl;
  whole = ([], tt);
  broken = not-block block rest b last not-zeros;
  longest = longest-front block rest b last;
  at_is = omega arith;
}

pub form-bad : (block rest : List ℕ) (s at : ℕ) → FollowsTals block rest → AreZeros rest →
    HasNonUtf8TextAt block at → HasForm (block ∷ []) s (BadText at)
form-bad block rest s at b zeros bad = (
  (b.tals ∷ [], ((b.prefix, rest, b.parts, b.whole, zeros), tt)),
  record {
    prefix = [];
    block = block;
    suffix = [];
    offset = at;
    parts = refl;
    good = ([], tt, tt);
    bad = bad;
    at_is = omega arith;
  },
)

pub surveyed-one : (block rest : List ℕ) (s : ℕ) (in_window : Bool) (count bytes : ℕ) →
    IsSurvey block s rest in_window count bytes → AreZeros rest → HaveSums (block ∷ []) s (record {
      in_window = in_window;
      count = count;
      text_bytes =
          bytes;
    })
surveyed-one block rest s in_window count bytes v zeros =
    let one = all_tals-one v.tals in
    record {
      tals = v.tals ∷ [];
      lists = ((v.prefix, rest, v.parts, v.whole, zeros), tt);
      good = subst HaveUtf8Texts one v.good;
      window = subst (λ (ts : List Tal). IsTrue in_window ↔ AllByRecursion (IsTalInWindow s) ts) one
          v.window;
      count_is = v.count_is ∙ ap (λ (ts : List Tal). length (flat_map (tal_annotations s) ts)) one;
      bytes_is = v.bytes_is ∙ ap (λ (ts : List Tal). text_bytes (flat_map (tal_annotations s) ts))
          one;
    }

pub surveyed-none : (s : ℕ) → HaveSums [] s (record { in_window = true; count = 0; text_bytes = 0 })
surveyed-none s = record {
  tals = [];
  lists = tt;
  good = tt;
  window = (λ h. tt, λ h. refl);
  count_is = refl;
  bytes_is = refl;
}

-- ---- how much there is

lists-room : (s : ℕ) (bs : List (List ℕ)) (tss : List (List Tal)) → AreTalBlocks bs tss
    → length (flat_map (tal_annotations s) (all_tals tss)) + text_bytes
    (flat_map (tal_annotations s) (all_tals tss)) ≤ sum_by length bs
lists-room s [] [] l = omega arith
lists-room s [] (ts ∷ tss) l = absurd l
lists-room s (b ∷ bs) [] l = absurd l
lists-room s (b ∷ bs) (ts ∷ tss) ((front, zeros, parts, tals, are), more) =
    let notes : flat_map (tal_annotations s) (ts ++ all_tals tss) ≡ flat_map (tal_annotations s) ts
    ++ flat_map (tal_annotations s) (all_tals tss) =
    flat_map-append (tal_annotations s) ts (all_tals tss) in
    rw notes (omega (
      arith,
      lists-room s bs tss more,
      length-tals s front ts tals,
      ap length parts,
      length-append front zeros,
      length-append (flat_map (tal_annotations s) ts) (flat_map (tal_annotations s) (all_tals tss)),
      sum_by-append (λ (a : Annotation). length a.text) (flat_map (tal_annotations s) ts)
          (flat_map (tal_annotations s) (all_tals tss)),
      sum_by-cons length b bs,
    ))

pub surveyed-room : (bs : List (List ℕ)) (s : ℕ) (sums : Sums) → HaveSums bs s sums →
    sums.count + sums.text_bytes ≤ sum_by length bs
surveyed-room bs s sums v =
    let c : sums.count ≡ length (flat_map (tal_annotations s) (all_tals v.tals)) = v.count_is in
    let b : sums.text_bytes ≡ text_bytes (flat_map (tal_annotations s) (all_tals v.tals)) =
    v.bytes_is in
    omega (arith, lists-room s bs v.tals v.lists)

pub broken-room : (bs : List (List ℕ)) (at : ℕ) → AreMalformedAt bs at → at ≤ sum_by length bs
broken-room bs at h =
    let low : h.offset ≤ length h.block = h.longest.within in
    let here : at ≡ sum_by length h.prefix + h.offset = h.at_is in
    omega (
      arith,
      ap (sum_by length) h.parts,
      sum_by-append length h.prefix (h.block ∷ h.suffix),
      sum_by-cons length h.block h.suffix,
    )
