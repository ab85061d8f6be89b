-- One after another, the blocks that are cut out of the bytes that they make together.
use Rattle.std.proofs.Common.{◌≡◌, ℕ, suc, get_or, min, add-one, drop-cons, drop_of_length-le, ◌+◌}
use Rattle.std.proofs.Common.{◌-◌, ◌≤◌, ◌<◌, List, [], ◌∷◌, ◌++◌, length, map, take, drop, arith}
use Rattle.std.proofs.Common.{refl, sym, ap, ap₂, ◌∙◌, subst, append_assoc}
use Rattle.std.specs.Prelude.{sum, sum_by, IsUtf8}
use Rattle.std.specs.List.{AllByRecursion, flat_map}
use Rattle.std.proofs.lemmas.Grind.{flat_map-append}
use Rattle.std.proofs.lemmas.List.{append-nil, length-append, length-take, take-append-drop}
use Rattle.std.proofs.lemmas.List.{take_all, take_at, drop_at}
use Rattle.std.proofs.lemmas.List.Sums.{sum_by-append, sum_by-cons, sum_by-drop_more}
use Rattle.edf_tal.specs.Tal.{Tal, Annotation, AreTalBlocks, first_block_tals, all_tals}
use Rattle.edf_tal.specs.Tal.{HaveUtf8Texts}
use Rattle.edf_tal.specs.Tal.{HasTimeKeepingTal, IsTalInWindow, tal_annotations, annotations}
use Rattle.edf_tal.specs.Block.{BlocksParseTo, split_by_sizes}
use Rattle.edf_tal.specs.Condition.{AreMalformedAt}
use Rattle.edf_tal.specs.Inside.Blocks.{HasForm, AreSoundTals, AreSoundBlocks}
use Rattle.edf_tal.specs.declared.blocks.Form.{Form}
use Rattle.edf_tal.specs.declared.place.Place.{Place}
use Rattle.edf_tal.proofs.OneBlock.{one-block}
use Rattle.edf_tal.proofs.Joined.{all-front, all-back, broken-front, broken-back, form-lists}
use Rattle.edf_tal.proofs.FirstTal.{dropped-first}

pub cut-joined : (bs : List (List ℕ)) → split_by_sizes (map length bs) (flat_map (λ b. b) bs) ≡ bs
cut-joined [] = refl
cut-joined (b ∷ bs) =
    let front : take (length b) (b ++ flat_map (λ (b : List ℕ). b) bs) ≡ b =
    take_at b (flat_map (λ (b : List ℕ). b) bs) (length b) refl in
    let back : drop (length b) (b ++ flat_map (λ (b : List ℕ). b) bs) ≡ flat_map (λ (b : List ℕ). b)
    bs = drop_at b (flat_map (λ (b : List ℕ). b) bs) (length b) refl in
    ap₂ (λ (x : List ℕ) (y : List (List ℕ)). x ∷ y) front (ap (split_by_sizes (map length bs)) back
    ∙ cut-joined bs)

-- the first block, and those after it
pub cut-first : (sizes block : List ℕ) → 1 ≤ length sizes →
    split_by_sizes sizes block ≡ take (get_or sizes 0 0) block ∷ split_by_sizes (drop 1 sizes)
    (drop (get_or sizes 0 0) block)
cut-first [] block some = absurd (omega arith)
cut-first (n ∷ sizes) block some = refl

pub cut-split : (sizes block first later : List ℕ) → 1 ≤ length sizes →
    first ≡ take (get_or sizes 0 0) block → later ≡ drop (get_or sizes 0 0) block → split_by_sizes
    sizes block ≡ first ∷ split_by_sizes (take (length sizes - 1) (drop 1 sizes)) later
cut-split [] block first later some f l = absurd (omega arith)
cut-split (n ∷ sizes) block first later some f l =
    ap₂ (λ (x y : List ℕ). x ∷ split_by_sizes sizes y) (sym f) (sym l) ∙ ap (λ (ss : List ℕ). first
    ∷ split_by_sizes ss later) (sym (take_all (length (n ∷ sizes) - 1) sizes (omega arith)))

-- the blocks that were gone over, and those that are left
pub record HasSurveyed (sizes block : List ℕ) (i : ℕ) (rest : List ℕ) (s : ℕ) (form : Form) : Type 0
  where
    pub done : List (List ℕ)
    pub parts : split_by_sizes sizes block ≡ done ++ split_by_sizes (drop i sizes) rest
    pub left : sum (drop i sizes) ≡ length rest
    pub room : sum_by length done + length rest ≡ length block
    pub is_form : HasForm done s form

-- the block that is next, and those after it
pub record HasNext (sizes : List ℕ) (i : ℕ) (rest front later : List ℕ) : Type 0 where
  pub parts : split_by_sizes (drop i sizes) rest ≡ front ∷ split_by_sizes (drop (i + 1) sizes) later
  pub both : length front + length later ≡ length rest
  pub left : sum (drop (i + 1) sizes) ≡ length later

pub next-block : (sizes : List ℕ) (i : ℕ) (rest front later : List ℕ) → i < length sizes →
    sum (drop i sizes) ≡ length rest → front ≡ take (get_or sizes i 0) rest → later ≡ drop (get_or
    sizes i 0) rest → HasNext sizes i rest front later
next-block sizes i rest front later low left f b =
    let joined : front ++ later ≡ rest = ap₂ (λ (x y : List ℕ). x ++ y) f b
    ∙ take-append-drop (get_or sizes i 0) rest in
    let size : length front ≡ min (get_or sizes i 0) (length rest) = ap length f
    ∙ length-take (get_or sizes i 0) rest in
    record {
      parts = ap (λ (ss : List ℕ). split_by_sizes ss rest) (drop-cons sizes i 0 low)
          ∙ ap₂ (λ (x y : List ℕ). x ∷ split_by_sizes (drop (suc i) sizes) y) (sym f) (sym b)
          ∙ ap (λ (n : ℕ). front ∷ split_by_sizes (drop n sizes) later) (sym (add-one i));
      both = omega (arith, ap length joined, length-append front later);
      left = omega (
        arith,
        left,
        sum_by-drop_more (λ (n : ℕ). n) sizes i 0 low,
        ap length joined,
        length-append front later,
        size,
      );
    }

pub surveyed-next : (sizes block : List ℕ) (i : ℕ) (rest front later : List ℕ) (s : ℕ)
    (form next : Form) → (w : HasSurveyed sizes block i rest s form) → HasNext sizes i rest front
    later → HasForm (w.done ++ front ∷ []) s next → HasSurveyed sizes block (i + 1) later s next
surveyed-next sizes block i rest front later s form next w n is = record {
  done = w.done ++ front ∷ [];
  parts = w.parts ∙ ap (λ (x : List (List ℕ)). w.done ++ x) n.parts
      ∙ sym (append_assoc w.done (front ∷ []) (split_by_sizes (drop (i + 1) sizes) later));
  left = n.left;
  room = omega (
    arith,
    w.room,
    n.both,
    sum_by-append (λ (x : List ℕ). length x) w.done (front ∷ []),
    sum_by-cons (λ (x : List ℕ). length x) front [],
  );
  is_form = is;
}

pub surveyed-begin : (sizes block : List ℕ) (i : ℕ) (rest : List ℕ) (s : ℕ) (form : Form) →
    (w : HasSurveyed sizes block i rest s form) → length block - length rest ≡ sum_by length w.done
surveyed-begin sizes block i rest s form w = omega (arith, w.room)

pub surveyed-fits : (sizes block : List ℕ) (i : ℕ) (rest front later : List ℕ) (s : ℕ)
    (form : Form) → (w : HasSurveyed sizes block i rest s form)
    → HasNext sizes i rest front later → sum_by length (w.done ++ front ∷ []) ≤ length block
surveyed-fits sizes block i rest front later s form w n =
    omega (
      arith,
      w.room,
      n.both,
      sum_by-append (λ (x : List ℕ). length x) w.done (front ∷ []),
      sum_by-cons (λ (x : List ℕ). length x) front [],
    )

pub surveyed-broken : (sizes block : List ℕ) (i : ℕ) (rest front later : List ℕ) (s : ℕ)
    (form : Form) (at : ℕ) → HasSurveyed sizes block i rest s form
    → HasNext sizes i rest front later → AreMalformedAt (front ∷ []) at →
    AreMalformedAt (split_by_sizes sizes block) (length block - length rest + at)
surveyed-broken sizes block i rest front later s form at w n b =
    let l = form-lists w.done s form w.is_form in
    let there : split_by_sizes sizes block
    ≡ w.done ++ front ∷ split_by_sizes (drop (i + 1) sizes) later = w.parts
    ∙ ap (λ (x : List (List ℕ)). w.done ++ x) n.parts in
    rw (surveyed-begin sizes block i rest s form w, there)
    (broken-back w.done (front ∷ split_by_sizes (drop (i + 1) sizes) later) l.0 at l.1
    (broken-front (front ∷ []) (split_by_sizes (drop (i + 1) sizes) later) at b))

pub surveyed-all : (sizes block : List ℕ) (i : ℕ) (rest : List ℕ) (s : ℕ) (form : Form) →
    HasSurveyed sizes block i rest s form → length sizes ≤ i →
    HasForm (split_by_sizes sizes block) s form
surveyed-all sizes block i rest s form w over =
    let there : w.done ≡ split_by_sizes sizes block = sym (append-nil w.done)
    ∙ sym (w.parts ∙ ap (λ (ss : List ℕ). w.done
    ++ split_by_sizes ss rest) (drop_of_length-le sizes over)) in
    subst (λ (x : List (List ℕ)). HasForm x s form) there w.is_form

-- the annotations of the blocks so far
pub record HasPushedBlocks (s : ℕ) (sizes block : List ℕ) (i : ℕ) (rest : List ℕ)
    (old new : List Annotation) : Type 0 where
  pub all : List (List Tal)
  pub left : List (List Tal)
  pub are_all : AreSoundBlocks (split_by_sizes sizes block) s all
  pub are_left : AreSoundBlocks (split_by_sizes (drop i sizes) rest) s left
  pub room : sum (drop i sizes) ≡ length rest
  pub items : old ++ flat_map (tal_annotations s) (all_tals all) ≡ new
      ++ flat_map (tal_annotations s) (all_tals left)

-- the TALs of the next block
pub record NextTals (s : ℕ) (front : List ℕ) (later : List (List ℕ)) (left : List (List Tal)) : Type
    0 where
  pub tals : List Tal
  pub others : List (List Tal)
  pub left_is : left ≡ tals ∷ others
  pub sound : AreSoundTals front s tals
  pub rest : AreSoundBlocks later s others

next-of : (s : ℕ) (front : List ℕ) (later : List (List ℕ)) (left : List (List Tal)) →
    AreSoundBlocks (front ∷ later) s left → NextTals s front later left
next-of s front later [] a = absurd a
next-of s front later (ts ∷ tss) a = record {
  tals = ts;
  others = tss;
  left_is = refl;
  sound = a.0;
  rest = a.1;
}

pub next-tals : (s : ℕ) (sizes block : List ℕ) (i : ℕ) (rest front later : List ℕ)
    (old new : List Annotation) → (h : HasPushedBlocks s sizes block i rest old new) → HasNext sizes
    i rest front later → NextTals s front (split_by_sizes (drop (i + 1) sizes) later) h.left
next-tals s sizes block i rest front later old new h n =
    next-of s front (split_by_sizes (drop (i + 1) sizes) later) h.left
    (subst (λ (x : List (List ℕ)). AreSoundBlocks x s h.left) n.parts h.are_left)

pub pushed-more : (s : ℕ) (sizes block : List ℕ) (i : ℕ) (rest front later : List ℕ)
    (old new newer : List Annotation) → (h : HasPushedBlocks s sizes block i rest old new)
    → HasNext sizes i rest front later →
    (t : NextTals s front (split_by_sizes (drop (i + 1) sizes) later) h.left) → newer ≡ new
    ++ flat_map (tal_annotations s) t.tals → HasPushedBlocks s sizes block (i + 1) later old newer
pushed-more s sizes block i rest front later old new newer h n t is =
    let first = flat_map (tal_annotations s) t.tals in
    let others = flat_map (tal_annotations s) (all_tals t.others) in
    record {
      all = h.all;
      left = t.others;
      are_all = h.are_all;
      are_left = t.rest;
      room = n.left;
      items = h.items ∙ ap (λ (w : List (List Tal)). new
          ++ flat_map (tal_annotations s) (all_tals w)) t.left_is ∙ ap (λ (w : List Annotation). new
          ++ w) (flat_map-append (tal_annotations s) t.tals (all_tals t.others)) ∙ sym (ap (λ (w :
          List Annotation). w ++ others) is ∙ append_assoc new first others);
    }

sound-one : (s : ℕ) (bs : List (List ℕ)) (ts us : List (List Tal)) → AreSoundBlocks bs s ts →
    AreSoundBlocks bs s us → ts ≡ us
sound-one s [] [] [] a b = refl
sound-one s [] [] (u ∷ us) a b = absurd b
sound-one s [] (t ∷ ts) us a b = absurd a
sound-one s (x ∷ bs) [] us a b = absurd a
sound-one s (x ∷ bs) (t ∷ ts) [] a b = absurd b
sound-one s (x ∷ bs) (t ∷ ts) (u ∷ us) a b =
    let first : t ≡ u = one-block x t u a.0.whole b.0.whole in
    let more : ts ≡ us = sound-one s bs ts us a.1 b.1 in
    cc

none-left : (s : ℕ) (tss : List (List Tal)) → AreSoundBlocks [] s tss → tss ≡ []
none-left s [] a = refl
none-left s (t ∷ ts) a = absurd a

pub pushed-all : (s : ℕ) (sizes block : List ℕ) (i : ℕ) (rest : List ℕ)
    (old new : List Annotation) → HasPushedBlocks s sizes block i rest old new → length sizes ≤ i
    → (tss : List (List Tal)) → AreSoundBlocks (split_by_sizes sizes block) s tss → new ≡ old
    ++ flat_map (tal_annotations s) (all_tals tss)
pushed-all s sizes block i rest old new h over tss a =
    let over' : split_by_sizes (drop i sizes) rest ≡ [] =
    ap (λ (ss : List ℕ). split_by_sizes ss rest) (drop_of_length-le sizes over) in
    let none = none-left s h.left (subst (λ (x : List (List ℕ)). AreSoundBlocks x s h.left) over'
    h.are_left) in
    let same = sound-one s (split_by_sizes sizes block) h.all tss h.are_all a in
    sym (append-nil new) ∙ sym (ap (λ (w : List (List Tal)). new ++ flat_map (tal_annotations s)
    (all_tals w)) none) ∙ sym h.items ∙ ap (λ (w : List (List Tal)). old ++ flat_map
    (tal_annotations s) (all_tals w)) same

-- ---- the list of what is read

sound-lists : (s : ℕ) (bs : List (List ℕ)) (tss : List (List Tal)) → AreTalBlocks bs tss →
    HaveUtf8Texts (all_tals tss) → AllByRecursion (IsTalInWindow s) (all_tals tss) →
    AreSoundBlocks bs s tss
sound-lists s [] [] l g w = tt
sound-lists s [] (ts ∷ tss) l g w = absurd l
sound-lists s (b ∷ bs) [] l g w = absurd l
sound-lists s (b ∷ bs) (ts ∷ tss) l g w =
    let IsGood = λ (t : Tal). AllByRecursion IsUtf8 t.texts in (
      record {
        whole = l.0;
        good = all-front IsGood ts (all_tals tss) g;
        window =
            all-front (IsTalInWindow s) ts (all_tals tss) w;
      },
      sound-lists s bs tss l.1 (all-back IsGood ts (all_tals tss) g)
          (all-back (IsTalInWindow s) ts (all_tals tss) w),
    )

drop-first : (xs ys : List Annotation) → 1 ≤ length xs → drop 1 (xs ++ ys) ≡ drop 1 xs ++ ys
drop-first [] ys some = absurd (omega arith)
drop-first (x ∷ xs) ys some = refl

annotations-append : (s : ℕ) (ts us : List Tal) → HasTimeKeepingTal ts →
    annotations s (ts ++ us) ≡ annotations s ts ++ flat_map (tal_annotations s) us
annotations-append s [] us timed = absurd timed
annotations-append s (t ∷ ts) us (xs, e) =
    let d = dropped-first s t ts xs e in
    ap (drop 1) (flat_map-append (tal_annotations s) (t ∷ ts) us) ∙ drop-first (flat_map
    (tal_annotations s) (t ∷ ts)) (flat_map (tal_annotations s) us) (omega (arith, d.count))

-- what is read is the first block's list and then that of those after it
pub record HasFirst (s : ℕ) (first : List ℕ) (later : List (List ℕ)) (list : List Annotation) : Type
    0 where
  pub tals : List Tal
  pub others : List (List Tal)
  pub sound : AreSoundTals first s tals
  pub timed : HasTimeKeepingTal tals
  pub rest : AreSoundBlocks later s others
  pub list_is : list ≡ annotations s tals ++ flat_map (tal_annotations s) (all_tals others)

pub has-first : (s : ℕ) (p : Place) (first : List ℕ) (later : List (List ℕ)) (start : ℕ)
    (list : List Annotation) → BlocksParseTo (first ∷ later) s p start list →
    HasFirst s first later list
has-first s p first later start list r =
    at r.tals (sound-lists s (first ∷ later) r.tals r.lists r.good r.window) r.timed r.list_is
  where
    at : (tss : List (List Tal)) → AreSoundBlocks (first ∷ later) s tss →
        HasTimeKeepingTal (first_block_tals tss) →
        list ≡ annotations s (all_tals tss) → HasFirst s first later list
    at [] a timed e = absurd a
    at (ts ∷ tss) a timed e = record {
      tals = ts;
      others = tss;
      sound = a.0;
      timed = timed;
      rest = a.1;
      list_is = e ∙ annotations-append s ts (all_tals tss) timed;
    }
