-- The lines of bytes, and what is read of them.
use Rattle.std.proofs.Common.{◌≡◌, ◌≢◌, ◌++◌, ◌≤◌, ◌<◌, ◌+◌, ◌-◌, ◌==◌, All, IfSome, List, [], ◌∷◌}
use Rattle.std.proofs.Common.{ℕ}
use Rattle.std.proofs.Common.{Bool, true, false, cond, length, take, drop, Option, Some, None}
use Rattle.std.proofs.Common.{slice_range, position}
use Rattle.std.proofs.Common.{refl, sym, ap, ◌∙◌, arith, subst, length-take-le, option_map}
use Rattle.std.specs.List.{slice_split, onto_first}
use Rattle.std.specs.Io.KnownBytes.{Consumes, IsAtEnd}
use Rattle.std.proofs.lemmas.List.{take_all, drop-take, take-take, take-append-le}
use Rattle.std.proofs.lemmas.List.Splits.{slice_split_at, slice_split_none, slice_split-cons_no}
use Rattle.std.proofs.lemmas.List.Elements.{All-head, All-tail}
use Rattle.std.proofs.lemmas.List.Sums.{split_at_first, fails_before_first}
use Rattle.std.specs.List.{position_or_len}
use borrow.Rule.Slice.PartMut.{put_mid, post_of}
use lib.Seq.{take-add}
use borrow.Author.Tests.{eqb-true}
use Rattle.std.proofs.lemmas.List.Quantifiers.{position-Some}
use Rattle.std.proofs.lemmas.Grind.{common_steps}
use Rattle.std.proofs.Common.{append-nil, take_at, drop_at, get_or, append_assoc}
use Rattle.std.proofs.KnownBytes.{Consumes-trans}
use Rattle.edf_fragment.specs.Failures.{saturating_increment}
use Rattle.edf_serve.specs.Lines.{BeginsWith, Coming, IsNext, lines_of, without_empty_last}
use Rattle.edf_serve.specs.declared.lines.Next.{Next}
use Rattle.edf_serve.specs.declared.lines.Next.TheVariants.{Line, Ended, Failed}

ap2 : {A B C : Type 0} (f : A → B → C) {a a2 : A} {b b2 : B} → a ≡ a2 → b ≡ b2 → f a b ≡ f a2 b2
ap2 f {a} {a2} {b} {b2} p q = ap (λ x. f x b) p ∙ ap (f a2) q

-- whether a byte is a line feed
abbrev pub is_feed : ℕ → Bool
is_feed = λ b. b == 10

abbrev pub Feedless : List ℕ → Type 0
Feedless = All (λ b. (b == 10) ≡ false)

-- a first part, and the others
pub record Parts (xs : List ℕ) : Type 0 where
  pub next : List ℕ
  pub more : List (List ℕ)
  pub are : slice_split is_feed xs ≡ next ∷ more

parts-onto : (x : ℕ) (ps qs : List (List ℕ)) (b : Bool) (next : List ℕ) (more : List (List ℕ)) →
    qs ≡ next ∷ more →
    (n : List ℕ) × (m : List (List ℕ)) × (cond b ([] ∷ qs) (onto_first x qs) ≡ n ∷ m)
parts-onto x ps qs true next more e = ([], qs, refl)
parts-onto x ps qs false next more e = (x ∷ next, more, ap (onto_first x) e)

parts : (xs : List ℕ) → Parts xs
parts [] = record { next = []; more = []; are = refl }
parts (x ∷ xs) =
    let p = parts xs in
    let q = parts-onto x [] (slice_split is_feed xs) (is_feed x) p.next p.more p.are in
    record { next = q.0; more = q.1; are = q.2 }

-- a line, and its line feed
pub line-feed : (line rest : List ℕ) → Feedless line →
    lines_of (line ++ 10 ∷ rest) ≡ line ∷ lines_of rest
line-feed line rest h =
    let p = parts rest in
    ap without_empty_last (slice_split_at is_feed line 10 rest h refl
    ∙ ap (λ (l : List (List ℕ)). line ∷ l) p.are)
    ∙ ap (λ (l : List (List ℕ)). line ∷ without_empty_last l) (sym p.are)

last-alone : (line : List ℕ) → 0 < length line → without_empty_last (line ∷ []) ≡ line ∷ []
last-alone [] some = absurd (omega arith)
last-alone (x ∷ xs) some = refl

-- the last line, behind which no line feed is
pub line-last : (line : List ℕ) → Feedless line → 0 < length line → lines_of line ≡ line ∷ []
line-last line h some =
    ap without_empty_last (slice_split_none is_feed line h) ∙ last-alone line some

grown-first : (x : ℕ) (next : List ℕ) (more : List (List ℕ)) →
    without_empty_last ((x ∷ next) ∷ more) ≡ (x ∷ next) ∷ drop 1 (without_empty_last (next ∷ more))
grown-first x [] [] = refl
grown-first x (y ∷ ys) [] = refl
grown-first x next (m ∷ ms) = refl

grown-by : (x : ℕ) (next : List ℕ) (more : List (List ℕ)) (a : List ℕ) (b : List (List ℕ)) →
    without_empty_last (next ∷ more) ≡ a ∷ b → without_empty_last ((x ∷ next) ∷ more) ≡ (x ∷ a) ∷ b
grown-by x [] [] a b e = absurd (omega (arith, ap (λ (l : List (List ℕ)). length l) e))
grown-by x (y ∷ ys) [] a b e = ap (onto_first x) e
grown-by x next (m ∷ ms) a b e = ap (onto_first x) e

-- a byte that is no line feed, and a line
one-more : (x : ℕ) (tail : List ℕ) → is_feed x ≡ false →
    (w : List ℕ) × (lines_of (x ∷ tail) ≡ (x ∷ w) ∷ drop 1 (lines_of tail))
one-more x tail clear =
    let p = parts tail in (
      p.next,
      ap without_empty_last (slice_split-cons_no is_feed x tail clear ∙ ap (onto_first x) p.are)
          ∙ grown-first x p.next p.more
          ∙ ap (λ (l : List (List ℕ)). (x ∷ p.next) ∷ drop 1 (without_empty_last l)) (sym p.are),
    )

one-more-of : (x : ℕ) (tail a : List ℕ) (b : List (List ℕ)) → is_feed x ≡ false →
    lines_of tail ≡ a ∷ b →
    lines_of (x ∷ tail) ≡ (x ∷ a) ∷ b
one-more-of x tail a b clear e =
    let p = parts tail in
    ap without_empty_last (slice_split-cons_no is_feed x tail clear ∙ ap (onto_first x) p.are)
    ∙ grown-by x p.next p.more a b (ap without_empty_last (sym p.are) ∙ e)

-- the front of a line, and what is behind
pub line-front : (front tail : List ℕ) → Feedless front → 0 < length front →
    (w : List ℕ) × (lines_of (front ++ tail) ≡ (front ++ w) ∷ drop 1 (lines_of tail))
line-front [] tail h some = absurd (omega arith)
line-front (x ∷ []) tail h some = one-more x tail (All-head (λ b. (b == 10) ≡ false) x [] h)
line-front (x ∷ y ∷ ys) tail h some =
    let rest =
    line-front (y ∷ ys) tail (All-tail (λ b. (b == 10) ≡ false) x (y ∷ ys) h) (omega arith) in (
      rest.0,
      one-more-of x ((y ∷ ys) ++ tail) ((y ∷ ys) ++ rest.0) (drop 1 (lines_of tail))
          (All-head (λ b. (b == 10) ≡ false) x (y ∷ ys) h) rest.1,
    )

-- where the first line feed is
pub record FeedAt (xs : List ℕ) (at : ℕ) : Type 0 where
  pub within : at < length xs
  pub before : Feedless (take at xs)
  pub are : xs ≡ take at xs ++ 10 ∷ drop (at + 1) xs

pub feed-at : (xs : List ℕ) (at : ℕ) → position is_feed xs ≡ Some at → FeedAt xs at
feed-at xs at e =
    let found = position-Some is_feed xs at 0 e in
    let here : position_or_len is_feed xs ≡ at = grind (arith, common_steps) in
    let split = split_at_first is_feed xs 0 (omega (arith, here, found.0)) in
    let split2 : xs ≡ take at xs ++ get_or xs at 0 ∷ drop (at + 1) xs =
    subst (λ (n : ℕ). xs ≡ take n xs ++ get_or xs n 0 ∷ drop (n + 1) xs) here split in
    record {
      within = found.0;
      before = λ k d m.
          let low : k < at =
          omega (arith, m, length-take-le at xs (omega (arith, found.0))) in
          let clear = fails_before_first is_feed xs k d (omega (arith, here, low)) in
          grind (arith, common_steps);
      are = split2
          ∙ ap (λ (b : ℕ). take at xs ++ b ∷ drop (at + 1) xs)
          (eqb-true (get_or xs at 0) 10 found.1);
    }

pub no-feed : (xs : List ℕ) → position is_feed xs ≡ None → Feedless xs
no-feed xs e = λ k d m.
    let far : k < position_or_len is_feed xs = grind (arith, common_steps) in
    fails_before_first is_feed xs k d far

-- what was kept, and what a read put behind it
pub take-kept : (a k : ℕ) (xs ys : List ℕ) → a ≤ length xs →
    take a (put_mid a k xs ys) ≡ take a xs
take-kept a k xs ys within =
    take_at (take a xs) (ys ++ post_of a k xs) a (length-take-le a xs within)

pub take-put : (a k n : ℕ) (xs ys : List ℕ) → a ≤ length xs → n ≤ length ys →
    take (a + n) (put_mid a k xs ys) ≡ take a xs ++ take n ys
take-put a k n xs ys within fits =
    let after = post_of a k xs in
    let front : length (take a xs) ≡ a = length-take-le a xs within in
    take-add a n (put_mid a k xs ys)
    ∙ ap2 (λ (p q : List ℕ). p ++ q) (take-kept a k xs ys within)
    (ap (take n) (drop_at (take a xs) (ys ++ after) a front) ∙ take-append-le n ys after fits)

-- what was gathered before, and by a read
pub read-more : (old mid new : Option (List ℕ)) (F G H x y : List ℕ) → Consumes old mid x →
    G ≡ F ++ x →
    Consumes mid new y → H ≡ G ++ y →
    (more : List ℕ) × Consumes old new more × (H ≡ F ++ more)
read-more old mid new F G H x y c e c2 e2 = (
  x ++ y,
  Consumes-trans old mid new x y c c2,
  e2 ∙ ap (λ (l : List ℕ). l ++ y) e ∙ append_assoc F x y,
)

-- the lines of what is left
abbrev pub lines_left : Option (List ℕ) → Option (List (List ℕ))
lines_left l = option_map lines_of l

abbrev pub IsFirstOf : List ℕ → Option (List (List ℕ)) → List (List ℕ) → Type 0
IsFirstOf line after lines = (whole : List ℕ) × (rest : List (List ℕ)) × (lines ≡ whole ∷ rest)
    × (line ≡ take 65537 whole) × (length line ≤ 65536 → after ≡ Some rest)

pub gives-first : (l k : Option (List ℕ)) (line F T G : List ℕ) (old new : Option (List ℕ)) →
    l ≡ option_map (λ xs. F ++ xs) old → k ≡ option_map (λ ys. T ++ ys) new →
    ((more : List ℕ) × Consumes old new more × (G ≡ F ++ more)) →
    IfSome new (BeginsWith G line T) → IfSome (lines_left l) (IsFirstOf line (lines_left k))
gives-first l k line F T G None new el ek g h =
    subst (λ (x : Option (List ℕ)). IfSome (lines_left x) (IsFirstOf line (lines_left k)))
    (sym el) tt
gives-first l k line F T G (Some xs) None el ek g h = absurd g.1
gives-first l k line F T G (Some xs) (Some ys) el ek g h =
    let same : F ++ xs ≡ G ++ ys = ap (λ (p : List ℕ). F ++ p) g.1 ∙ sym (append_assoc F g.0 ys)
    ∙ ap (λ (p : List ℕ). p ++ ys) (sym g.2) in
    subst (λ (x : Option (List ℕ)). IfSome (lines_left x) (IsFirstOf line (lines_left k)))
    (sym el) (
      h.0,
      h.1,
      ap lines_of same ∙ h.2,
      h.3,
      λ short. ap lines_left ek ∙ ap (λ (l : List (List ℕ)). Some l) (h.4 short),
    )

pub slice-of : (a e : ℕ) (b : List ℕ) → a ≤ e → drop a (take e b) ≡ slice_range b a e
slice-of a e b low =
    let same : e ≡ a + (e - a) = omega arith in
    ap (λ (n : ℕ). drop a (take n b)) same ∙ drop-take a (e - a) b

-- a line with its line feed
pub begins-fed : (B : List ℕ) (e at : ℕ) (new : Option (List ℕ)) →
    position is_feed (take e B) ≡ Some at →
    e ≤ length B → e ≤ 65537 →
    IfSome new (BeginsWith (take e B) (take at B) (slice_range B (at + 1) e))
begins-fed B e at None found within most = tt
begins-fed B e at (Some ys) found within most =
    let fa = feed-at (take e B) at found in
    let size : length (take e B) ≡ e = length-take-le e B within in
    let low : at + 1 ≤ e = omega (arith, fa.within, size) in
    let line = take at B in
    let line-is : take at (take e B) ≡ line = take-take at e B (omega (arith, low)) in
    let split : take e B ≡ line ++ 10 ∷ slice_range B (at + 1) e =
    fa.are ∙ ap2 (λ (p q : List ℕ). p ++ 10 ∷ q) line-is (slice-of (at + 1) e B low) in
    let size2 : length line ≡ at = ap (λ (p : List ℕ). length p) (sym line-is)
    ∙ length-take-le at (take e B) (omega (arith, size, low)) in (
      line,
      lines_of (slice_range B (at + 1) e ++ ys),
      ap (λ (p : List ℕ). lines_of (p ++ ys)) split
          ∙ ap lines_of (append_assoc line (10 ∷ slice_range B (at + 1) e) ys)
          ∙ line-feed line (slice_range B (at + 1) e ++ ys) (subst Feedless line-is fa.before),
      sym (take_all 65537 line (omega (arith, size2, low, most))),
      λ _. refl,
    )

-- the front of a longer one
pub begins-long : (B : List ℕ) (e : ℕ) (new : Option (List ℕ)) → Feedless (take e B) →
    e ≤ length B → e ≡ 65537 → IfSome new (BeginsWith (take e B) (take e B) (slice_range B e e))
begins-long B e None none within long = tt
begins-long B e (Some ys) none within long =
    let line = take e B in
    let size : length line ≡ 65537 = length-take-le e B within ∙ long in
    let f = line-front line ys none (omega (arith, size)) in (
      line ++ f.0,
      drop 1 (lines_of ys),
      f.1,
      sym (take_at line f.0 65537 size),
      λ short. absurd (omega (arith, size, short)),
    )

empty-slice : (B : List ℕ) (e : ℕ) → slice_range B e e ≡ []
empty-slice B e = let none : e - e ≡ 0 = omega arith in ap (λ (n : ℕ). take n (drop e B)) none

-- the last one
pub begins-last : (B : List ℕ) (e : ℕ) (new : Option (List ℕ)) → Feedless (take e B) →
    e ≤ length B → 0 < e → e < 65537 → IsAtEnd new →
    IfSome new (BeginsWith (take e B) (take e B) (slice_range B e e))
begins-last B e None none within some short ended = tt
begins-last B e (Some ys) none within some short ended =
    let size : length (take e B) ≡ e = length-take-le e B within in (
      take e B,
      [],
      ap (λ (p : List ℕ). lines_of (take e B ++ p)) ended ∙ ap lines_of (append-nil (take e B))
          ∙ line-last (take e B) none (omega (arith, size, some)),
      sym (take_all 65537 (take e B) (omega (arith, size, short))),
      λ _. ap2 (λ (p q : List ℕ). lines_of (p ++ q)) (empty-slice B e) ended,
    )

-- no line was given, and none was lost
pub none-lost : (l k : Option (List ℕ)) (F T G : List ℕ) (old new : Option (List ℕ)) →
    l ≡ option_map (λ xs. F ++ xs) old → k ≡ option_map (λ ys. T ++ ys) new → T ≡ G →
    ((more : List ℕ) × Consumes old new more × (G ≡ F ++ more)) →
    IfSome (lines_left l) (λ lines. lines_left k ≡ Some lines)
none-lost l k F T G None new el ek et g =
    subst (λ (x : Option (List ℕ)). IfSome (lines_left x) (λ lines. lines_left k ≡ Some lines))
    (sym el) tt
none-lost l k F T G (Some xs) None el ek et g = absurd g.1
none-lost l k F T G (Some xs) (Some ys) el ek et g =
    let same : T ++ ys ≡ F ++ xs = ap (λ (p : List ℕ). p ++ ys) (et ∙ g.2) ∙ append_assoc F g.0 ys
    ∙ ap (λ (p : List ℕ). F ++ p) (sym g.1) in
    subst (λ (x : Option (List ℕ)). IfSome (lines_left x) (λ lines. lines_left k ≡ Some lines))
    (sym el)
    (ap lines_left ek ∙ ap (λ (p : List ℕ). lines_left (Some p)) same)

pub slice-front : (B : List ℕ) (e : ℕ) → slice_range B 0 e ≡ take e B
slice-front B e = let same : e - 0 ≡ e = omega arith in ap (λ (n : ℕ). take n (drop 0 B)) same

pub nothing-yet : (xs : List ℕ) (known : Option (List ℕ)) →
    option_map (λ more. slice_range xs 0 0 ++ more) known ≡ known
nothing-yet xs None = refl
nothing-yet xs (Some more) = refl

-- none was to come
nothing-left : (l : Option (List ℕ)) (F G : List ℕ) (old new : Option (List ℕ)) →
    l ≡ option_map (λ xs. F ++ xs) old → G ≡ [] → IsAtEnd new →
    ((more : List ℕ) × Consumes old new more × (G ≡ F ++ more)) →
    IfSome (lines_left l) (λ lines. lines ≡ [])
nothing-left l F G None new el empty end g =
    subst (λ (x : Option (List ℕ)). IfSome (lines_left x) (λ lines. lines ≡ [])) (sym el) tt
nothing-left l F G (Some xs) None el empty end g = absurd g.1
nothing-left l F G (Some xs) (Some ys) el empty end g =
    let all : F ++ xs ≡ [] = ap (λ (p : List ℕ). F ++ p) (g.1 ∙ ap (λ (p : List ℕ). g.0 ++ p) end
    ∙ append-nil g.0) ∙ sym g.2 ∙ empty in
    subst (λ (x : Option (List ℕ)). IfSome (lines_left x) (λ lines. lines ≡ [])) (sym el)
    (ap lines_of all)

-- the line that was found, or none
pub is-next : (before after : Coming) (F T G : List ℕ) (old new : Option (List ℕ)) (n : Next) →
    before.left ≡ option_map (λ xs. F ++ xs) old → after.left ≡ option_map (λ ys. T ++ ys) new →
    ((more : List ℕ) × Consumes old new more × (G ≡ F ++ more)) →
    (n ≡ Line → IfSome new (BeginsWith G after.line T)) → (n ≢ Line → T ≡ G) →
    (n ≡ Ended → (G ≡ []) × IsAtEnd new) →
    (n ≡ Failed → after.failed ≡ saturating_increment before.failed) →
    (n ≢ Failed → after.failed ≡ before.failed) → IsNext before after n
is-next before after F T G old new Line el ek g line none ended failed unfailed = record {
  first = gives-first before.left after.left after.line F T G old new el ek g (line refl);
  failed = unfailed (λ e. cc);
}
is-next before after F T G old new Ended el ek g line none ended failed unfailed = (
  record {
    same = none-lost before.left after.left F T G old new el ek (none (λ e. cc)) g;
    failed = unfailed (λ e. cc);
  },
  nothing-left before.left F G old new el (ended refl).0 (ended refl).1 g,
)
is-next before after F T G old new Failed el ek g line none ended failed unfailed = record {
  same = none-lost before.left after.left F T G old new el ek (none (λ e. cc)) g;
  failed = failed refl;
}
