-- What is told of two files side by side is right.
use Rattle.std.proofs.Common.{◌≡◌, ◌≢◌, ℕ, ◌+◌, ◌-◌, ◌^◌, ◌<◌, ◌≤◌, List, [], ◌∷◌, ◌++◌, length}
use Rattle.std.proofs.Common.{All}
use Rattle.std.proofs.Common.{Contains, Option, Some, None, refl, sym, ap, ◌∙◌, subst, arith, inl}
use Rattle.std.proofs.Common.{inr}
use Rattle.std.proofs.Common.{append_assoc, append-nil, length-append, get_or}
use Rattle.std.proofs.lemmas.List.Elements.{All-nil, All-cons, All-head, All-tail, All-append}
use Rattle.std.proofs.lemmas.List.Elements.{All-push}
use Rattle.std.proofs.lemmas.List.Elements.{All-weaker, Contains-push, Contains-append_left}
use Rattle.std.proofs.lemmas.List.Elements.{Contains-append_right, All-contains}
use Rattle.edf_header.specs.declared.limits.TheConstants.{MOST_RECORDS}
use Rattle.edf_fragment.specs.Fragment.{DataRecord}
use Rattle.edf_holdings.specs.Clash.{Clash}
use Rattle.edf_runs.specs.Compared.{HasWord, IsMet, IsStretch, BeginsOther, AreStretches}
use Rattle.edf_runs.specs.Inside.Comparing.{IsOne, joined, AddsStretch, Passes, BeginsWith}
use Rattle.edf_runs.specs.Inside.Comparing.{IsPassed}
use Rattle.edf_runs.specs.Inside.Comparing.{IsAfter, IsFar, IsApartWord, IsMetWord}
use Rattle.edf_runs.specs.Inside.Spaced.{Spaced}
use Rattle.edf_runs.specs.declared.stretch.Stretch.{Stretch}
use Rattle.edf_runs.specs.declared.stretch.Word.{Word}
use Rattle.edf_runs.specs.declared.stretch.Word.TheVariants.{Known, New, Differs, Overlaps}
use Rattle.edf_runs.specs.declared.stretch.Word.TheVariants.{Lacking, Met}

-- ---- stretches

module _ (Has : Word → DataRecord → Type 0) (d : ℕ) where
  single : (one : Stretch) (r : DataRecord) → IsOne d one r → Has one.word r →
      IsStretch Has d one (r ∷ [])
  single one r is has = record {
    have = All-cons (Has one.word) r [] has (All-nil (Has one.word));
    count = is.count;
    from = (r, [], refl, is.from);
    to = ([], r, refl, is.to);
  }

  begins-more : (word : Word) (xs : List Stretch) (one : Stretch) → BeginsOther word xs →
      (xs ≡ [] → word ≢ one.word) → BeginsOther word (xs ++ one ∷ [])
  begins-more word [] one begins last = last refl
  begins-more word (y ∷ ys) one begins last = begins

  begins-joined : (word : Word) (xs : List Stretch) (last one : Stretch) →
      BeginsOther word (xs ++ last ∷ []) → BeginsOther word (xs ++ joined last one ∷ [])
  begins-joined word [] last one begins = begins
  begins-joined word (y ∷ ys) last one begins = begins

  follows : (p some others : List DataRecord) (r : DataRecord) → p ≡ some ++ others →
      p ++ r ∷ [] ≡ some ++ (others ++ r ∷ [])
  follows p some others r parts = ap (λ (x : List DataRecord). x ++ r ∷ []) parts
      ∙ append_assoc some others (r ∷ [])

  -- a new one
  appended : (xs : List Stretch) (p : List DataRecord) (one : Stretch) (r : DataRecord) →
      IsOne d one r → Has one.word r → AreStretches Has d xs p →
      ((ys : List Stretch) (last : Stretch) → xs ≡ ys ++ last ∷ [] → last.word ≢ one.word) →
      AreStretches Has d (xs ++ one ∷ []) (p ++ r ∷ [])
  appended [] p one r is has are other =
      (r ∷ [], [], ap (λ (x : List DataRecord). x ++ r ∷ []) are, single one r is has, tt, refl)
  appended (x ∷ xs) p one r is has (some, others, parts, stretch, begins, more) other = (
    some,
    others ++ r ∷ [],
    follows p some others r parts,
    stretch,
    begins-more x.word xs one begins
        (λ none. other [] x (ap (λ (ys : List Stretch). x ∷ ys) none)),
    appended xs others one r is has more
        (λ ys last same. other (x ∷ ys) last (ap (λ (zs : List Stretch). x ∷ zs) same)),
  )

  longer : (last one : Stretch) (some : List DataRecord) (r : DataRecord) → IsOne d one r →
      Has last.word r → IsStretch Has d last some → length some < 2 ^ 32 - 1 →
      IsStretch Has d (joined last one) (some ++ r ∷ [])
  longer last one some r is has stretch few = record {
    have = All-push (Has last.word) some r stretch.have has;
    count = omega (arith, stretch.count, length-append some (r ∷ []), few);
    from = (
      stretch.from.0,
      stretch.from.1 ++ r ∷ [],
      ap (λ (x : List DataRecord). x ++ r ∷ []) stretch.from.2,
      stretch.from.3,
    );
    to = (some, r, refl, is.to);
  }

  -- the last became longer
  extended : (xs : List Stretch) (p : List DataRecord) (last one : Stretch) (r : DataRecord) →
      IsOne d one r → Has last.word r → AreStretches Has d (xs ++ last ∷ []) p →
      length p < 2 ^ 32 - 1 → AreStretches Has d (xs ++ joined last one ∷ []) (p ++ r ∷ [])
  extended [] p last one r is has (some, others, parts, stretch, begins, more) few =
      let all : p ≡ some = parts ∙ ap (λ (x : List DataRecord). some ++ x) more ∙ append-nil some in
      let len = ap (λ (x : List DataRecord). length x) all in (
        some ++ r ∷ [],
        [],
        ap (λ (x : List DataRecord). x ++ r ∷ []) all ∙ sym (append-nil (some ++ r ∷ [])),
        longer last one some r is has stretch (omega (arith, len, few)),
        tt,
        refl,
      )
  extended (x ∷ xs) p last one r is has (some, others, parts, stretch, begins, more) few =
      let len = ap (λ (x : List DataRecord). length x) parts in (
        some,
        others ++ r ∷ [],
        follows p some others r parts,
        stretch,
        begins-joined x.word xs last one begins,
        extended xs others last one r is has more
            (omega (arith, len, few, length-append some others)),
      )

  adds : (old new : List Stretch) (p : List DataRecord) (one : Stretch) (r : DataRecord) →
      AddsStretch old new one → IsOne d one r → Has one.word r → AreStretches Has d old p →
      length p < 2 ^ 32 - 1 → AreStretches Has d new (p ++ r ∷ [])
  adds old new p one r (inl (xs, last, before, same, after)) is has are few =
      subst (λ (x : List Stretch). AreStretches Has d x (p ++ r ∷ [])) (sym after)
      (extended xs p last one r is (subst (λ (w : Word). Has w r) (sym same) has)
      (subst (λ (x : List Stretch). AreStretches Has d x p) before are) few)
  adds old new p one r (inr (after, other)) is has are few =
      subst (λ (x : List Stretch). AreStretches Has d x (p ++ r ∷ [])) (sym after)
      (appended old p one r is has are other)

-- ---- data records that lie apart

low-of : (d low : ℕ) (p : List DataRecord) (f : DataRecord) (l : List DataRecord) →
    Spaced d low (p ++ f ∷ l) → low ≤ f.start
low-of d low [] f l spaced = spaced.0
low-of d low (a ∷ p) f l spaced = omega (arith, spaced.0, low-of d (a.start + d) p f l spaced.1)

ends-by : (d low : ℕ) (p : List DataRecord) (f : DataRecord) (l : List DataRecord) →
    Spaced d low (p ++ f ∷ l) → All (λ a. a.start + d ≤ f.start) p
ends-by d low [] f l spaced = All-nil (λ a. a.start + d ≤ f.start)
ends-by d low (a ∷ p) f l spaced = All-cons (λ (x : DataRecord). x.start + d ≤ f.start) a p
    (low-of d (a.start + d) p f l spaced.1) (ends-by d (a.start + d) p f l spaced.1)

after-it : (d low : ℕ) (p : List DataRecord) (f : DataRecord) (l : List DataRecord) →
    Spaced d low (p ++ f ∷ l) → Spaced d (f.start + d) l
after-it d low [] f l spaced = spaced.1
after-it d low (a ∷ p) f l spaced = after-it d (a.start + d) p f l spaced.1

all-from : (d low : ℕ) (xs : List DataRecord) → Spaced d low xs → All (λ x. low ≤ x.start) xs
all-from d low [] spaced = All-nil (λ x. low ≤ x.start)
all-from d low (x ∷ xs) spaced = All-cons (λ (y : DataRecord). low ≤ y.start) x xs spaced.0
    (All-weaker (λ y. x.start + d ≤ y.start) (λ y. low ≤ y.start)
    (λ y h. omega (arith, h, spaced.0)) xs (all-from d (x.start + d) xs spaced.1))

-- those behind one
all-behind : (d low : ℕ) (p : List DataRecord) (f : DataRecord) (l : List DataRecord) →
    Spaced d low (p ++ f ∷ l) → All (λ x. f.start + d ≤ x.start) l
all-behind d low p f l spaced = all-from d (f.start + d) l (after-it d low p f l spaced)

-- what follows starts after an instant where the next one does
all-after : (d instant : ℕ) (p l : List DataRecord) (next : Option DataRecord) →
    IsAfter instant next → BeginsWith next l → Spaced d 0 (p ++ l) →
    All (λ x. instant < x.start) l
all-after d instant p l None after begins spaced =
    subst (All (λ (x : DataRecord). instant < x.start)) (sym begins)
    (All-nil (λ (x : DataRecord). instant < x.start))
all-after d instant p l (Some r) after (others, is) spaced =
    subst (All (λ (x : DataRecord). instant < x.start)) (sym is)
    (All-cons (λ (x : DataRecord). instant < x.start) r others after
    (All-weaker (λ x. r.start + d ≤ x.start) (λ x. instant < x.start)
    (λ x h. omega (arith, h, after)) others
    (all-behind d 0 p r others (subst (λ (x : List DataRecord). Spaced d 0 (p ++ x)) is spaced))))

-- ---- steps

module _ (d passed : ℕ) (firsts seconds : List Stretch) (p q : List DataRecord) where
  pass-first : (f : DataRecord) (l m : List DataRecord) (firsts' : List Stretch) (one : Stretch) →
      Passes d passed firsts seconds p (f ∷ l) q m → Spaced d 0 (p ++ f ∷ l) →
      All (λ b. f.start < b.start) m → AddsStretch firsts firsts' one → IsOne d one f →
      one.word ≡ Lacking → length p < 2 ^ 32 - 1 →
      Passes d (f.start + d) firsts' seconds (p ++ f ∷ []) l q m
  pass-first f l m firsts' one is spaced later added ones word few =
      let Apart = λ (b : DataRecord). f.start ≢ b.start in
      let lacks : All Apart (q ++ m) = All-append Apart q m
      (All-weaker (λ b. All (λ a. b.start < a.start) (f ∷ l)) Apart
      (λ b h. let lt = All-head (λ (a : DataRecord). b.start < a.start) f l h in
      omega (arith, lt)) q is.low')
      (All-weaker (λ b. f.start < b.start) Apart (λ b h. omega (arith, h)) m later) in
      record {
        words = subst (λ (x : List DataRecord). AreStretches (HasWord d x) d seconds q)
            (sym (append_assoc p (f ∷ []) l)) is.words;
        met = adds (IsMet (q ++ m)) d firsts firsts' p one f added ones
            (subst (λ (w : Word). IsMet (q ++ m) w f) (sym word) lacks) is.met few;
        low = All-push (λ a. All (λ b. a.start < b.start) m) p f is.low later;
        low' = All-weaker (λ b. All (λ a. b.start < a.start) (f ∷ l))
            (λ b. All (λ a. b.start < a.start) l)
            (λ b h. All-tail (λ (a : DataRecord). b.start < a.start) f l h) q is.low';
        ends = All-push (λ a. a.start + d ≤ f.start + d) p f
            (All-weaker (λ a. a.start + d ≤ f.start) (λ a. a.start + d ≤ f.start + d)
            (λ a h. omega (arith, h)) p (ends-by d 0 p f l spaced)) (omega arith);
        ended = λ some. (f, Contains-push p f, refl);
      }

  pass-second : (s : DataRecord) (l m : List DataRecord) (seconds' : List Stretch) (one : Stretch) →
      Passes d passed firsts seconds p l q (s ∷ m) → All (λ a. s.start < a.start) l →
      AddsStretch seconds seconds' one → IsOne d one s → HasWord d (p ++ l) one.word s →
      length q < 2 ^ 32 - 1 → Passes d passed firsts seconds' p l (q ++ s ∷ []) m
  pass-second s l m seconds' one is later added ones has few = record {
    words = adds (HasWord d (p ++ l)) d seconds seconds' q one s added ones has is.words few;
    met = subst (λ (x : List DataRecord). AreStretches (IsMet x) d firsts p)
        (sym (append_assoc q (s ∷ []) m)) is.met;
    low = All-weaker (λ a. All (λ b. a.start < b.start) (s ∷ m))
        (λ a. All (λ b. a.start < b.start) m)
        (λ a h. All-tail (λ (b : DataRecord). a.start < b.start) s m h) p is.low;
    low' = All-push (λ b. All (λ a. b.start < a.start) l) q s is.low' later;
    ends = is.ends;
    ended = is.ended;
  }

  pass-both : (f s : DataRecord) (l m : List DataRecord) (firsts' seconds' : List Stretch)
      (one other : Stretch) → 0 < d → Passes d passed firsts seconds p (f ∷ l) q (s ∷ m) →
      Spaced d 0 (p ++ f ∷ l) → Spaced d 0 (q ++ s ∷ m) → f.start ≡ s.start →
      AddsStretch firsts firsts' one → IsOne d one f → one.word ≡ Met →
      AddsStretch seconds seconds' other → IsOne d other s →
      HasWord d (p ++ f ∷ l) other.word s → length p < 2 ^ 32 - 1 → length q < 2 ^ 32 - 1 →
      Passes d (f.start + d) firsts' seconds' (p ++ f ∷ []) l (q ++ s ∷ []) m
  pass-both f s l m firsts' seconds' one other some is spaced spaced' same added ones word added'
      others has few few' =
      let found : IsMet (q ++ s ∷ m) Met f =
      (s, Contains-append_right q (s ∷ m) s (0, omega arith, refl), same) in
      record {
        words = subst (λ (x : List DataRecord). AreStretches (HasWord d x) d seconds' (q ++ s ∷ []))
            (sym (append_assoc p (f ∷ []) l))
            (adds (HasWord d (p ++ f ∷ l)) d seconds seconds' q other s added' others has is.words
            few');
        met = subst (λ (x : List DataRecord). AreStretches (IsMet x) d firsts' (p ++ f ∷ []))
            (sym (append_assoc q (s ∷ []) m))
            (adds (IsMet (q ++ s ∷ m)) d firsts firsts' p one f added ones
            (subst (λ (w : Word). IsMet (q ++ s ∷ m) w f) (sym word) found) is.met few);
        low = All-push (λ a. All (λ b. a.start < b.start) m) p f
            (All-weaker (λ a. All (λ b. a.start < b.start) (s ∷ m))
            (λ a. All (λ b. a.start < b.start) m)
            (λ a h. All-tail (λ (b : DataRecord). a.start < b.start) s m h) p is.low)
            (All-weaker (λ b. s.start + d ≤ b.start) (λ b. f.start < b.start)
            (λ b h. omega (arith, h, same, some)) m (all-behind d 0 q s m spaced'));
        low' = All-push (λ b. All (λ a. b.start < a.start) l) q s
            (All-weaker (λ b. All (λ a. b.start < a.start) (f ∷ l))
            (λ b. All (λ a. b.start < a.start) l)
            (λ b h. All-tail (λ (a : DataRecord). b.start < a.start) f l h) q is.low')
            (All-weaker (λ a. f.start + d ≤ a.start) (λ a. s.start < a.start)
            (λ a h. omega (arith, h, same, some)) l (all-behind d 0 p f l spaced));
        ends = All-push (λ a. a.start + d ≤ f.start + d) p f
            (All-weaker (λ a. a.start + d ≤ f.start) (λ a. a.start + d ≤ f.start + d)
            (λ a h. omega (arith, h)) p (ends-by d 0 p f l spaced)) (omega arith);
        ended = λ ends. (f, Contains-push p f, refl);
      }

  -- ---- words

  known-word : (f s : DataRecord) (l : List DataRecord) → f ≡ s → HasWord d (p ++ f ∷ l) Known s
  known-word f s l same = subst (Contains (p ++ f ∷ l)) same
      (Contains-append_right p (f ∷ l) f (0, omega arith, refl))

  differs-word : (f s : DataRecord) (l : List DataRecord) → (f ≡ s → ⊥) → f.start ≡ s.start →
      HasWord d (p ++ f ∷ l) Differs s
  differs-word f s l other same =
      (f, Contains-append_right p (f ∷ l) f (0, omega arith, refl), λ e. other (sym e), sym same)

  -- where none of the first file starts then
  apart : (s : DataRecord) (l m : List DataRecord) →
      Passes d passed firsts seconds p l q (s ∷ m) → All (λ a. s.start < a.start) l →
      All (λ one. s.start ≢ one.start) (p ++ l)
  apart s l m is later =
      let Apart = λ (one : DataRecord). s.start ≢ one.start in
      All-append Apart p l
      (All-weaker (λ a. All (λ b. a.start < b.start) (s ∷ m)) Apart
      (λ a h. let lt = All-head (λ (b : DataRecord). a.start < b.start) s m h in
      omega (arith, lt)) p is.low)
      (All-weaker (λ a. s.start < a.start) Apart (λ a h. omega (arith, h)) l later)

  other-start : (r s : DataRecord) → r.start ≢ s.start → r ≢ s
  other-start r s apart same = apart (ap (λ (x : DataRecord). x.start) same)

  next-overlaps : (f s : DataRecord) (l m : List DataRecord) →
      Passes d passed firsts seconds p (f ∷ l) q (s ∷ m) → All (λ a. s.start < a.start) (f ∷ l) →
      f.start < s.start + d → 0 < d → HasWord d (p ++ f ∷ l) Overlaps s
  next-overlaps f s l m is later near some =
      let lt = All-head (λ (a : DataRecord). s.start < a.start) f l later in
      let ne : s.start ≢ f.start = omega (arith, lt) in (
        f,
        Contains-append_right p (f ∷ l) f (0, omega arith, refl),
        (
          (
            f.start,
            record { begun = omega (arith, lt); not_over = near },
            record { begun = omega arith; not_over = omega (arith, some) },
          ),
          other-start s f ne,
        ),
        apart s (f ∷ l) m is later,
      )

  last-overlaps : (s : DataRecord) (l m : List DataRecord) →
      Passes d passed firsts seconds p l q (s ∷ m) → All (λ a. s.start < a.start) l →
      s.start < passed → 0 < d → HasWord d (p ++ l) Overlaps s
  last-overlaps s l m is later over some =
      let (a, has, ends) = is.ended (omega (arith, over)) in
      let lt = All-head (λ (b : DataRecord). a.start < b.start) s m
      (All-contains (λ (a : DataRecord). All (λ b. a.start < b.start) (s ∷ m)) p a is.low has) in
      let ne : s.start ≢ a.start = omega (arith, lt) in (
        a,
        Contains-append_left p l a has,
        (
          (
            s.start,
            record { begun = omega arith; not_over = omega (arith, some) },
            record { begun = omega (arith, lt); not_over = omega (arith, over, ends) },
          ),
          other-start s a ne,
        ),
        apart s l m is later,
      )

  new-word : (s : DataRecord) (l m : List DataRecord) →
      Passes d passed firsts seconds p l q (s ∷ m) → All (λ a. s.start < a.start) l →
      All (λ a. s.start + d ≤ a.start) l → passed ≤ s.start → HasWord d (p ++ l) New s
  new-word s l m is later far over =
      let Fits = λ (other : DataRecord). (s ≢ other) × ¬ Clash d s other in
      let ends : (a : DataRecord) → s.start ≢ a.start → a.start + d ≤ s.start → Fits a =
      λ a ne by. (
        other-start s a ne,
        λ clash. omega (arith, by, clash.0.1.begun, clash.0.2.not_over),
      ) in
      let begins : (a : DataRecord) → s.start ≢ a.start → s.start + d ≤ a.start → Fits a =
      λ a ne by. (
        other-start s a ne,
        λ clash. omega (arith, by, clash.0.2.begun, clash.0.1.not_over),
      ) in
      All-append Fits p l
      (λ k e lt. let low = All-head (λ (b : DataRecord). (get_or p k e).start < b.start) s m
      (is.low k e lt) in ends (get_or p k e) (omega (arith, low))
      (omega (arith, is.ends k e lt, over)))
      (λ k e lt. begins (get_or l k e) (let h = later k e lt in omega (arith, h)) (far k e lt))

-- ---- however both files go on

module _ (d passed : ℕ) (firsts seconds : List Stretch) (p q : List DataRecord) (some : 0 < d) where
  -- one more of the first
  pub first-passed : (f : DataRecord) (next next' : Option DataRecord) (firsts' : List Stretch)
      (one : Stretch) → IsPassed d passed firsts seconds p q (Some f) next' →
      IsAfter f.start next' → AddsStretch firsts firsts' one → IsOne d one f →
      one.word ≡ Lacking →
      IsPassed d (f.start + d) firsts' seconds (p ++ f ∷ []) q next next'
  first-passed f next next' firsts' one is after added ones word =
      λ l m begins begins' spaced spaced' few few'.
      let same = append_assoc p (f ∷ []) l in
      let apart = subst (Spaced d 0) same spaced in
      let few-all = subst (λ (x : List DataRecord). length x ≤ MOST_RECORDS) same few in
      pass-first d passed firsts seconds p q f l m firsts' one
      (is (f ∷ l) m (l, refl) begins' apart spaced' few-all few') apart
      (all-after d f.start q m next' after begins' spaced') added ones word
      (omega (arith, few-all, length-append p (f ∷ l)))

  -- one more of the second, at whose start the first has none
  pub second-passed : (s : DataRecord) (next next' : Option DataRecord) (seconds' : List Stretch)
      (one : Stretch) → IsPassed d passed firsts seconds p q next (Some s) →
      IsAfter s.start next → AddsStretch seconds seconds' one → IsOne d one s →
      IsApartWord d passed next s one.word →
      IsPassed d passed firsts seconds' p (q ++ s ∷ []) next next'
  second-passed s next next' seconds' one is after added ones word =
      λ l m begins begins' spaced spaced' few few'.
      let same = append_assoc q (s ∷ []) m in
      let apart' = subst (Spaced d 0) same spaced' in
      let few-all = subst (λ (x : List DataRecord). length x ≤ MOST_RECORDS) same few' in
      let was = is l (s ∷ m) begins (m, refl) spaced apart' few few-all in
      let later = all-after d s.start p l next after begins spaced in
      pass-second d passed firsts seconds p q s l m seconds' one was later added ones
      (apart-word s l m next one.word was later begins spaced word)
      (omega (arith, few-all, length-append q (s ∷ m)))
    where
      far-all : (s : DataRecord) (l : List DataRecord) (next : Option DataRecord) →
          BeginsWith next l → Spaced d 0 (p ++ l) → IsFar (s.start + d) next →
          All (λ a. s.start + d ≤ a.start) l
      far-all s l None begins spaced far =
          subst (All (λ (a : DataRecord). s.start + d ≤ a.start)) (sym begins)
          (All-nil (λ (a : DataRecord). s.start + d ≤ a.start))
      far-all s l (Some f) (others, is) spaced far =
          subst (All (λ (a : DataRecord). s.start + d ≤ a.start)) (sym is)
          (All-cons (λ (a : DataRecord). s.start + d ≤ a.start) f others far
          (All-weaker (λ a. f.start + d ≤ a.start) (λ a. s.start + d ≤ a.start)
          (λ a h. omega (arith, h, far)) others
          (all-behind d 0 p f others (subst (λ (x : List DataRecord). Spaced d 0 (p ++ x)) is
          spaced))))

      meets : (s : DataRecord) (l m : List DataRecord) (next : Option DataRecord)
          (f : DataRecord) → Passes d passed firsts seconds p l q (s ∷ m) →
          All (λ a. s.start < a.start) l → BeginsWith next l → next ≡ Some f →
          f.start < s.start + d → HasWord d (p ++ l) Overlaps s
      meets s l m next f was later begins is near =
          let on : BeginsWith (Some f) l = subst (λ (n : Option DataRecord). BeginsWith n l) is
          begins in
          subst (λ (x : List DataRecord). HasWord d (p ++ x) Overlaps s) (sym on.1)
          (next-overlaps d passed firsts seconds p q f s on.0 m
          (subst (λ (x : List DataRecord). Passes d passed firsts seconds p x q (s ∷ m)) on.1 was)
          (subst (All (λ (a : DataRecord). s.start < a.start)) on.1 later) near some)

      apart-word : (s : DataRecord) (l m : List DataRecord) (next : Option DataRecord)
          (word : Word) → Passes d passed firsts seconds p l q (s ∷ m) →
          All (λ a. s.start < a.start) l → BeginsWith next l → Spaced d 0 (p ++ l) →
          IsApartWord d passed next s word → HasWord d (p ++ l) word s
      apart-word s l m next Overlaps was later begins spaced (inl (f, is, near)) =
          meets s l m next f was later begins is near
      apart-word s l m next Overlaps was later begins spaced (inr over) =
          last-overlaps d passed firsts seconds p q s l m was later over some
      apart-word s l m next New was later begins spaced (far, over) =
          new-word d passed firsts seconds p q s l m was later (far-all s l next begins spaced far)
          over
      apart-word s l m next word was later begins spaced is = absurd is

  -- one more of both
  pub both-passed : (f s : DataRecord) (next next' : Option DataRecord)
      (firsts' seconds' : List Stretch) (one other : Stretch) →
      IsPassed d passed firsts seconds p q (Some f) (Some s) → f.start ≡ s.start →
      AddsStretch firsts firsts' one → IsOne d one f → one.word ≡ Met →
      AddsStretch seconds seconds' other → IsOne d other s → IsMetWord f s other.word →
      IsPassed d (f.start + d) firsts' seconds' (p ++ f ∷ []) (q ++ s ∷ []) next next'
  both-passed f s next next' firsts' seconds' one other is starts added ones word added' others
      word' = λ l m begins begins' spaced spaced' few few'.
      let same = append_assoc p (f ∷ []) l in
      let same' = append_assoc q (s ∷ []) m in
      let apart = subst (Spaced d 0) same spaced in
      let apart' = subst (Spaced d 0) same' spaced' in
      let few-all = subst (λ (x : List DataRecord). length x ≤ MOST_RECORDS) same few in
      let few-all' = subst (λ (x : List DataRecord). length x ≤ MOST_RECORDS) same' few' in
      pass-both d passed firsts seconds p q f s l m firsts' seconds' one other some
      (is (f ∷ l) (s ∷ m) (l, refl) (m, refl) apart apart' few-all few-all') apart apart' starts
      added ones word added' others (met-word l other.word word')
      (omega (arith, few-all, length-append p (f ∷ l)))
      (omega (arith, few-all', length-append q (s ∷ m)))
    where
      met-word : (l : List DataRecord) (word : Word) → IsMetWord f s word →
          HasWord d (p ++ f ∷ l) word s
      met-word l Known same = known-word d passed firsts seconds p q f s l same
      met-word l Differs other = differs-word d passed firsts seconds p q f s l other starts
      met-word l word is = absurd is
