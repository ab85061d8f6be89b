-- One file more is listed, or its lines are cut.
use Rattle.std.proofs.Common.{◌≡◌, ◌≢◌, ◌⊎◌, ℕ, List, [], ◌∷◌, ◌++◌, Bool, inl, inr, refl, sym, ap}
use Rattle.std.proofs.Common.{◌∙◌, subst, arith, replicate, zero, suc, append-nil, append_assoc}
use Rattle.std.proofs.Common.{◌+◌, ◌<◌, ◌≤◌, length, take, drop, get_or, map, max, take-append-drop}
use Rattle.std.proofs.lemmas.List.{map-append, take_more, drop_more}
use Rattle.std.specs.Prelude.{Option, Result, Ok, Err, MatchResult}
use Rattle.edf_cli.specs.Output.{OutputChange, Gets, GetsPrefix, IsWritten}
use Rattle.edf_cli.specs.Status.{exit_code, worse}
use Rattle.edf_cli.specs.declared.status.Status.{Status}
use Rattle.edf_cli.specs.declared.status.Status.TheVariants.{Done, Refused, Usage, Trouble}
use Rattle.edfruns_command.specs.Inside.{OpensUpTo}
use Rattle.edfruns_command.specs.Lines.{standard_output, unwritten_line}
use Rattle.edfruns_command.specs.Listed.{AreListed, IsFileListed, CutsLines, TellsRuns}
use Rattle.edfruns_command.specs.Listed.{Held, between, file_label, OpensSome, OpensEach}

-- ---- the worse of two

worse_code : (a b : Status) → exit_code (worse a b) ≡ max (exit_code a) (exit_code b)
worse_code Done Done = refl
worse_code Done Refused = refl
worse_code Done Usage = refl
worse_code Done Trouble = refl
worse_code Refused Done = refl
worse_code Refused Refused = refl
worse_code Refused Usage = refl
worse_code Refused Trouble = refl
worse_code Usage Done = refl
worse_code Usage Refused = refl
worse_code Usage Usage = refl
worse_code Usage Trouble = refl
worse_code Trouble Done = refl
worse_code Trouble Refused = refl
worse_code Trouble Usage = refl
worse_code Trouble Trouble = refl

by_code : (a b : Status) → exit_code a ≡ exit_code b → a ≡ b
by_code Done Done is = refl
by_code Refused Refused is = refl
by_code Usage Usage is = refl
by_code Trouble Trouble is = refl
by_code a b is = absurd (omega (arith, is))

worse_same : (a b : Status) → worse a b ≡ worse b a
worse_same a b =
    by_code (worse a b) (worse b a) (omega (arith, worse_code a b, worse_code b a))

worse_three : (a b c : Status) → worse (worse a b) c ≡ worse a (worse b c)
worse_three a b c =
    by_code (worse (worse a b) c) (worse a (worse b c)) (omega (
      arith,
      worse_code (worse a b) c,
      worse_code a b,
      worse_code a (worse b c),
      worse_code b c,
    ))

-- all was done only where both are
both_done : (a b : Status) → worse a b ≡ Done → (a ≡ Done) × (b ≡ Done)
both_done a b is =
    let none : exit_code (worse a b) ≡ 0 = ap exit_code is in
    let first : exit_code a ≡ 0 = omega (arith, none, worse_code a b) in
    let second : exit_code b ≡ 0 = omega (arith, none, worse_code a b) in
    (by_code a Done first, by_code b Done second)

-- ---- the lines of one file

-- they were sent, or a front of them
pub sent : (out err : OutputChange) (bytes : Option (List ℕ)) (label : List ℕ)
    (name text : List ℕ) (result : Result Status Status) →
    TellsRuns bytes label (λ lines. text ≡ lines) →
    MatchResult result (λ status. Gets out text × Gets err [] × (status ≡ Done))
    (λ status. GetsPrefix out text × IsWritten err (unwritten_line standard_output) Trouble status)
    →
    MatchResult result (IsFileListed out err bytes label name)
    (CutsLines out err bytes label)
sent out err bytes label name text (Err status) tells cut = (
  record {
    listing = tells.listing;
    has = tells.has;
    told = λ spell is. subst (GetsPrefix out) (tells.told spell is) cut.0;
  },
  cut.1,
)
sent out err bytes label name text (Ok status) tells got = inl (
  record {
    listing = tells.listing;
    has = tells.has;
    told = λ spell is. subst (Gets out) (tells.told spell is) got.0;
  },
  got.1,
  got.2,
)

-- ---- the files

module _ (bytes : List ℕ → Option (List ℕ)) (several : Bool) where
  pub listed_more : (out mid out' err mid_err err' : Held) (names : List (List ℕ))
      (name : List ℕ) (status one : Status) →
      AreListed bytes several out mid err mid_err names status →
      IsFileListed (between mid out') (between mid_err err') (bytes name)
      (file_label several name) name one →
      AreListed bytes several out out' err err' (names ++ (name ∷ [])) (worse status one)
  listed_more out mid out' err mid_err err' [] name status one are next =
      let here = subst (λ (o : Held). IsFileListed (between o out') (between mid_err err')
      (bytes name) (file_label several name) name one) are.0 next in
      let there = subst (λ (e : Held). IsFileListed (between out out') (between e err')
      (bytes name) (file_label several name) name one) are.1 here in (
        out',
        err',
        one,
        Done,
        there,
        (refl, refl, refl),
        ap (λ (s : Status). worse s one) are.2 ∙ worse_same Done one,
      )
  listed_more out mid out' err mid_err err' (first ∷ names) name status one
      (m, me, s, others, is, later, worst) next = (
        m,
        me,
        s,
        worse others one,
        is,
        listed_more m mid out' me mid_err err' names name others one later next,
        ap (λ (t : Status). worse t one) worst ∙ worse_three s others one,
      )

-- ---- the names that were opened

module _ (before mid after : List (List ℕ)) where
  once : (name : List ℕ) (times : ℕ) → times ≤ 1 → after ≡ mid ++ replicate times name →
      (after ≡ mid) ⊎ (after ≡ mid ++ (name ∷ []))
  once name zero few is = inl (is ∙ append-nil mid)
  once name (suc zero) few is = inr is
  once name (suc (suc n)) few is = absurd (omega (arith, few))

opens_next : (before mid after names : List (List ℕ)) (name : List ℕ) → OpensSome before mid names →
    (after ≡ mid) ⊎ (after ≡ mid ++ (name ∷ [])) →
    OpensSome before after (names ++ (name ∷ []))
opens_next before mid after [] name is (inl none) = inl (none ∙ is)
opens_next before mid after [] name is (inr one) =
    inr (one ∙ ap (λ (l : List (List ℕ)). l ++ (name ∷ [])) is)
opens_next before mid after (first ∷ names) name (inl skipped) next =
    inl (opens_next before mid after names name skipped next)
opens_next before mid after (first ∷ names) name (inr opened) next =
    inr (opens_next (before ++ (first ∷ [])) mid after names name opened next)

none_opened : (before names : List (List ℕ)) → OpensSome before before names
none_opened before [] = refl
none_opened before (name ∷ names) = inl (none_opened before names)

opens_no_more : (before after names later : List (List ℕ)) → OpensSome before after names →
    OpensSome before after (names ++ later)
opens_no_more before after [] later is =
    subst (λ (l : List (List ℕ)). OpensSome before l later) (sym is) (none_opened before later)
opens_no_more before after (first ∷ names) later (inl skipped) =
    inl (opens_no_more before after names later skipped)
opens_no_more before after (first ∷ names) later (inr opened) =
    inr (opens_no_more (before ++ (first ∷ [])) after names later opened)

module _ (before mid after names : List (List ℕ)) (name : List ℕ) (status : Status)
    (are : OpensEach before mid names status) (next : OpensUpTo mid after name 1) where
  opens_more : OpensSome before after (names ++ (name ∷ []))
  opens_more = opens_next before mid after names name are.some
      (once before mid after name next.times next.few next.opened)

  pub each_more : (one : Status) → (one ≡ Done → after ≡ mid ++ (name ∷ [])) →
      OpensEach before after (names ++ (name ∷ [])) (worse status one)
  each_more one opened = record {
    some = opens_more;
    all = λ done.
        let both = both_done status one done in
        opened both.1 ∙ ap (λ (l : List (List ℕ)). l ++ (name ∷ [])) (are.all both.0)
        ∙ append_assoc before names (name ∷ []);
  }

  pub each_cut : (later all : List (List ℕ)) → all ≡ names ++ (name ∷ later) →
      (cut : Status) → cut ≢ Done → OpensEach before after all cut
  each_cut later all is cut undone = record {
    some = subst (OpensSome before after) (append_assoc names (name ∷ []) later ∙ sym is)
        (opens_no_more before after (names ++ (name ∷ [])) later opens_more);
    all = λ done. absurd (undone done);
  }

-- ---- one name more

module _ {X : Type 0} (f : X → List ℕ) (xs : List X) (i : ℕ) (x : X) (lt : i < length xs)
    (is : x ≡ get_or xs i x) where
  pub names_more : map f (take (i + 1) xs) ≡ map f (take i xs) ++ (f x ∷ [])
  names_more =
      ap (map f) (take_more xs i x lt ∙ ap (λ y. take i xs ++ (y ∷ [])) (sym is))
      ∙ map-append f (take i xs) (x ∷ [])

  pub names_around : map f xs ≡ map f (take i xs) ++ (f x ∷ map f (drop (i + 1) xs))
  names_around =
      ap (map f) (sym (take-append-drop i xs)) ∙ map-append f (take i xs) (drop i xs)
      ∙ ap (λ ys. map f (take i xs) ++ map f ys)
      (drop_more xs i x lt ∙ ap (λ y. y ∷ drop (i + 1) xs) (sym is))
