-- What is decided of the blocks of a data record.
use Rattle.std.proofs.Common.{◌≡◌, ℕ, zero, suc, ◌+◌, ◌-◌, ◌^◌, ◌≤◌, ◌<◌, ◌⊎◌, inl, inr, Bool, true}
use Rattle.std.proofs.Common.{false, ◌&&◌, List, [], ◌∷◌, ◌++◌, length, arith, refl, sym, ap, ◌∙◌}
use Rattle.std.proofs.Common.{subst, append-nil, append_assoc, ℤ, pos, negsuc, ◌≤ℤ◌, ◌<ℤ◌, ◌+ℤ◌}
use Rattle.std.proofs.Common.{Option, Some, None}
use Rattle.std.specs.Prelude.{sum_by, IsTrue, IsUtf8, IfSome, ◌↔◌}
use Rattle.std.specs.Str.{is_utf8}
use Rattle.std.specs.List.{AllByRecursion}
use Rattle.std.proofs.lemmas.Bool.{cases_eq, cases_lt}
use Rattle.std.proofs.lemmas.Int.{ints}
use Rattle.std.proofs.lemmas.Str.{IsUtf8-from_is_utf8, is_utf8-from_IsUtf8}
use Rattle.edf_time.specs.Civil.{window}
use Rattle.edf_tal.specs.Tal.{Tal, IsText, terminated, IsTalInWindow}
use Rattle.edf_tal.specs.Condition.{HasNonUtf8TextAt, AreMalformedAt}
use Rattle.edf_tal.specs.Inside.Scan.{Lacks, NoTal, AreZeros, IsLeadingTal, HasNonUtf8TextAmong}
use Rattle.edf_tal.specs.Inside.Scan.{BeginWithUtf8Texts, FollowsTals, IsSurvey}
use Rattle.edf_tal.specs.Inside.Scan.{StartsInFirstSecond, StartsInOrder}
use Rattle.edf_tal.specs.Inside.Blocks.{HasForm}
use Rattle.edf_tal.specs.declared.blocks.Form.{Form}
use Rattle.edf_tal.specs.declared.blocks.Form.TheVariants.{Good, BadText}
use Rattle.edf_tal.specs.declared.limits.TheConstants.{MOST_ANNOTATIONS, MOST_TEXT_BYTES}
use Rattle.edf_tal.specs.declared.place.Place.{Place}
use Rattle.edf_tal.specs.declared.place.Place.TheVariants.{First, After, Any}
use Rattle.edf_tal.proofs.Unique.{Lacks-text}
use Rattle.edf_tal.proofs.Decide.{Front, front}
use Rattle.edf_tal.proofs.Totals.{after-none, after-more, after-after, front-shorter, good-count}
use Rattle.edf_tal.proofs.Totals.{survey-none, survey-more, survey-bad, survey-after, both-true}
use Rattle.edf_tal.proofs.Joined.{form-append, form-lists, form-bad, broken-one, broken-front}
use Rattle.edf_tal.proofs.Joined.{broken-back, surveyed-one, surveyed-none}

-- ---- what is decided

utf8 : (text : List ℕ) → IsUtf8 text ⊎ (¬ IsUtf8 text)
utf8 text = go (is_utf8 text) refl
  where
    go : (b : Bool) → is_utf8 text ≡ b → IsUtf8 text ⊎ (¬ IsUtf8 text)
    go true e = inl (IsUtf8-from_is_utf8 text e)
    go false e = inr (λ u. let both : false ≡ true = sym e ∙ is_utf8-from_IsUtf8 text u in
        absurd cc)

zeros : (bytes : List ℕ) → AreZeros bytes ⊎ (¬ AreZeros bytes)
zeros [] = inl tt
zeros (b ∷ bytes) =
    elim (cases_eq b 0) [
      | inl is ↦ elim (zeros bytes) [
        | inl all ↦ inl (is, all)
        | inr never ↦
            inr (λ all. never all.1)
      ]
      | inr isnt ↦ inr (λ all. isnt all.0)
    ]

-- a number of the numbers from 0 on, below another
below : (z : ℤ) (n : ℕ) → ((pos 0 ≤ℤ z) × (z <ℤ pos n)) ⊎ (¬ ((pos 0 ≤ℤ z) × (z <ℤ pos n)))
below (pos m) n =
    elim (cases_lt m n) [
      | inl low ↦ inl (omega (arith, ints), omega (arith, ints))
      | inr high ↦ inr (λ h. let lt : pos m <ℤ pos n = h.1 in absurd (omega (arith, ints)))
    ]
below (negsuc m) n = inr (λ h. let le : pos 0 ≤ℤ negsuc m = h.0 in absurd (omega (arith, ints)))

short-duration : (d : Option ℕ) → IfSome d (λ n. n < window) ⊎ (¬ IfSome d (λ n. n < window))
short-duration None = inl tt
short-duration (Some n) =
    elim (cases_lt n window) [
      | inl low ↦ inl low
      | inr high ↦
          inr (λ low. let l : n < window = low in absurd (omega arith))
    ]

in-window : (s : ℕ) (t : Tal) → IsTalInWindow s t ⊎ (¬ IsTalInWindow s t)
in-window s t =
    elim (below (pos s +ℤ t.onset) window) [
      | inl o ↦ elim (short-duration t.duration) [
        | inl d ↦ inl (record { onset = record { from = o.0; to = o.1 }; duration = d })
        | inr never ↦ inr (λ w. never w.duration)
      ]
      | inr never ↦ inr (λ w. never (w.onset.from, w.onset.to))
    ]

-- as a bit
bit : {P : Type 0} → P ⊎ (¬ P) → (b : Bool) × (IsTrue b ↔ P)
bit (inl p) = (true, (λ h. p, λ h. refl))
bit (inr never) = (false, (λ h. absurd (let e : false ≡ true = h in cc), λ p. absurd (never p)))

-- the texts of a TAL
texts-of : (xs : List (List ℕ)) → AllByRecursion IsText xs →
    AllByRecursion (λ x. Lacks 20 x × IsUtf8 x) xs
    ⊎ ((at : ℕ) × HasNonUtf8TextAmong (terminated xs) at)
texts-of [] a = inl tt
texts-of (x ∷ xs) a =
    elim (utf8 x) [
      | inl u ↦ elim (texts-of xs a.1) [
        | inl good ↦ inl ((Lacks-text x a.0, u), good)
        | inr bad ↦ inr (
          length (terminated (x ∷ bad.1.good)),
          record {
            good = x ∷ bad.1.good;
            text = bad.1.text;
            suffix = bad.1.suffix;
            parts = ap (λ (w : List ℕ). (x ++ 20 ∷ []) ++ w) bad.1.parts
                ∙ sym (append_assoc (x ++ 20 ∷ []) (terminated bad.1.good) (bad.1.text
                ++ 20 ∷ bad.1.suffix));
            good_texts = ((Lacks-text x a.0, u), bad.1.good_texts);
            is_text = bad.1.is_text;
            bad = bad.1.bad;
            at_is = refl;
          },
        )
      ]
      | inr never ↦ inr (
        0,
        record {
          good = [];
          text = x;
          suffix = terminated xs;
          parts = append_assoc x (20 ∷ []) (terminated xs);
          good_texts = tt;
          is_text = Lacks-text x a.0;
          bad = never;
          at_is = refl;
        },
      )
    ]

front-texts : (bytes texts rest : List ℕ) (t : Tal) → IsLeadingTal bytes texts rest t →
    BeginWithUtf8Texts texts (length t.texts) ⊎ ((at : ℕ) × HasNonUtf8TextAmong texts at)
front-texts bytes texts rest t f =
    elim (texts-of t.texts f.tal.are_texts) [
      | inl good ↦ inl (record {
        list = t.texts;
        rest = [];
        parts = f.texts_are
            ∙ sym (append-nil (terminated t.texts));
        good = good;
        is_rest = tt;
        count_is = refl;
      })
      | inr bad ↦ inr (
        bad.0,
        subst (λ (w : List ℕ). HasNonUtf8TextAmong w bad.0)
            (sym f.texts_are) bad.1,
      )
    ]

-- ---- one TAL after another

-- what comes after the TALs
after-tals : (fuel : ℕ) (bytes : List ℕ) → length bytes < fuel → (rest : List ℕ)
    × FollowsTals bytes rest × NoTal rest
after-tals zero bytes short = absurd (omega arith)
after-tals (suc fuel) bytes short =
    elim (front bytes) [
      | inl f ↦
          let less = front-shorter bytes f.texts f.rest f.tal f.is_front in
          let more = after-tals fuel f.rest (omega arith) in (
            more.0,
            after-after bytes f.rest more.0
                (after-more bytes bytes f.texts f.rest f.tal (after-none bytes) f.is_front) more.1,
            more.2,
          )
      | inr none ↦ (bytes, after-none bytes, none)
    ]

-- TALs with good texts, or a text that is no UTF-8
pub record Surveyed (block : List ℕ) (s : ℕ) : Type 0 where
  pub rest : List ℕ
  pub in_window : Bool
  pub count : ℕ
  pub bytes : ℕ
  pub is_survey : IsSurvey block s rest in_window count bytes
  pub last : NoTal rest

pub record IsBadSurvey (block : List ℕ) : Type 0 where
  pub rest : List ℕ
  pub at : ℕ
  pub is_after : FollowsTals block rest
  pub last : NoTal rest
  pub bad : HasNonUtf8TextAt block at

bad-survey : (block rest : List ℕ) (s : ℕ) (in_window : Bool) (count bytes : ℕ) (f : Front rest)
    (at : ℕ) → IsSurvey block s rest in_window count bytes
    → HasNonUtf8TextAmong f.texts at → IsBadSurvey block
bad-survey block rest s in_window count bytes f at v b =
    let more = after-tals (suc (length f.rest)) f.rest (omega arith) in
    record {
      rest = more.0;
      at = length block - length f.rest - 1 - length f.texts + at;
      is_after = after-after block f.rest more.0
          (after-more block rest f.texts f.rest f.tal
          (survey-after block rest s in_window count bytes v) f.is_front) more.1;
      last = more.2;
      bad = survey-bad block rest f.texts f.rest s f.tal in_window count bytes at v f.is_front b;
    }

survey-from : (fuel : ℕ) (block rest : List ℕ) (s : ℕ) (in_window : Bool) (count bytes : ℕ) →
    length rest < fuel → IsSurvey block s rest in_window count bytes
    → Surveyed block s ⊎ IsBadSurvey block
survey-from zero block rest s in_window count bytes short v = absurd (omega arith)
survey-from (suc fuel) block rest s in_window count bytes short v =
    elim (front rest) [
      | inl f ↦ elim (front-texts rest f.texts f.rest f.tal f.is_front) [
        | inl good ↦
            let less = front-shorter rest f.texts f.rest f.tal f.is_front in
            let few = good-count f.texts (length f.tal.texts) good in
            let here = bit (in-window s f.tal) in
            let sum : length f.tal.texts + (length f.texts - length f.tal.texts) ≡ length f.texts =
            omega arith in
            survey-from fuel block f.rest s (in_window && here.0) (count + length f.tal.texts)
            (bytes + (length f.texts - length f.tal.texts)) (omega arith)
            (survey-more block rest f.texts f.rest s f.tal in_window (in_window && here.0) here.0
            count bytes (length f.tal.texts) (length f.texts - length f.tal.texts)
            v f.is_front good here.1 (both-true in_window here.0) sum)
        | inr bad ↦ inr (bad-survey block rest s in_window count bytes f bad.0 v bad.1)
      ]
      | inr none ↦ inl (record {
        rest = rest;
        in_window = in_window;
        count = count;
        bytes = bytes;
        is_survey = v;
        last = none;
      })
    ]

survey : (block : List ℕ) (s : ℕ) → Surveyed block s ⊎ IsBadSurvey block
survey block s = survey-from (suc (length block)) block block s true 0 0 (omega arith)
    (survey-none block s)

-- ---- the first TAL's rules

pub keeps-second : (p : Place) (z : ℤ) → StartsInFirstSecond p z ⊎ (¬ StartsInFirstSecond p z)
keeps-second First z = below z (10 ^ 9)
keeps-second (After before duration) z = inl tt
keeps-second Any z = inl tt

pub keeps-order : (p : Place) (start : ℕ) → StartsInOrder p start ⊎ (¬ StartsInOrder p start)
keeps-order First start = inl tt
keeps-order (After before duration) start =
    elim (cases_lt start (before + duration)) [
      | inl low ↦
          inr (λ h. let le : before + duration ≤ start = h in absurd (omega arith))
      | inr high ↦
          inl high
    ]
keeps-order Any start = inl tt

pub true-or-not : (b : Bool) → IsTrue b ⊎ (¬ IsTrue b)
true-or-not true = inl refl
true-or-not false = inr (λ h. absurd (let e : false ≡ true = h in cc))

pub few-or-not : (count bytes : ℕ) → ((count ≤ MOST_ANNOTATIONS + 1) × (bytes ≤ MOST_TEXT_BYTES))
    ⊎ (¬ ((count ≤ MOST_ANNOTATIONS + 1) × (bytes ≤ MOST_TEXT_BYTES)))
few-or-not count bytes =
    elim (cases_lt (MOST_ANNOTATIONS + 1) count) [
      | inl many ↦ inr (λ h. let le = h.0 in absurd (omega arith))
      | inr few ↦ elim (cases_lt MOST_TEXT_BYTES bytes) [
        | inl many ↦
            inr (λ h. let le = h.1 in absurd (omega arith))
        | inr short ↦ inl (few, short)
      ]
    ]

pub empty-or-not : (texts : List ℕ) → ((rest : List ℕ) × (texts ≡ 20 ∷ rest))
    ⊎ (¬ ((rest : List ℕ) × (texts ≡ 20 ∷ rest)))
empty-or-not [] = inr (λ (rest, e). absurd cc)
empty-or-not (b ∷ texts) =
    elim (cases_eq b 20) [
      | inl is ↦ inl (texts, ap (λ (x : ℕ). x ∷ texts) is)
      | inr isnt ↦ inr (λ (rest, e). isnt (let z : b ≡ 20 = cc in z))
    ]

-- ---- what blocks are

form : (b : List ℕ) (s : ℕ) → ((f : Form) × HasForm (b ∷ []) s f)
    ⊎ ((at : ℕ) × AreMalformedAt (b ∷ []) at)
form b s =
    elim (survey b s) [
      | inl v ↦ elim (zeros v.rest) [
        | inl z ↦ inl (
          Good (record {
            in_window = v.in_window;
            count = v.count;
            text_bytes =
                v.bytes;
          }),
          surveyed-one b v.rest s v.in_window v.count v.bytes v.is_survey z,
        )
        | inr never ↦ inr (
          length b - length v.rest,
          broken-one b v.rest (survey-after b v.rest s v.in_window v.count v.bytes v.is_survey)
              v.last never,
        )
      ]
      | inr x ↦ elim (zeros x.rest) [
        | inl z ↦ inl (BadText x.at, form-bad b x.rest s x.at x.is_after z x.bad)
        | inr never ↦ inr (length b - length x.rest, broken-one b x.rest x.is_after x.last never)
      ]
    ]

pub forms : (bs : List (List ℕ)) (s : ℕ) →
    ((f : Form) × HasForm bs s f) ⊎ ((at : ℕ) × AreMalformedAt bs at)
forms [] s = inl (Good (record { in_window = true; count = 0; text_bytes = 0 }), surveyed-none s)
forms (b ∷ bs) s =
    elim (form b s) [
      | inl f ↦ elim (forms bs s) [
        | inl g ↦ inl (form-append (b ∷ []) bs s f.0 g.0 f.1 g.1)
        | inr x ↦ let l = form-lists (b ∷ []) s f.0 f.1 in
            inr (sum_by length (b ∷ []) + x.0, broken-back (b ∷ []) bs l.0 x.0 l.1 x.1)
      ]
      | inr x ↦ inr (x.0, broken-front (b ∷ []) bs x.0 x.1)
    ]
