-- The canonical block is read again as what was written.
use Rattle.std.proofs.Common.{◌≡◌, ℕ, zero, suc, ◌+◌, ◌-◌, ◌^◌, ◌≤◌, ◌<◌, List, [], ◌∷◌, ◌++◌, map}
use Rattle.std.proofs.Common.{arith, refl, sym, ap, ◌∙◌, subst, append_assoc, inl, inr, pos, neg_ℤ}
use Rattle.std.proofs.Common.{Option, Some, None}
use Rattle.std.specs.Prelude.{replicate, unsigned_abs, ◌-ℤ◌, ◌+ℤ◌, ◌≤ℤ◌, ◌<ℤ◌, nat_le, IfSome}
use Rattle.std.specs.Prelude.{if◌then◌else◌}
use Rattle.std.specs.List.{AllByRecursion, flat_map}
use Rattle.std.proofs.lemmas.Bool.{cases_lt}
use Rattle.std.proofs.lemmas.Bool.Decides.{nat_tests}
use Rattle.std.proofs.lemmas.Int.{ints}
use Rattle.std.proofs.lemmas.List.{append-nil}
use Rattle.std.proofs.lemmas.Str.{IsUtf8-nil}
use Rattle.edf_time.specs.Decimal.{IsSeconds, short}
use Rattle.edf_time.specs.Civil.{window, IsInWindow}
use Rattle.edf_time.proofs.Cited.{IsSeconds-short}
use Rattle.edf_tal.specs.Tal.{Tal, Annotation, IsValidAnnotation, IsTal, IsOnset, IsDurationPart}
use Rattle.edf_tal.specs.Tal.{terminated, AreTals, AreTalsAndZeros, HaveUtf8Texts}
use Rattle.edf_tal.specs.Tal.{HasTimeKeepingTal, IsTalInWindow, instant, tal_annotations}
use Rattle.edf_tal.specs.Tal.{annotations, record_start}
use Rattle.edf_tal.specs.Block.{BlocksParseTo, BlockParsesTo, IsWithinLimits, StartFitsPlace}
use Rattle.edf_tal.specs.Canonical.{onset_text, duration_text, tal_text, time_keeping_annotation}
use Rattle.edf_tal.specs.Canonical.{tals_text}
use Rattle.edf_tal.specs.declared.place.Place.{Place}
use Rattle.edf_tal.specs.declared.place.Place.TheVariants.{First, After, Any}
use Rattle.edf_tal.specs.Inside.Scan.{AreZeros}
use Rattle.edf_tal.proofs.Joined.{all_tals-one}
use Rattle.edf_tal.proofs.Judge.{SameAnswer, one-read}

ahead : (base onset : ℕ) → base ≤ onset → pos onset -ℤ pos base ≡ pos (onset - base)
ahead base onset h = omega (arith, ints)

from-before : (base onset : ℕ) → onset < base → pos onset -ℤ pos base ≡ neg_ℤ (pos (base - onset))
from-before base onset h = omega (arith, ints)

abs-neg : (n : ℕ) → unsigned_abs (neg_ℤ (pos n)) ≡ n
abs-neg zero = refl
abs-neg (suc n) = refl

plus : (base onset : ℕ) → base ≤ onset → ◌≡◌ {A = ℕ} (if nat_le base onset then 43 else 45) 43
plus base onset h = grind (arith, nat_tests)

minus : (base onset : ℕ) → onset < base → ◌≡◌ {A = ℕ} (if nat_le base onset then 43 else 45) 45
minus base onset h = grind (arith, nat_tests)

seconds : (n : ℕ) → n < window → IsSeconds (short n) n
seconds n h = IsSeconds-short n (omega arith)

-- an onset that is written spells how far it lies from the base
pub IsOnset-text : (base onset : ℕ) → base < window → onset < window →
    IsOnset (onset_text base onset) (pos onset -ℤ pos base)
IsOnset-text base onset low in-window =
    elim (cases_lt onset base) [
      | inl less ↦
          let z = from-before base onset less in
          let n : unsigned_abs (pos onset -ℤ pos base) ≡ base - onset = ap unsigned_abs z
          ∙ abs-neg (base - onset) in
          inr (
            minus base onset less,
            (
              base - onset,
              rw n (seconds (base - onset) (omega arith)),
              z,
            ),
          )
      | inr more ↦
          let z = ahead base onset more in
          let n : unsigned_abs (pos onset -ℤ pos base) ≡ onset - base = ap unsigned_abs z in
          inl (plus base onset more, (onset - base, rw n (seconds (onset - base) (omega arith)), z))
    ]

pub IsDurationPart-text : (d : Option ℕ) → IfSome d (λ n. n < window) →
    IsDurationPart (duration_text d) d
IsDurationPart-text None h = refl
IsDurationPart-text (Some n) h = (short n, refl, seconds n h)

-- the TAL that is written for an annotation
abbrev pub tal_of : ℕ → Annotation → Tal
tal_of base a = record {
  onset = pos a.onset -ℤ pos base;
  duration = a.duration;
  texts =
      a.text ∷ [];
}

pub in-parts : (o d x : List ℕ) → o ++ (d ++ (20 ∷ (x ++ (20 ∷ 0 ∷ [])))) ≡ o ++ d
    ++ 20 ∷ terminated (x ∷ []) ++ 0 ∷ []
in-parts o d x = simp (append_assoc, append-nil)

IsTal-text : (base : ℕ) (a : Annotation) → base < window → IsValidAnnotation a →
    IsTal (tal_text base a) (tal_of base a)
IsTal-text base a low h = record {
  onset = onset_text base a.onset;
  duration = duration_text a.duration;
  parts = in-parts (onset_text base a.onset) (duration_text a.duration) a.text;
  is_onset = IsOnset-text base a.onset low h.onset;
  is_duration = IsDurationPart-text a.duration h.duration;
  are_texts = (h.text, tt);
}

AreTals-text : (base : ℕ) (list : List Annotation) → base < window →
    AllByRecursion IsValidAnnotation list →
    AreTals (flat_map (tal_text base) list) (map (tal_of base) list)
AreTals-text base [] low h = refl
AreTals-text base (a ∷ list) low h = (
  tal_text base a,
  flat_map (tal_text base) list,
  refl,
  IsTal-text base a low h.0,
  AreTals-text base list low h.1,
)

HaveUtf8Texts-text : (base : ℕ) (list : List Annotation) → AllByRecursion IsValidAnnotation list →
    HaveUtf8Texts (map (tal_of base) list)
HaveUtf8Texts-text base [] h = tt
HaveUtf8Texts-text base (a ∷ list) h = ((h.0.utf8, tt), HaveUtf8Texts-text base list h.1)

AreZeros-replicate : (n : ℕ) → AreZeros (replicate n 0)
AreZeros-replicate zero = tt
AreZeros-replicate (suc n) = (refl, AreZeros-replicate n)

onset-back : (base onset : ℕ) → pos base +ℤ (pos onset -ℤ pos base) ≡ pos onset
onset-back base onset = omega (arith, ints)

pub instant-back : (base onset : ℕ) → instant base (pos onset -ℤ pos base) ≡ onset
instant-back base onset = ap unsigned_abs (onset-back base onset)

in-window : (base onset : ℕ) → onset < window → IsInWindow (pos base +ℤ (pos onset -ℤ pos base))
in-window base onset h = rw (onset-back base onset)
    (record { from = omega (arith, ints); to = omega (arith, ints) })

AreInWindow-text : (base : ℕ) (list : List Annotation) → AllByRecursion IsValidAnnotation list →
    AllByRecursion (IsTalInWindow base) (map (tal_of base) list)
AreInWindow-text base [] h = tt
AreInWindow-text base (a ∷ list) h = (
  record { onset = in-window base a.onset h.0.onset; duration = h.0.duration },
  AreInWindow-text base list h.1,
)

list-back : (base : ℕ) (list : List Annotation) →
    flat_map (tal_annotations base) (map (tal_of base) list) ≡ list
list-back base [] = refl
list-back base (a ∷ list) =
    let first : a ≡ record {
      onset = instant base (pos a.onset -ℤ pos base);
      duration = a.duration;
      text = a.text;
    } =
    ap (λ (o : ℕ). record a { onset = o }) (sym (instant-back base a.onset)) in
    let more = list-back base list in
    cc

IsAnnotation-time_keeping : (start : ℕ) → start < window →
    IsValidAnnotation (time_keeping_annotation start)
IsAnnotation-time_keeping start h = record {
  onset = h;
  duration = tt;
  text = tt;
  utf8 =
      IsUtf8-nil;
}

-- the one block of a data record, with these TALs
pub read-of : (b : List ℕ) (s : ℕ) (p : Place) (start : ℕ) (list : List Annotation) (ts : List Tal)
    → AreTalsAndZeros b ts → HaveUtf8Texts ts → HasTimeKeepingTal ts → StartFitsPlace p s ts
    → AllByRecursion (IsTalInWindow s) ts → IsWithinLimits list → start ≡ record_start s ts →
    list ≡ annotations s ts → BlockParsesTo b s p start list
read-of b s p start list ts whole good timed keeps window limits start-is list-is =
    let one = all_tals-one ts in
    record {
      tals = ts ∷ [];
      lists = (whole, tt);
      good = subst HaveUtf8Texts one good;
      timed = timed;
      fits_place = keeps;
      window = subst (AllByRecursion (IsTalInWindow s)) one window;
      limits = limits;
      start_is = start-is;
      list_is = list-is ∙ ap (annotations s) one;
    }

-- a written block, with any fill, where the first onset keeps its place
pub read-again : (p : Place) (base start n : ℕ) (list : List Annotation) → base < window →
    start < window → AllByRecursion IsValidAnnotation list → IsWithinLimits list
    → StartFitsPlace p base (map (tal_of base) (time_keeping_annotation start ∷ list)) →
    BlockParsesTo (tals_text base start list ++ replicate n 0) base p start list
read-again p base start n list low in-window' all limits keeps =
    let whole : AllByRecursion IsValidAnnotation (time_keeping_annotation start ∷ list) =
    (IsAnnotation-time_keeping start in-window', all) in
    read-of (tals_text base start list ++ replicate n 0) base p start list
    (map (tal_of base) (time_keeping_annotation start ∷ list)) (
      tals_text base start list,
      replicate n 0,
      refl,
      AreTals-text base (time_keeping_annotation start ∷ list) low whole,
      AreZeros-replicate n,
    )
    (HaveUtf8Texts-text base (time_keeping_annotation start ∷ list) whole) (
      [],
      refl,
    ) keeps (AreInWindow-text base (time_keeping_annotation start ∷ list) whole) limits
    (sym (instant-back base start)) (sym (list-back base list))

keeps-first : (base start : ℕ) → base ≤ start → start < base + 10 ^ 9 →
    (pos 0 ≤ℤ (pos start -ℤ pos base)) × ((pos start -ℤ pos base) <ℤ pos (10 ^ 9))
keeps-first base start low high = (omega (arith, ints), omega (arith, ints))

pub read-first : (base start n : ℕ) (list : List Annotation) → base < window → start < window →
    AllByRecursion IsValidAnnotation list → IsWithinLimits list → base ≤ start → start < base + 10 ^
    9 → BlockParsesTo (tals_text base start list ++ replicate n 0) base First start list
read-first base start n list low in-window' all limits from to =
    read-again First base start n list low in-window' all limits (keeps-first base start from to)

pub read-after : (base start n before duration : ℕ) (list : List Annotation) → base < window →
    start < window → AllByRecursion IsValidAnnotation list → IsWithinLimits list
    → before + duration ≤ start → BlockParsesTo (tals_text base start list
    ++ replicate n 0) base (After before duration) start list
read-after base start n before duration list low in-window' all limits later =
    read-again (After before duration) base start n list low in-window' all limits
    (rw (instant-back base start) later)

pub read-any : (base start n : ℕ) (list : List Annotation) → base < window → start < window →
    AllByRecursion IsValidAnnotation list → IsWithinLimits list
    → BlockParsesTo (tals_text base start list ++ replicate n 0) base Any start list
read-any base start n list low in-window' all limits =
    read-again Any base start n list low in-window' all limits tt

pub read-alone : (base start : ℕ) (list : List Annotation) → base < window → start < window →
    AllByRecursion IsValidAnnotation list → IsWithinLimits list
    → BlockParsesTo (tals_text base start list) base Any start list
read-alone base start list low in-window' all limits =
    subst (λ (x : List ℕ). BlockParsesTo x base Any start list)
    (append-nil (tals_text base start list)) (read-any base start 0 list low in-window' all limits)

-- what is read at a place is read without one
pub blocks-read-elsewhere : (bs : List (List ℕ)) (s : ℕ) (p : Place) (start : ℕ)
    (list : List Annotation) → BlocksParseTo bs s p start list → BlocksParseTo bs s Any start list
blocks-read-elsewhere bs s p start list r = record {
  tals = r.tals;
  lists = r.lists;
  good = r.good;
  timed = r.timed;
  fits_place = tt;
  window = r.window;
  limits = r.limits;
  start_is = r.start_is;
  list_is = r.list_is;
}

pub read-elsewhere : (b : List ℕ) (s : ℕ) (p : Place) (start : ℕ) (list : List Annotation) →
    BlockParsesTo b s p start list → BlockParsesTo b s Any start list
read-elsewhere b s p start list r = blocks-read-elsewhere (b ∷ []) s p start list r

-- a canonical block is written of one start and list
pub one-writing : (base m n : ℕ) (k l : List Annotation) → base < window → m < window → n < window →
    AllByRecursion IsValidAnnotation k → AllByRecursion IsValidAnnotation l → IsWithinLimits k →
    IsWithinLimits l → tals_text base m k ≡ tals_text base n l → SameAnswer m n k l
one-writing base m n k l low p q a b c d e =
    one-read (tals_text base m k) base Any m n k l (read-alone base m k low p a c)
    (subst (λ (x : List ℕ). BlockParsesTo x base Any n l) (sym e) (read-alone base n l low q b d))
