-- What is read is an instant of the window and a list of annotations within the limits.
use Rattle.std.proofs.Common.{ℕ, ◌<◌, List, [], ◌∷◌, drop, map, arith, ℤ, pos, negsuc, Option}
use Rattle.std.specs.Prelude.{IsUtf8, unsigned_abs, ◌+ℤ◌, ◌≤ℤ◌, ◌<ℤ◌, IfSome}
use Rattle.std.specs.List.{AllByRecursion, flat_map}
use Rattle.std.proofs.lemmas.Grind.{flat_map-append}
use Rattle.std.proofs.lemmas.Int.{ints}
use Rattle.edf_time.specs.Civil.{window}
use Rattle.edf_tal.specs.Tal.{Tal, Annotation, IsValidAnnotation, IsText, AreTals, AreTalBlocks}
use Rattle.edf_tal.specs.Tal.{first_block_tals, all_tals, HaveUtf8Texts, HasTimeKeepingTal}
use Rattle.edf_tal.specs.Tal.{IsTalInWindow, instant, tal_annotations, record_start}
use Rattle.edf_tal.specs.Block.{BlocksParseTo, BlockParsesTo}
use Rattle.edf_tal.specs.declared.place.Place.{Place}
use Rattle.edf_tal.proofs.Joined.{all-append, all-front, all-back}

below : (z : ℤ) → z <ℤ pos window → pos 0 ≤ℤ z → unsigned_abs z < window
below (pos n) h l = omega (arith, ints)
below (negsuc n) h l = absurd (omega (arith, ints))

pub instant-below : (s : ℕ) (t : Tal) → IsTalInWindow s t → instant s t.onset < window
instant-below s t h = below (pos s +ℤ t.onset) h.onset.to h.onset.from

all-drop : (P : Annotation → Type 0) (xs : List Annotation) → AllByRecursion P xs →
    AllByRecursion P (drop 1 xs)
all-drop P [] p = tt
all-drop P (x ∷ xs) p = p.1

of-texts : (onset : ℕ) (duration : Option ℕ) (texts : List (List ℕ)) → onset < window →
    IfSome duration (λ d. d < window) → AllByRecursion IsText texts
    → AllByRecursion IsUtf8 texts → AllByRecursion IsValidAnnotation
    (map (λ text. record { onset = onset; duration = duration; text = text }) texts)
of-texts onset duration [] o d t u = tt
of-texts onset duration (x ∷ texts) o d t u = (
  record { onset = o; duration = d; text = t.0; utf8 = u.0 },
  of-texts onset duration texts o d t.1 u.1,
)

of-tals : (s : ℕ) (front : List ℕ) (ts : List Tal) → AreTals front ts → HaveUtf8Texts ts →
    AllByRecursion (IsTalInWindow s) ts
    → AllByRecursion IsValidAnnotation (flat_map (tal_annotations s) ts)
of-tals s front [] a g w = tt
of-tals s front (t ∷ ts) (f, r, parts, is, more) g w =
    all-append IsValidAnnotation (tal_annotations s t) (flat_map (tal_annotations s) ts)
    (of-texts (instant s t.onset) t.duration t.texts (instant-below s t w.0) w.0.duration
    is.are_texts g.0) (of-tals s r ts more g.1 w.1)

of-lists : (s : ℕ) (bs : List (List ℕ)) (tss : List (List Tal)) → AreTalBlocks bs tss →
    HaveUtf8Texts (all_tals tss) → AllByRecursion (IsTalInWindow s) (all_tals tss)
    → AllByRecursion IsValidAnnotation (flat_map (tal_annotations s) (all_tals tss))
of-lists s [] [] l g w = tt
of-lists s [] (ts ∷ tss) l g w = absurd l
of-lists s (b ∷ bs) [] l g w = absurd l
of-lists s (b ∷ bs) (ts ∷ tss) ((front, zeros, parts, tals, are), more) g w =
    let others = all_tals tss in
    rw (flat_map-append (tal_annotations s) ts others) (
    all-append IsValidAnnotation (flat_map (tal_annotations s) ts) (flat_map (tal_annotations s)
    others) (of-tals s front ts tals (all-front (λ (t : Tal). AllByRecursion IsUtf8 t.texts) ts
    others g) (all-front (IsTalInWindow s) ts others w)) (of-lists s bs tss more (all-back (λ (t :
    Tal). AllByRecursion IsUtf8 t.texts) ts others g) (all-back (IsTalInWindow s) ts others w)))

begin-below : (s : ℕ) (tss : List (List Tal)) → HasTimeKeepingTal (first_block_tals tss) →
    AllByRecursion (IsTalInWindow s) (all_tals tss) → record_start s (first_block_tals tss) < window
begin-below s [] timed w = absurd timed
begin-below s ([] ∷ tss) timed w = absurd timed
begin-below s ((t ∷ ts) ∷ tss) timed w = instant-below s t w.0

pub blocks-read-start : (bs : List (List ℕ)) (s : ℕ) (p : Place) (start : ℕ)
    (list : List Annotation) → BlocksParseTo bs s p start list → start < window
blocks-read-start bs s p start list r = rw (r.start_is) (begin-below s r.tals r.timed r.window)

pub blocks-read-annotations : (bs : List (List ℕ)) (s : ℕ) (p : Place) (start : ℕ)
    (list : List Annotation) → BlocksParseTo bs s p start list →
    AllByRecursion IsValidAnnotation list
blocks-read-annotations bs s p start list r =
    rw (r.list_is) (all-drop IsValidAnnotation (flat_map (tal_annotations s) (all_tals r.tals))
    (of-lists s bs r.tals r.lists r.good r.window))

-- the same of a data record with one block
pub read-start : (b : List ℕ) (s : ℕ) (p : Place) (start : ℕ) (list : List Annotation) →
    BlockParsesTo b s p start list → start < window
read-start b s p start list r = blocks-read-start (b ∷ []) s p start list r

pub read-annotations : (b : List ℕ) (s : ℕ) (p : Place) (start : ℕ) (list : List Annotation) →
    BlockParsesTo b s p start list → AllByRecursion IsValidAnnotation list
read-annotations b s p start list r = blocks-read-annotations (b ∷ []) s p start list r
