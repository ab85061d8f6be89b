-- The first TAL of a data record.
use Rattle.std.proofs.Common.{◌≡◌, ℕ, suc, ◌+◌, List, [], ◌∷◌, ◌++◌, length, drop, map, arith, refl}
use Rattle.std.proofs.Common.{sym, ap, ◌∙◌, subst, append_assoc}
use Rattle.std.specs.Prelude.{IsTrue, ◌↔◌}
use Rattle.std.specs.List.{AllByRecursion, flat_map}
use Rattle.std.proofs.lemmas.List.Sums.{sum_by-cons}
use Rattle.edf_tal.specs.Tal.{Tal, Annotation, IsTal, IsText, terminated, AreTalsAndZeros}
use Rattle.edf_tal.specs.Tal.{AreTalBlocks}
use Rattle.edf_tal.specs.Tal.{all_tals, HaveUtf8Texts, IsTalInWindow, instant, tal_annotations}
use Rattle.edf_tal.specs.Inside.Scan.{IsLeadingTal}
use Rattle.edf_tal.specs.Inside.Blocks.{HaveSums}
use Rattle.edf_tal.specs.declared.blocks.Sums.{Sums}
use Rattle.edf_tal.proofs.Unique.{one-tal}
use Rattle.edf_tal.proofs.Fronts.{same-front, HasEnd-tal}
use Rattle.edf_tal.proofs.OneBlock.{zeros-no-tal}
use Rattle.edf_tal.proofs.Totals.{text_bytes, note_of}

-- blocks of TALs, the first of which is known
pub record Known (bs : List (List ℕ)) (s : ℕ) (sums : Sums) (t : Tal) : Type 0 where
  pub more : List Tal
  pub others : List (List Tal)
  pub lists : AreTalBlocks bs ((t ∷ more) ∷ others)
  pub good : HaveUtf8Texts (all_tals ((t ∷ more) ∷ others))
  pub window : IsTrue sums.in_window ↔ AllByRecursion (IsTalInWindow s)
      (all_tals ((t ∷ more) ∷ others))
  pub count_is : sums.count ≡ length (flat_map (tal_annotations s) (all_tals ((t ∷ more) ∷ others)))
  pub bytes_is : sums.text_bytes ≡ text_bytes
      (flat_map (tal_annotations s) (all_tals ((t ∷ more) ∷ others)))

first-of : (b f more : List ℕ) (ts : List Tal) (t : Tal) → AreTalsAndZeros b ts → IsTal f t → b ≡ f
    ++ more → (us : List Tal) × (ts ≡ t ∷ us)
first-of b f more [] t (front, zeros, parts, a, are) s e =
    absurd (zeros-no-tal zeros are f more t (sym (parts ∙ ap (λ (x : List ℕ). x ++ zeros) a) ∙ e) s)
first-of b f more (u ∷ us) t (front, zeros, parts, (g, r, same, is, others), are) s e =
    let both = same-front g f (r ++ zeros) more (HasEnd-tal g u is) (HasEnd-tal f t s)
    (sym (append_assoc g r zeros) ∙ ap (λ (x : List ℕ). x ++ zeros) (sym same) ∙ sym parts ∙ e) in
    (us, ap (λ (x : Tal). x ∷ us) (one-tal g u t is (rw (both.prefix) s)))

first-list : (b : List ℕ) (later : List (List ℕ)) (f more : List ℕ) (tss : List (List Tal))
    (t : Tal) → AreTalBlocks (b ∷ later) tss → IsTal f t → b ≡ f ++ more
    → (us : List Tal) × (others : List (List Tal)) × (tss ≡ (t ∷ us) ∷ others)
first-list b later f more [] t l s e = absurd l
first-list b later f more (ts ∷ tss) t l s e =
    let first = first-of b f more ts t l.0 s e in
    (first.0, tss, ap (λ (x : List Tal). x ∷ tss) first.1)

pub known : (b : List ℕ) (later : List (List ℕ)) (texts rest : List ℕ) (s : ℕ) (sums : Sums)
    (t : Tal) → HaveSums (b ∷ later) s sums → IsLeadingTal b texts rest t
    → Known (b ∷ later) s sums t
known b later texts rest s sums t v f =
    let first = first-list b later f.prefix rest v.tals t v.lists f.tal f.parts in
    record {
      more = first.0;
      others = first.1;
      lists = subst (AreTalBlocks (b ∷ later)) first.2 v.lists;
      good = subst (λ (ts : List (List Tal)). HaveUtf8Texts (all_tals ts)) first.2 v.good;
      window = subst (λ (ts : List (List Tal)).
          IsTrue sums.in_window ↔ AllByRecursion (IsTalInWindow s) (all_tals ts)) first.2 v.window;
      count_is = v.count_is ∙ ap (λ (ts : List (List Tal)).
          length (flat_map (tal_annotations s) (all_tals ts))) first.2;
      bytes_is = v.bytes_is ∙ ap (λ (ts : List (List Tal)).
          text_bytes (flat_map (tal_annotations s) (all_tals ts))) first.2;
    }

-- a first text that is empty
first-empty : (xs : List (List ℕ)) (rest : List ℕ) → AllByRecursion IsText xs →
    terminated xs ≡ 20 ∷ rest → (ys : List (List ℕ)) × (xs ≡ [] ∷ ys)
first-empty [] rest a e = absurd cc
first-empty ([] ∷ xs) rest a e = (xs, refl)
first-empty ((b ∷ x) ∷ xs) rest a e = absurd (a.0.0.1 (let z : b ≡ 20 = cc in z))

-- its TAL keeps time
abbrev pub IsEmptyFirst : Tal → Type 0
IsEmptyFirst t = (xs : List (List ℕ)) × (t.texts ≡ [] ∷ xs)

pub timed : (b texts more : List ℕ) (t : Tal) → IsLeadingTal b texts more t →
    ((rest : List ℕ) × (texts ≡ 20 ∷ rest)) → IsEmptyFirst t
timed b texts more t f (rest, e) = first-empty t.texts rest f.tal.are_texts (sym f.texts_are ∙ e)

pub untimed : (b texts more : List ℕ) (t : Tal) → IsLeadingTal b texts more t →
    ¬ ((rest : List ℕ) × (texts ≡ 20 ∷ rest)) → ¬ IsEmptyFirst t
untimed b texts more t f fails (xs, e) = fails (terminated xs, f.texts_are ∙ ap terminated e)

-- the list without the empty first annotation
pub record Dropped (list : List Annotation) : Type 0 where
  pub count : length list ≡ suc (length (drop 1 list))
  pub bytes : text_bytes list ≡ text_bytes (drop 1 list)

dropped : (a : Annotation) (list : List Annotation) → a.text ≡ [] → Dropped (a ∷ list)
dropped a list e = record {
  count = refl;
  bytes = sum_by-cons (λ (x : Annotation). length x.text) a list
      ∙ ap (λ (x : List ℕ). length x + text_bytes list) e
      ∙ (let z : 0 + text_bytes list ≡ text_bytes list = omega arith in z);
}

pub dropped-first : (s : ℕ) (t : Tal) (ts : List Tal) (xs : List (List ℕ)) → t.texts ≡ [] ∷ xs →
    Dropped (flat_map (tal_annotations s) (t ∷ ts))
dropped-first s t ts xs e =
    let same : flat_map (tal_annotations s) (t ∷ ts) ≡ note_of (instant s t.onset) t.duration
    [] ∷ (map (note_of (instant s t.onset) t.duration) xs ++ flat_map (tal_annotations s) ts) =
    ap (λ (w : List (List ℕ)). map (note_of (instant s t.onset) t.duration) w
    ++ flat_map (tal_annotations s) ts) e in
    rw same (dropped (note_of (instant s t.onset) t.duration [])
    (map (note_of (instant s t.onset) t.duration) xs ++ flat_map (tal_annotations s) ts) refl)
