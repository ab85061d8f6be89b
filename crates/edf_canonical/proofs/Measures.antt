-- What is measured of data records, and how it grows.
use Rattle.std.proofs.Common.{◌≡◌, ℕ, ◌+◌, ◌*◌, ◌/◌, ◌≤◌, ◌<◌, min, max, List, [], ◌∷◌, ◌++◌}
use Rattle.std.proofs.Common.{length, refl, sym, ap, ◌∙◌, subst, arith, length-append, append-nil}
use Rattle.std.proofs.Common.{All}
use Rattle.std.specs.Prelude.{Contains}
use Rattle.std.proofs.lemmas.Grind.{flat_map-append}
use Rattle.std.proofs.lemmas.List.Elements.{All-nil, All-push, All-weaker, All-contains}
use Rattle.std.proofs.lemmas.List.Elements.{All-contains_itself, Contains-append_left}
use Rattle.std.proofs.lemmas.List.Elements.{Contains-push}
use Rattle.edf_header.specs.declared.limits.TheConstants.{MOST_RECORDS}
use Rattle.edf_fragment.specs.Fragment.{DataRecord}
use Rattle.edf_canonical.specs.File.{second_of, block_of, record_text, BlocksFit}
use Rattle.edf_canonical.specs.Measure.{IsMeasured, IsWithinMeasure, StartsAt, MayBePrefix}
use Rattle.edf_canonical.specs.Measure.{records_text}
use Rattle.edf_canonical.specs.Output.{Buffered, Writes}
use Rattle.edf_canonical.specs.declared.measure.Measure.{Measure}
use Rattle.edf_canonical.proofs.Puts.{writes-then, writes-same}

pub all_front : {X : Type 0} (P : X → Type 0) (xs ys : List X) → All P (xs ++ ys) → All P xs
all_front P xs ys all = All-weaker (Contains xs) P
    (λ y is. All-contains P (xs ++ ys) y all (Contains-append_left xs ys y is)) xs
    (All-contains_itself xs)

pub all_last : {X : Type 0} (P : X → Type 0) (xs : List X) (x : X) → All P (xs ++ x ∷ []) → P x
all_last P xs x all = All-contains P (xs ++ x ∷ []) x all (Contains-push xs x)

pub samples_hold : (len samples : ℕ) → (len + 1) / 2 ≤ samples → len ≤ 2 * samples
samples_hold len samples few = omega arith

pub samples_least : (len fewer : ℕ) → len ≤ 2 * fewer → (len + 1) / 2 ≤ fewer
samples_least len fewer fits = omega arith

-- ---- one data record more

pub more_measured : (records : List DataRecord) (old new : Measure) (r : DataRecord) →
    IsMeasured records old → length records < MOST_RECORDS → new.first ≡ old.first
    → new.records ≡ min (old.records + 1) MOST_RECORDS
    → new.block_samples ≡ max old.block_samples
    ((length (block_of (second_of old.first) r) + 1) / 2) → IsMeasured (records ++ r ∷ []) new
more_measured records old new r is few first count samples =
    let more : length (records ++ r ∷ []) ≡ length records + 1 = length-append records (r ∷ []) in
    let counted : new.records ≡ length records + 1 = omega (arith, count, is.count, few) in
    let base : second_of new.first ≡ second_of old.first = ap second_of first in
    let here : (length (block_of (second_of old.first) r) + 1) / 2 ≤ new.block_samples =
    omega (arith, samples) in
    let fits : ℕ → ℕ → DataRecord → Type 0 = λ from n x. length (block_of from x) ≤ 2 * n in
    record {
      first = is.first;
      others = is.others ++ r ∷ [];
      parts = ap (λ (x : List DataRecord). x ++ r ∷ []) is.parts;
      start = first ∙ is.start;
      count = counted ∙ sym more;
      holds = subst (λ from. BlocksFit from new.block_samples (records ++ r ∷ [])) (sym base)
          (All-push (fits (second_of old.first) new.block_samples) records r
          (All-weaker (fits (second_of old.first) old.block_samples)
          (fits (second_of old.first) new.block_samples) (λ x h. omega (arith, h, samples))
          records is.holds)
          (samples_hold _ new.block_samples here));
      least = λ fewer hold.
          let held : BlocksFit (second_of old.first) fewer (records ++ r ∷ []) =
          subst (λ from. BlocksFit from fewer (records ++ r ∷ [])) base hold in
          let low = is.least fewer (all_front (fits (second_of old.first) fewer) records (r ∷ [])
          held) in
          let high = samples_least _ fewer (all_last (fits (second_of old.first) fewer) records r
          held) in
          omega (arith, samples, low, high);
    }

-- ---- measures of the same data records, or of the first ones

first_start : List DataRecord → ℕ
first_start [] = 0
first_start (r ∷ rs) = r.start

-- the first ones have no more, and no longer blocks
pub no_more : (records later all : List DataRecord) (m whole : Measure) → all ≡ records ++ later →
    IsMeasured records m → IsMeasured all whole → IsWithinMeasure m whole
unfolding first_start
no_more records later all m whole parts a b =
    let first : m.first ≡ whole.first = a.start
    ∙ sym (ap (λ x. first_start (x ++ later)) a.parts) ∙ sym (ap (λ x. first_start x) parts)
    ∙ ap (λ x. first_start x) b.parts ∙ sym b.start in
    let len : length all ≡ length records + length later =
    ap (λ (x : List DataRecord). length x) parts ∙ length-append records later in
    let base : second_of whole.first ≡ second_of m.first = ap second_of (sym first) in
    let holds : BlocksFit (second_of m.first) whole.block_samples records =
    all_front (λ r. length (block_of (second_of m.first) r) ≤ 2 * whole.block_samples) records later
    (subst (λ n. BlocksFit n whole.block_samples (records ++ later)) base
    (subst (BlocksFit (second_of whole.first) whole.block_samples) parts b.holds)) in
    record {
      first = first;
      records = omega (arith, a.count, b.count, len);
      samples = a.least whole.block_samples holds;
    }

starts_at : (records : List DataRecord) (m : Measure) → IsMeasured records m →
    StartsAt m.first records
starts_at records m is = subst (StartsAt m.first) (sym is.parts) is.start

-- so they may come first
pub may_come : (records : List DataRecord) (m whole : Measure) → IsMeasured records m →
    IsWithinMeasure m whole → MayBePrefix records whole
may_come records m whole is few = record {
  starts = subst (λ n. StartsAt n records) few.first (starts_at records m is);
  within = omega (arith, is.count, few.records);
  holds = subst (λ n. BlocksFit n whole.block_samples records) (ap second_of few.first)
      (All-weaker (λ r. length (block_of (second_of m.first) r) ≤ 2 * m.block_samples)
      (λ r. length (block_of (second_of m.first) r) ≤ 2 * whole.block_samples)
      (λ r h. omega (arith, h, few.samples)) records is.holds);
}

-- all of them have this measure
pub whole_measured : (records : List DataRecord) (m whole : Measure) → IsMeasured records m →
    MayBePrefix records whole → m.records ≡ whole.records →
    m.block_samples ≡ whole.block_samples → IsMeasured records whole
whole_measured records m whole is may count block =
    let first : whole.first ≡ is.first.start = subst (StartsAt whole.first) is.parts may.starts in
    let same : second_of m.first ≡ second_of whole.first = ap second_of (is.start ∙ sym first) in
    record {
      first = is.first;
      others = is.others;
      parts = is.parts;
      start = first;
      count = sym count ∙ is.count;
      holds = may.holds;
      least = λ fewer hold. subst (λ n. n ≤ fewer) block (is.least fewer
          (subst (λ n. BlocksFit n fewer records) (sym same) hold));
    }

-- the first of some that are measured may come first
pub front_first : (records later all : List DataRecord) (whole : Measure) →
    all ≡ records ++ later → IsMeasured all whole → MayBePrefix records whole
front_first records later all whole parts is =
    let held : BlocksFit (second_of whole.first) whole.block_samples (records ++ later) =
    subst (BlocksFit (second_of whole.first) whole.block_samples) parts is.holds in
    record {
      starts = front_starts whole.first records later
          (subst (StartsAt whole.first) parts (starts_at all whole is));
      within = omega (
        arith,
        is.count,
        ap (λ (x : List DataRecord). length x) parts,
        length-append records later,
      );
      holds = all_front (λ r. length (block_of (second_of whole.first) r)
          ≤ 2 * whole.block_samples) records later held;
    }
  where
    front_starts : (instant : ℕ) (rs more : List DataRecord) → StartsAt instant (rs ++ more) →
        StartsAt instant rs
    front_starts instant [] more starts = tt
    front_starts instant (r ∷ rs) more starts = starts

-- those that may come first have no more
pub first-no-more : (records : List DataRecord) (m whole : Measure) → IsMeasured records m →
    MayBePrefix records whole → IsWithinMeasure m whole
first-no-more records m whole is may =
    let first : whole.first ≡ is.first.start = subst (StartsAt whole.first) is.parts may.starts in
    let same : whole.first ≡ m.first = first ∙ sym is.start in
    record {
      first = sym same;
      records = omega (arith, is.count, may.within);
      samples = is.least whole.block_samples
          (subst (λ n. BlocksFit n whole.block_samples records) (ap second_of same) may.holds);
    }

-- ---- one that is measured by its start and its annotations

fits-other : (base samples : ℕ) (rs : List DataRecord) (a q : DataRecord) →
    block_of base a ≡ block_of base q → BlocksFit base samples (rs ++ a ∷ []) →
    BlocksFit base samples (rs ++ q ∷ [])
fits-other base samples rs a q same fits =
    let one : DataRecord → Type 0 = λ x. length (block_of base x) ≤ 2 * samples in
    All-push one rs q (all_front one rs (a ∷ []) fits)
    (subst (λ (l : List ℕ). length l ≤ 2 * samples) same (all_last one rs a fits))

module _ (a q : DataRecord) (m : Measure) (start : a.start ≡ q.start)
    (same : (base : ℕ) → block_of base a ≡ block_of base q) where
  pub measured-other : (rs : List DataRecord) → IsMeasured (rs ++ a ∷ []) m →
      IsMeasured (rs ++ q ∷ []) m
  unfolding first_start
  measured-other [] is = record {
    first = q;
    others = [];
    parts = refl;
    start = is.start ∙ sym (ap (λ l. first_start l) is.parts) ∙ start;
    count = is.count;
    holds = fits-other (second_of m.first) m.block_samples [] a q (same (second_of m.first))
        is.holds;
    least = λ fewer hold. is.least fewer (fits-other (second_of m.first) fewer [] q a
        (sym (same (second_of m.first))) hold);
  }
  measured-other (x ∷ xs) is = record {
    first = x;
    others = xs ++ q ∷ [];
    parts = refl;
    start = is.start ∙ sym (ap (λ l. first_start l) is.parts);
    count = is.count ∙ length-append (x ∷ xs) (a ∷ []) ∙ sym (length-append (x ∷ xs) (q ∷ []));
    holds = fits-other (second_of m.first) m.block_samples (x ∷ xs) a q
        (same (second_of m.first)) is.holds;
    least = λ fewer hold. is.least fewer (fits-other (second_of m.first) fewer (x ∷ xs) q a
        (sym (same (second_of m.first))) hold);
  }

-- ---- the text

pub text_more : (m : Measure) (rs : List DataRecord) (r : DataRecord) → records_text m rs
    ++ record_text (second_of m.first) (2 * m.block_samples) r ≡ records_text m (rs ++ r ∷ [])
text_more m rs r = ap (λ x. records_text m rs ++ x)
    (sym (append-nil (record_text (second_of m.first) (2 * m.block_samples) r)))
    ∙ sym (flat_map-append (record_text (second_of m.first) (2 * m.block_samples)) rs (r ∷ []))

pub put_one_more : (a b c : Buffered) (m : Measure) (rs : List DataRecord) (r : DataRecord)
    (left : List ℕ) → Writes a b (records_text m rs) b.held
    → Writes b c (record_text (second_of m.first) (2 * m.block_samples) r) left →
    Writes a c (records_text m (rs ++ r ∷ [])) left
put_one_more a b c m rs r left w put = writes-same a c _ _ left (text_more m rs r)
    (writes-then a b c _ _ left w put)

-- ---- the end

pub same_measure : (records : List DataRecord) (m whole : Measure) → IsMeasured records m →
    IsMeasured records whole → (m.records ≡ whole.records) × (m.block_samples ≡ whole.block_samples)
same_measure records m whole a b =
    let one = no_more records [] records m whole (sym (append-nil records)) a b in
    let two = no_more records [] records whole m (sym (append-nil records)) b a in
    (omega (arith, one.records, two.records), omega (arith, one.samples, two.samples))

pub none_first : (m : Measure) → MayBePrefix [] m
none_first m = record {
  starts = tt;
  within = omega arith;
  holds = All-nil (λ r. length (block_of (second_of m.first) r) ≤ 2 * m.block_samples);
}

pub all_first : (records : List DataRecord) (m : Measure) → IsMeasured records m →
    MayBePrefix records m
all_first records m is = may_come records m m is
    (record { first = refl; records = omega arith; samples = omega arith })
