-- An outline whose annotations were put by onset.
use Rattle.std.proofs.Common.{◌≡◌, ℕ, suc, ◌-◌, ◌≤◌, List, [], ◌∷◌, ◌++◌, length, take, drop, refl}
use Rattle.std.proofs.Common.{sym, ap, ◌∙◌, subst, arith, append_assoc, append-nil, length-append}
use Rattle.std.specs.List.{AllByRecursion, AllZip}
use Rattle.std.proofs.Math.Seq.{take-append_seam}
use Rattle.std.proofs.lemmas.List.Elements.{All-from_recursion}
use Rattle.std.proofs.lemmas.List.{map-append}
use Rattle.edf_tal.proofs.Joined.{all-append}
use Rattle.edf_field.specs.Number.{duration_of}
use Rattle.edf_header.specs.Key.{Key, MayStart}
use Rattle.edf_header.specs.declared.limits.TheConstants.{MOST_RECORDS}
use Rattle.edf_tal.specs.Block.{IsWithinLimits}
use Rattle.edf_tal.specs.Tal.{Annotation}
use Rattle.edf_fragment.specs.Fragment.{DataRecord}
use Rattle.edf_fragment.specs.Sound.{AreSoundFrom, FirstMayStart}
use Rattle.edf_runs.specs.ByOnset.{annotations_of, by_onset, AreAlike}
use Rattle.edf_runs.specs.Order.{in_order}
use Rattle.edf_runs.specs.Outline.{IsOutline}
use Rattle.edf_runs.specs.Crowded.{IsRunCount, IsFirstCrowded}
use Rattle.edf_runs.specs.Inside.Counting.{AreCountsOf}
use Rattle.edf_runs.specs.Inside.Selecting.{HasLimits}
use Rattle.edf_runs.specs.Inside.Spreading.{count_before, spread}
use Rattle.edf_runs.specs.declared.outline.Outline.{Outline}
use Rattle.edf_runs.proofs.ByOnset.{spaced-sound, stay-alike}
use Rattle.edf_runs.proofs.FilledNotes.{annotations-spread, in-order-rises}
use Rattle.edf_runs.proofs.SoundByOnset.{stay-sound}
use Rattle.edf_runs.proofs.Noted.{counts_of, starts_of}
use Rattle.edf_runs.proofs.Order.{order-sorted, rises-sorted}
use Rattle.edf_runs.proofs.Spreading.{spread-by-onset}

-- ---- one data record after another

-- these were counted, and the others are to come
pub record CountedSoFar (all : List DataRecord) (later counts : List ℕ) (left : List Annotation) :
    Type 0 where
  pub done : List DataRecord
  pub rest : List DataRecord
  pub parts : all ≡ done ++ spread left rest
  pub later_is : starts_of rest ≡ later
  pub counts_is : counts ≡ counts_of done
  pub limits : AllByRecursion HasLimits done

pub none-counted : (notes : List Annotation) (records : List DataRecord) (starts : List ℕ) →
    starts_of records ≡ starts → CountedSoFar (spread notes records) starts [] notes
none-counted notes records starts is = record {
  done = [];
  rest = records;
  parts = refl;
  later_is = is;
  counts_is = refl;
  limits = tt;
}

-- the next data record, with the first of the annotations
pub record NextCounted (all : List DataRecord) (start : ℕ) (rest counts : List ℕ)
    (left : List Annotation) : Type 0 where
  pub done : List DataRecord
  pub r : DataRecord
  pub others : List DataRecord
  pub start_is : r.start ≡ start
  pub rest_is : starts_of others ≡ rest
  pub parts : all ≡ done ++ spread left (r ∷ others)
  pub counts_is : counts ≡ counts_of done
  pub limits : AllByRecursion HasLimits done

pub next-counted : (all : List DataRecord) (start : ℕ) (later rest counts : List ℕ)
    (left : List Annotation) → later ≡ start ∷ rest → CountedSoFar all later counts left →
    NextCounted all start rest counts left
next-counted all start later rest counts left is so =
    by-rest so.rest so.parts (so.later_is ∙ is)
  where
    by-rest : (records : List DataRecord) → all ≡ so.done ++ spread left records →
        starts_of records ≡ start ∷ rest → NextCounted all start rest counts left
    by-rest [] parts starts = cc
    by-rest (r ∷ others) parts starts =
        let e : r.start ∷ starts_of others ≡ start ∷ rest = starts in
        record {
          done = so.done;
          r = r;
          others = others;
          start_is = cc;
          rest_is = cc;
          parts = parts;
          counts_is = so.counts_is;
          limits = so.limits;
        }

pub one-counted : (all : List DataRecord) (start count : ℕ) (rest counts more : List ℕ)
    (left : List Annotation) → (n : NextCounted all start rest counts left) → (size : ℕ) →
    size ≡ count_before left n.others → count ≡ length (take size left) →
    IsWithinLimits (take size left) → more ≡ counts ++ count ∷ [] →
    CountedSoFar all rest more (drop size left)
one-counted all start count rest counts more left n size is counted limits pushed =
    let here : DataRecord = record {
      start = n.r.start;
      samples = n.r.samples;
      annotations = take (count_before left n.others) left;
    } in
    let same : take size left ≡ take (count_before left n.others) left =
    ap (λ (x : ℕ). take x left) is in
    record {
      done = n.done ++ here ∷ [];
      rest = n.others;
      parts = n.parts ∙ sym (append_assoc n.done (here ∷ [])
          (spread (drop (count_before left n.others) left) n.others))
          ∙ ap (λ (x : ℕ). (n.done ++ here ∷ []) ++ spread (drop x left) n.others) (sym is);
      later_is = n.rest_is;
      counts_is = pushed ∙ ap (λ (x : List ℕ). x ++ count ∷ []) n.counts_is
          ∙ ap (λ (x : ℕ). counts_of n.done ++ x ∷ [])
          (counted ∙ ap (λ (x : List Annotation). length x) same)
          ∙ sym (map-append (λ (r : DataRecord). length r.annotations) n.done (here ∷ []));
      limits = all-append HasLimits n.done (here ∷ []) n.limits
          (subst IsWithinLimits same limits, tt);
    }

spread-starts : (notes : List Annotation) (records : List DataRecord) →
    starts_of (spread notes records) ≡ starts_of records
spread-starts notes [] = refl
spread-starts notes (r ∷ rs) =
    ap (λ (l : List ℕ). r.start ∷ l) (spread-starts (drop (count_before notes rs) notes) rs)

pub crowded-next : (d : ℕ) (notes : List Annotation) (records : List DataRecord) (start : ℕ)
    (starts rest counts : List ℕ) (left : List Annotation) → starts_of records ≡ starts →
    (n : NextCounted (spread notes records) start rest counts left) → (size passed number : ℕ) →
    size ≡ count_before left n.others → ¬ IsWithinLimits (take size left) →
    passed ≡ length starts - length rest → ((rs : List DataRecord) →
    starts_of rs ≡ take passed starts → IsRunCount d rs number) →
    IsFirstCrowded d (spread notes records) number
crowded-next d notes records start starts rest counts left records-are n size passed number
    size-is over passed-is counted =
    let here : DataRecord = record {
      start = n.r.start;
      samples = n.r.samples;
      annotations = take (count_before left n.others) left;
    } in
    let more = drop (count_before left n.others) left in
    let later = spread more n.others in
    let front = starts_of (n.done ++ here ∷ []) in
    let parts : starts ≡ front ++ rest =
    sym (spread-starts notes records ∙ records-are) ∙ ap starts_of n.parts
    ∙ ap starts_of (sym (append_assoc n.done (here ∷ []) later))
    ∙ map-append (λ (r : DataRecord). r.start) (n.done ++ here ∷ []) later
    ∙ ap (λ (l : List ℕ). front ++ l) (spread-starts more n.others ∙ n.rest_is) in
    let many : passed ≡ length front =
    omega (arith, passed-is, ap (λ (l : List ℕ). length l) parts, length-append front rest) in
    let taken : front ≡ take passed starts =
    sym (ap (λ (k : ℕ). take k starts) many ∙ ap (take (length front)) parts
    ∙ take-append_seam front rest) in
    record {
      before = n.done;
      r = here;
      after = later;
      parts = n.parts;
      within = All-from_recursion HasLimits n.done n.limits;
      crowded = λ within. over
          (subst (λ (k : ℕ). IsWithinLimits (take k left)) (sym size-is) within);
      number_is = counted (n.done ++ here ∷ []) taken;
    }

pub all-counted : (all : List DataRecord) (later counts : List ℕ) (left : List Annotation) →
    CountedSoFar all later counts left → later ≡ [] → AreCountsOf all counts
all-counted all later counts left so none = by-rest so.rest so.parts (so.later_is ∙ none)
  where
    by-rest : (records : List DataRecord) → all ≡ so.done ++ spread left records →
        starts_of records ≡ [] → AreCountsOf all counts
    by-rest [] parts starts =
        let same : all ≡ so.done = parts ∙ append-nil so.done in (
          so.counts_is ∙ ap counts_of (sym same),
          subst (AllByRecursion HasLimits) (sym same) so.limits,
        )
    by-rest (r ∷ others) parts starts = cc

-- ---- the outline

alike-starts : (rs ss : List DataRecord) → AllZip AreAlike rs ss → starts_of rs ≡ starts_of ss
alike-starts [] [] alike = refl
alike-starts [] (s ∷ ss) alike = absurd alike
alike-starts (r ∷ rs) [] alike = absurd alike
alike-starts (r ∷ rs) (s ∷ ss) alike =
    ap (λ (n : ℕ). n ∷ starts_of rs) alike.0.0
    ∙ ap (λ (l : List ℕ). s.start ∷ l) (alike-starts rs ss alike.1)

starts-length : (rs : List DataRecord) → length (starts_of rs) ≡ length rs
starts-length [] = refl
starts-length (r ∷ rs) = ap suc (starts-length rs)

first-alike : (k : Key) (rs ss : List DataRecord) → AllZip AreAlike rs ss → FirstMayStart k ss →
    FirstMayStart k rs
first-alike k [] ss alike may = tt
first-alike k (r ∷ rs) [] alike may = absurd alike
first-alike k (r ∷ rs) (s ∷ ss) alike may = subst (MayStart k) (sym alike.0.0) may

pub by-onset-spread : (k : Key) (records : List DataRecord) → AreSoundFrom k 0 records →
    spread (in_order (annotations_of records)) records ≡ by_onset records
by-onset-spread k records sound =
    let all = annotations_of records in
    let l = in_order all in
    spread-by-onset (duration_of k.duration) records l
    (in-order-rises l (rises-sorted l (order-sorted all))) (spaced-sound k 0 records sound)

onset-notes : (k : Key) (records : List DataRecord) → AreSoundFrom k 0 records →
    1 ≤ length records → annotations_of (by_onset records) ≡ in_order (annotations_of records)
onset-notes k [] sound some = absurd (omega (arith, some))
onset-notes k (r ∷ rs) sound some =
    ap annotations_of (sym (by-onset-spread k (r ∷ rs) sound))
    ∙ annotations-spread (in_order (annotations_of (r ∷ rs))) r rs

pub outline-by-onset : (k : Key) (records : List DataRecord) (outline sorted : Outline) →
    IsOutline k records outline → sorted.identity ≡ outline.identity →
    sorted.spans.starts.items ≡ outline.spans.starts.items →
    sorted.spans.notes.items ≡ in_order outline.spans.notes.items →
    AreCountsOf (spread (in_order (annotations_of records)) records) sorted.spans.counts.items →
    IsOutline k (by_onset records) sorted
outline-by-onset k records outline sorted is identity starts notes counts =
    let same = by-onset-spread k records is.sound in
    let alike = (stay-alike k records is.sound).0 in
    let stay = alike-starts (by_onset records) records alike in
    let len : length (by_onset records) ≡ length records = sym (starts-length (by_onset records))
    ∙ ap (λ (l : List ℕ). length l) stay ∙ starts-length records in
    let limits : AllByRecursion HasLimits (by_onset records) =
    subst (AllByRecursion HasLimits) same counts.1 in
    record {
      sound = stay-sound k records is.sound
          (All-from_recursion HasLimits (by_onset records) limits);
      some = subst (λ (n : ℕ). 1 ≤ n) (sym len) is.some;
      few = subst (λ (n : ℕ). n ≤ MOST_RECORDS) (sym len) is.few;
      begins = first-alike k (by_onset records) records alike is.begins;
      identity = identity ∙ is.identity;
      spans = record {
        starts = starts ∙ is.spans.starts ∙ sym stay;
        counts = counts.0 ∙ ap counts_of same;
        notes = notes ∙ ap in_order is.spans.notes ∙ sym (onset-notes k records is.sound is.some);
      };
    }
