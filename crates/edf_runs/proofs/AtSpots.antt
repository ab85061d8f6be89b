-- The data records of an outline, some of which were passed.
use Rattle.std.proofs.Common.{◌≡◌, ℕ, ◌<◌, List, [], ◌∷◌, ◌++◌, length, refl, sym, ap, ◌∙◌}
use Rattle.std.proofs.Common.{arith, append_assoc, append-nil, length-append, take, drop}
use Rattle.std.proofs.Math.Seq.{take-append_seam, drop-append_seam}
use Rattle.edf_header.specs.Key.{Key}
use Rattle.edf_fragment.specs.Fragment.{DataRecord}
use Rattle.edf_runs.specs.ByOnset.{annotations_of}
use Rattle.edf_runs.specs.Outline.{IsOutline}
use Rattle.edf_runs.specs.Inside.Selecting.{head_count, TakesFirst}
use Rattle.edf_runs.specs.declared.outline.Outline.{Outline}
use Rattle.edf_runs.specs.declared.spots.Spots.{Spots}
use Rattle.edf_runs.proofs.Noted.{counts_of, starts_of}

-- the spots are of those behind them
pub record IsAt (records : List DataRecord) (spots : Spots) (passed : List DataRecord) : Type 0
  where
    pub left : List DataRecord
    pub parts : records ≡ passed ++ left
    pub starts : spots.starts.now ≡ starts_of left
    pub counts : spots.counts.now ≡ counts_of left
    pub notes : spots.notes.now ≡ annotations_of left

pub at-first : (k : Key) (records : List DataRecord) (outline : Outline) (spots : Spots) →
    IsOutline k records outline → spots.starts.now ≡ outline.spans.starts.items →
    spots.counts.now ≡ outline.spans.counts.items → spots.notes.now ≡ outline.spans.notes.items →
    IsAt records spots []
at-first k records outline spots is starts counts notes = record {
  left = records;
  parts = refl;
  starts = starts ∙ is.spans.starts;
  counts = counts ∙ is.spans.counts;
  notes = notes ∙ is.spans.notes;
}

none-left : (left : List DataRecord) → starts_of left ≡ [] → left ≡ []
none-left [] none = refl
none-left (r ∷ rs) none = cc

pub at-last : (records : List DataRecord) (spots : Spots) (passed : List DataRecord) →
    IsAt records spots passed → spots.starts.now ≡ [] → records ≡ passed
at-last records spots passed at none = at.parts
    ∙ ap (λ (l : List DataRecord). passed ++ l) (none-left at.left (sym at.starts ∙ none))
    ∙ append-nil passed

-- the next data record has the start and the annotations of the first spot
pub record IsNextAt (records : List DataRecord) (to : Spots) (passed : List DataRecord)
    (spot : DataRecord) : Type 0 where
  pub r : DataRecord
  pub start : spot.start ≡ r.start
  pub annotations : spot.annotations ≡ r.annotations
  pub at : IsAt records to (passed ++ r ∷ [])
  pub few : length passed < length records

pub next-at : (records : List DataRecord) (from to : Spots) (passed : List DataRecord)
    (spot : DataRecord) → IsAt records from passed → TakesFirst from to spot →
    IsNextAt records to passed spot
next-at records from to passed spot at taken =
    with-left at.left at.parts at.starts at.counts at.notes
  where
    with-left : (left : List DataRecord) → records ≡ passed ++ left →
        from.starts.now ≡ starts_of left → from.counts.now ≡ counts_of left →
        from.notes.now ≡ annotations_of left → IsNextAt records to passed spot
    with-left [] parts starts counts notes =
        let e : ◌≡◌ {A = List ℕ} (spot.start ∷ to.starts.now) [] = sym taken.starts ∙ starts in cc
    with-left (r ∷ rs) parts starts counts notes =
        let e : spot.start ∷ to.starts.now ≡ r.start ∷ starts_of rs = sym taken.starts ∙ starts in
        let start : spot.start ≡ r.start = cc in
        let later : to.starts.now ≡ starts_of rs = cc in
        let count : head_count from.counts.now ≡ length r.annotations = ap head_count counts in
        let more = annotations_of rs in
        let all = ap (λ (l : List DataRecord). length l) parts ∙ length-append passed (r ∷ rs) in
        record {
          r = r;
          start = start;
          annotations = taken.annotations ∙ ap (λ (n : ℕ). take n from.notes.now) count
              ∙ ap (take (length r.annotations)) notes ∙ take-append_seam r.annotations more;
          at = record {
            left = rs;
            parts = parts ∙ sym (append_assoc passed (r ∷ []) rs);
            starts = later;
            counts = taken.counts ∙ ap (drop 1) counts;
            notes = taken.notes ∙ ap (λ (n : ℕ). drop n from.notes.now) count
                ∙ ap (drop (length r.annotations)) notes ∙ drop-append_seam r.annotations more;
          };
          few = omega (arith, all);
        }
