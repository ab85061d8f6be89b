use Rattle.std.proofs.Common.{◌≡◌, ◌<◌, ℕ, List, [], ◌∷◌, length, get_or, None, ap, ◌∙◌, subst}
use Rattle.std.proofs.Common.{rules, arith, sym, refl, ◌+◌, ◌*◌, ◌≤◌, ◌++◌, map}
use Rattle.std.specs.Prelude.{count_by}
use Rattle.std.specs.List.{AllZip}
use Rattle.edf_field.specs.Number.{duration_of}
use Rattle.edf_header.specs.Key.{Key}
use Rattle.edf_header.specs.Signal.{samples}
use Rattle.edf_tal.specs.Tal.{Annotation}
use Rattle.edf_fragment.specs.Fragment.{DataRecord}
use Rattle.edf_runs.specs.FillAnswers.{IsAllowed, AreFillCounts, starts_of, neighbours}
use Rattle.edf_runs.specs.FillAnswers.{is_closed}
use Rattle.edf_runs.specs.Filled.{place_of}
use Rattle.edf_runs.specs.Outline.{IsOutline}
use Rattle.edf_runs.specs.Inside.Filling.{gaps_from, GapsWithin, furthest_from}
use Rattle.edf_runs.specs.Inside.Filling.{IsDivided}
use Rattle.edf_runs.specs.Inside.Moving.{MovesNote, stretch_notes}
use Rattle.edf_runs.specs.Inside.Spaced.{Spaced}
use Rattle.edf_runs.specs.Inside.Stretching.{Rise}
use Rattle.edf_runs.specs.Order.{in_order}
use Rattle.edf_runs.specs.declared.filled.FillCounts.{FillCounts}
use Rattle.edf_runs.specs.declared.filled_places.Places.{Places}
use Rattle.edf_runs.specs.declared.outline.Outline.{Outline}
use Rattle.edf_runs.specs.declared.parted.FilledParts.{FilledParts}
use Rattle.edf_runs.specs.declared.parted.Parted.{Parted}
use Rattle.edf_runs.proofs.ByOnset.{spaced-sound}
use Rattle.edf_runs.proofs.FillCounting.{allowed, are-counts, last-of}
use Rattle.edf_runs.proofs.Joined.{whole-is}
use Rattle.edf_runs.proofs.MeasuredPlaces.{starts-have-places, all-measured}
use Rattle.edf_runs.proofs.filling.fill.Goals as goal

first-of : (xs : List ℕ) (x : ℕ) → 0 < length xs → x ≡ get_or xs 0 x →
    (others : List ℕ) × (xs ≡ x ∷ others)
first-of [] x some is = absurd (omega (arith, some))
first-of (y ∷ ys) x some is = (ys, ap (λ (z : ℕ). z ∷ ys) (sym is))

first-start : (starts : List ℕ) (x : ℕ) (r : DataRecord) (rs : List DataRecord) →
    starts ≡ starts_of (r ∷ rs) → x ≡ get_or starts 0 x → x ≡ r.start
first-start starts x r rs same at = at ∙ ap (λ (l : List ℕ). get_or l 0 x) same

rise-of : (k : Key) (r : DataRecord) (rs : List DataRecord) (outline : Outline)
    (gaps g u first : ℕ) → IsOutline k (r ∷ rs) outline → 0 < u → 0 < duration_of k.duration →
    IsDivided k gaps g u → first ≡ r.start →
    Rise g 0 (map (place_of u first) (starts_of (r ∷ rs)))
rise-of k r rs outline gaps g u first is some lasts divided begins =
    subst (λ (x : ℕ). Rise g 0 (map (place_of u x) (starts_of (r ∷ rs)))) (sym begins)
    (starts-have-places g u r rs some
    (subst (λ (d : ℕ). Spaced d 0 (r ∷ rs)) (sym (whole-is k gaps g u gaps lasts divided refl))
    (spaced-sound k 0 (r ∷ rs) is.sound)))

-- the data records whose annotations were moved
abbrev parted-of : (p : Parted) (given all : List Annotation) →
    (Rise p.duration 0 p.starts.now → (told : List Annotation) × AllZip (MovesNote p) given told
    × (all ≡ in_order (told ++ stretch_notes p 0 p.starts.now))) → Parted
parted-of p given all moved = p

pub returns-clause-filled : goal.returns-clause-filled
returns-clause-filled c =
    let o = c.args.outline.now in
    let starts = c.as_slice-starts.ensures.value in
    let at : c.in-Some.first ≡ get_or c.as_slice-starts.result.now 0 c.in-Some.first = search rules
    in
    let some : 0 < length o.spans.starts.items = o.some in
    let p : Parted = parted-of _ _ _ c.in_ok-notes.ensures in
    record {
      gaps = c.in_ok-gaps.gaps;
      counted = c.in_ok-gaps.ensures.counted
          ∙ ap (λ (d : ℕ). gaps_from d None c.as_slice-starts.result.now)
          c.duration-duration.ensures.value
          ∙ ap (λ (l : List ℕ). gaps_from (duration_of o.identity.duration) None l) starts;
      divided = c.division_of-division.ensures;
      named = c.in_ok-identity.ensures.named;
      first = first-of o.spans.starts.items c.in-Some.first some
          (subst (λ (l : List ℕ). c.in-Some.first ≡ get_or l 0 c.in-Some.first) starts at);
      sizes = c.in_ok-sizes.ensures;
      flat = c.in_ok-flat_samples.ensures;
      measured = λ k r rs is.
          let same : c.as_slice-starts.result.now ≡ starts_of (r ∷ rs) =
          starts ∙ is.spans.starts in
          let begins = first-start c.as_slice-starts.result.now c.in-Some.first r rs same at in
          let long : 0 < duration_of k.duration =
          subst (λ (x : Key). 0 < duration_of x.duration) is.identity
          (subst (λ (n : ℕ). 0 < n) c.duration-duration.ensures.value p.lasts) in
          let divided = subst (λ (x : Key). IsDivided x c.in_ok-gaps.gaps p.division.parts
          p.division.unit) is.identity c.division_of-division.ensures in
          let end = last-of r.start (starts_of rs) in
          let parts : FilledParts = record {
            division = c.division_of-division.result;
            first = c.in-Some.first;
            sizes = c.in_ok-sizes.sizes;
            bytes = c.ordinary_bytes.result;
            flat = c.in_ok-flat_samples.field-0;
            whole = c.parts-2-1.given.0;
          } in
          let places : Places = record {
            parts = record { ref_ptr = c.as_slice-starts.result.ref_ptr; now = parts };
            later = c.as_slice-starts.result;
            notes = c.as_slice-4.result;
            nth = 0;
            left = 0;
          } in
          all-measured k parts c.in_ok-notes.notes.items r rs places refl same
          c.as_slice-4.ensures.value refl refl
          c.in_ok-records.records c.in_ok-measure.measure
          (c.in_ok-sizes.ensures ∙ ap (λ (x : Key). map samples x.signals) is.identity) begins
          (rise-of k r rs o c.in_ok-gaps.gaps p.division.parts p.division.unit c.in-Some.first is
          p.division.lasts long divided begins)
          c.in_ok-records.ensures.few end.0 end.1 end.2
          (c.in_ok-records.ensures.counted end.0 end.1 (same ∙ end.2))
          c.in_ok-measure.ensures;
      parted = p;
      starts = starts;
      from_first = refl;
      duration = c.duration-duration.ensures.value;
      division = refl;
      notes = λ rise.
          let told = c.in_ok-notes.ensures rise in (
            told.0,
            subst (λ (l : List Annotation). AllZip (MovesNote p) l told.0)
                c.as_slice-3.ensures.value told.1,
            told.2,
          );
    }

pub returns-clause-allowed : goal.returns-clause-allowed
returns-clause-allowed c = λ k r rs is.
    let d = duration_of k.duration in
    let u = c.division_of-division.result.unit in
    let at : c.in-Some.first ≡ get_or c.as_slice-starts.result.now 0 c.in-Some.first = search rules
    in
    let same : c.as_slice-starts.result.now ≡ starts_of (r ∷ rs) =
    c.as_slice-starts.ensures.value ∙ is.spans.starts in
    let begins = first-start c.as_slice-starts.result.now c.in-Some.first r rs same at in
    let lasts : c.duration-duration.result ≡ d = c.duration-duration.ensures.value
    ∙ ap (λ (x : Key). duration_of x.duration) is.identity in
    let short = subst (λ (n : ℕ). GapsWithin c.args.limits.longest_gap n None (starts_of (r ∷ rs)))
    lasts (subst (λ (l : List ℕ). GapsWithin c.args.limits.longest_gap c.duration-duration.result
    None l) same c.in_ok-gaps.ensures.allowed) in
    let within = subst (λ (n : ℕ). n ≤ c.args.limits.moved)
    (c.in_ok-moved.ensures.furthest ∙ ap (furthest_from u c.in-Some.first 0) same)
    c.in_ok-moved.ensures.allowed in
    subst (λ (x : ℕ). IsAllowed c.args.limits d u x (starts_of (r ∷ rs))) begins
    (allowed c.args.limits d u c.in-Some.first r.start (starts_of rs) short within)

pub returns-clause-counted : goal.returns-clause-counted
returns-clause-counted c = λ k r rs is.
    let o = c.args.outline.now in
    let d = duration_of k.duration in
    let g = c.division_of-division.result.parts in
    let u = c.division_of-division.result.unit in
    let first = c.in-Some.first in
    let now = c.as_slice-starts.result.now in
    let at : first ≡ get_or now 0 first = search rules in
    let same : now ≡ starts_of (r ∷ rs) = c.as_slice-starts.ensures.value ∙ is.spans.starts in
    let begins = first-start now first r rs same at in
    let lasts : c.duration-duration.result ≡ d = c.duration-duration.ensures.value
    ∙ ap (λ (x : Key). duration_of x.duration) is.identity in
    let long : 0 < d = subst (λ (n : ℕ). 0 < n) lasts c.parted-1.given.0 in
    let divided = subst (λ (x : Key). IsDivided x c.in_ok-gaps.gaps g u) is.identity
    c.division_of-division.ensures in
    let counts : FillCounts = record {
      records = c.in_ok-records.records;
      flat = c.count_flat.result;
      gaps = c.in_ok-gaps.gaps;
      closed = c.count_closed.result;
      moved = c.in_ok-moved.moved;
    } in
    subst (λ (x : ℕ). AreFillCounts d g u x (starts_of (r ∷ rs)) counts) begins
    (are-counts d g u first r.start (starts_of rs) counts
    (rise-of k r rs o c.in_ok-gaps.gaps g u first is c.division_of-division.result.lasts long
    divided begins)
    (λ before last e. c.in_ok-records.ensures.counted before last (same ∙ e))
    (subst (λ (l : List ℕ). g * length l ≤ c.in_ok-records.records →
    c.count_flat.result + g * length l ≡ c.in_ok-records.records) same c.count_flat.ensures)
    (c.in_ok-gaps.ensures.counted ∙ ap (λ (n : ℕ). gaps_from n None now) lasts
    ∙ ap (gaps_from d None) same)
    (c.count_closed.ensures ∙ ap (λ (n : ℕ). count_by (is_closed n g u first) (neighbours now))
    lasts
    ∙ ap (λ (l : List ℕ). count_by (is_closed d g u first) (neighbours l)) same)
    (c.in_ok-moved.ensures.furthest ∙ ap (furthest_from u first 0) same))
