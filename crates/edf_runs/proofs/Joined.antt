-- Two readings of one recording, and its filled file.
use Rattle.std.proofs.Common.{◌≡◌, ℕ, zero, suc, ◌+◌, ◌*◌, ◌/◌, ◌<◌, ◌≤◌, List, [], ◌∷◌, ◌++◌}
use Rattle.std.proofs.Common.{length, map}
use Rattle.std.proofs.Common.{refl, sym, ap, ◌∙◌, subst, arith, get_or, drop, Option, None}
use Rattle.std.specs.Io.KnownBytes.{Appends}
use Rattle.std.specs.List.{AllZip, flat_map}
use Rattle.std.proofs.lemmas.Simd.{map-map}
use Rattle.edf_field.specs.Number.{duration_of, field}
use Rattle.edf_header.specs.Header.{Layout}
use Rattle.edf_header.specs.Key.{Key}
use Rattle.edf_header.specs.Signal.{samples}
use Rattle.edf_tal.specs.Block.{split_by_sizes}
use Rattle.edf_tal.specs.Tal.{Annotation}
use Rattle.edf_fragment.specs.Fragment.{DataRecord}
use Rattle.edf_fragment.specs.Sound.{AreSoundFrom}
use Rattle.edf_fragment.specs.Whole.{ReadsFragment}
use Rattle.edf_fragment.proofs.Sound.{spelled-sound, spelled-lasts}
use Rattle.edf_runs.specs.ByOnset.{annotations_of}
use Rattle.edf_runs.specs.File.{IsRunFile}
use Rattle.edf_runs.specs.Filled.{place_of, part_samples, Moves, IsFilled}
use Rattle.edf_runs.specs.FillAnswers.{IsFilledWithin, IsAllowed}
use Rattle.edf_runs.specs.declared.filled.FillLimits.{FillLimits}
use Rattle.edf_runs.specs.Order.{in_order}
use Rattle.edf_runs.specs.Outline.{ReadsOutline, IsOutline}
use Rattle.edf_runs.specs.Runs.{IsTouching}
use Rattle.edf_runs.specs.Twice.{IsFilledOut}
use Rattle.edf_runs.specs.Inside.Dividing.{part_of}
use Rattle.edf_runs.specs.Inside.Filling.{IsFilling, KeepsLimits, gaps_from, IsDivided}
use Rattle.edf_runs.specs.Inside.Moving.{MovesNote, notes_of, stretch_notes}
use Rattle.edf_runs.specs.Inside.Placing.{placed, bare, at_places, filled_records}
use Rattle.edf_runs.specs.Inside.Spaced.{Spaced}
use Rattle.edf_runs.specs.Inside.Spreading.{spread}
use Rattle.edf_runs.specs.Inside.Stretching.{stretches, Rise}
use Rattle.edf_runs.specs.Inside.ToCome.{part_by, records_from}
use Rattle.edf_runs.specs.declared.division.Division.{Division}
use Rattle.edf_runs.specs.declared.filled.Filled.{Filled}
use Rattle.edf_runs.specs.declared.outline.Outline.{Outline}
use Rattle.edf_runs.specs.declared.parted.FilledParts.{FilledParts}
use Rattle.edf_runs.proofs.ByOnset.{spaced-sound}
use Rattle.edf_runs.proofs.Divided.{divided}
use Rattle.edf_runs.proofs.FilledNotes.{places-of}
use Rattle.edf_runs.proofs.FilledWhole.{is-filled}
use Rattle.edf_runs.proofs.Gaps.{no-gap-touches, touching-no-gap}
use Rattle.edf_runs.proofs.MovedNotes.{moves-all, starts-rise}

abbrev starts_of : List DataRecord → List ℕ
starts_of records = map (λ (r : DataRecord). r.start) records

-- the starts and annotations of some, and the samples of others
abbrev joined : List DataRecord → List DataRecord → List DataRecord
joined [] others = []
joined (o ∷ ones) [] = []
joined (o ∷ ones) (r ∷ others) =
    record { start = o.start; samples = r.samples; annotations = o.annotations } ∷ joined ones
    others

head-same : (o r : DataRecord) (ones others : List DataRecord) →
    starts_of (o ∷ ones) ≡ starts_of (r ∷ others) → o.start ≡ r.start
head-same o r ones others same = ap (λ (l : List ℕ). get_or l 0 0) same

tail-same : (o r : DataRecord) (ones others : List DataRecord) →
    starts_of (o ∷ ones) ≡ starts_of (r ∷ others) → starts_of ones ≡ starts_of others
tail-same o r ones others same = ap (λ (l : List ℕ). drop 1 l) same

annotated : (ones others : List DataRecord) → starts_of ones ≡ starts_of others →
    AllZip (λ one r. (one.start ≡ r.start) × (one.annotations ≡ r.annotations)) ones
    (joined ones others)
annotated [] others same = tt
annotated (o ∷ ones) [] same = absurd (let f = same in cc)
annotated (o ∷ ones) (r ∷ others) same =
    ((refl, refl), annotated ones others (tail-same o r ones others same))

sampled : (ones others : List DataRecord) → starts_of ones ≡ starts_of others →
    AllZip (λ other r. (other.start ≡ r.start) × (other.samples ≡ r.samples)) others
    (joined ones others)
sampled [] [] same = tt
sampled [] (r ∷ others) same = absurd (let f = same in cc)
sampled (o ∷ ones) [] same = absurd (let f = same in cc)
sampled (o ∷ ones) (r ∷ others) same = (
  (sym (head-same o r ones others same), refl),
  sampled ones others (tail-same o r ones others same),
)

starts-joined : (ones others : List DataRecord) → starts_of ones ≡ starts_of others →
    starts_of (joined ones others) ≡ starts_of ones
starts-joined [] others same = refl
starts-joined (o ∷ ones) [] same = absurd (let f = same in cc)
starts-joined (o ∷ ones) (r ∷ others) same =
    ap (λ (l : List ℕ). o.start ∷ l) (starts-joined ones others (tail-same o r ones others same))

notes-joined : (ones others : List DataRecord) → starts_of ones ≡ starts_of others →
    annotations_of (joined ones others) ≡ annotations_of ones
notes-joined [] others same = refl
notes-joined (o ∷ ones) [] same = absurd (let f = same in cc)
notes-joined (o ∷ ones) (r ∷ others) same =
    ap (λ (l : List Annotation). o.annotations ++ l)
    (notes-joined ones others (tail-same o r ones others same))

places-joined : (u first : ℕ) (ones others : List DataRecord) → starts_of ones ≡ starts_of others →
    at_places u first (joined ones others) ≡ at_places u first others
places-joined u first [] [] same = refl
places-joined u first [] (r ∷ others) same = absurd (let f = same in cc)
places-joined u first (o ∷ ones) [] same = absurd (let f = same in cc)
places-joined u first (o ∷ ones) (r ∷ others) same =
    let more = places-joined u first ones others (tail-same o r ones others same) in
    ap (λ (s : ℕ). at_places u first (record { start = s; samples = r.samples; annotations = [] }
    ∷ joined ones others)) (head-same o r ones others same)
    ∙ ap (λ (l : List (ℕ × List ℕ)). at_places u first (r ∷ []) ++ l) more

sound-joined : (k : Key) (low : ℕ) (ones others : List DataRecord) →
    starts_of ones ≡ starts_of others → AreSoundFrom k low ones →
    (low' : ℕ) → AreSoundFrom k low' others → AreSoundFrom k low (joined ones others)
sound-joined k low [] others same sound low' sound' = tt
sound-joined k low (o ∷ ones) [] same sound low' sound' = tt
sound-joined k low (o ∷ ones) (r ∷ others) same sound low' sound' = (
  record {
    samples_len = sound'.0.samples_len;
    start = sound.0.start;
    limits = sound.0.limits;
    notes = sound.0.notes;
  },
  sound.1,
  sound-joined k (o.start + duration_of k.duration) ones others
      (tail-same o r ones others same) sound.2 (r.start + duration_of k.duration) sound'.2,
)

-- ---- the data records of the filled file

same-part : (k : Key) (g : ℕ) (sizes : List ℕ) → sizes ≡ map samples k.signals →
    part_samples k g ≡ part_of sizes g
same-part k g sizes are =
    let cut : List ℕ → ℕ → List ℕ → List ℕ = λ (ends : List ℕ) (n : ℕ) (bytes : List ℕ).
    flat_map (λ signal. field signal (n * (length signal / g)) (length signal / g))
    (split_by_sizes ends bytes) in
    ap (λ (ends : List ℕ). cut ends)
    (sym (map-map (λ size. 2 * size) samples k.signals))
    ∙ ap (λ (s : List ℕ). part_of s g) (sym are)

module _ (k : Key) (parts : FilledParts) (notes : List Annotation) (r : DataRecord)
    (rs others : List DataRecord) (sizes : parts.sizes.items ≡ map samples k.signals)
    (first : parts.first ≡ r.start)
    (places : (u first : ℕ) → at_places u first (r ∷ rs) ≡ at_places u first others) where
  pub same-records : filled_records k parts.division.parts parts.division.unit r.start
      parts.flat.items notes (r ∷ rs) ≡ records_from parts 0 0 [] notes others
  same-records =
      let g = parts.division.parts in
      let u = parts.division.unit in
      let flat = parts.flat.items in
      let xs = at_places u r.start (r ∷ rs) in
      let begin : r.start ≡ parts.first + 0 * u = omega (arith, first) in
      ap (λ (part : ℕ → List ℕ → List ℕ). spread notes (bare u r.start (placed g part flat 0 xs)))
      (same-part k g parts.sizes.items sizes)
      ∙ ap (λ (x : ℕ). spread notes (bare u r.start (placed g (part_by parts) flat 0
      (at_places u x (r ∷ rs))))) (sym first)
      ∙ ap (λ (l : List (ℕ × List ℕ)). spread notes (bare u r.start (placed g (part_by parts) flat 0
      l))) (places u parts.first)
      ∙ ap (λ (x : ℕ). spread notes (bare u x (placed g (part_by parts) flat 0
      (at_places u parts.first others)))) begin

-- ---- the recording that was filled

pub whole-is : (k : Key) (gaps g u n : ℕ) → 0 < duration_of k.duration → IsDivided k gaps g u →
    gaps ≡ n → g * u ≡ duration_of k.duration
whole-is k gaps g u zero lasts is none =
    let one = is.whole none in ap (λ (x : ℕ). x * u) one.0 ∙ omega (arith, one.1)
whole-is k gaps g u (suc n) lasts is more =
    (divided k g u lasts (is.best (λ none. omega (arith, none, more)))).divides.whole

pub whole-parts : (outline : Outline) (filled : Filled) → IsFilling outline filled →
    0 < duration_of outline.identity.duration → filled.parts.division.parts
    * filled.parts.division.unit ≡ duration_of outline.identity.duration
whole-parts outline filled is lasts = whole-is outline.identity is.gaps
    filled.parts.division.parts filled.parts.division.unit is.gaps lasts is.divided refl

-- starts that are allowed, of which there are some
abbrev AllowsStarts : FillLimits → ℕ → ℕ → List ℕ → Type 0
AllowsStarts limits d u [] = ⊥
AllowsStarts limits d u (s ∷ ss) = IsAllowed limits d u s (s ∷ ss)

allows-starts : (limits : FillLimits) (outline : Outline) (filled : Filled) (k : Key)
    (records : List DataRecord) → KeepsLimits limits outline filled →
    IsOutline k records outline → AllowsStarts limits (duration_of k.duration)
    filled.parts.division.unit (starts_of records)
allows-starts limits outline filled k [] keeps o = absurd (omega (arith, o.some))
allows-starts limits outline filled k (r ∷ rs) keeps o = keeps k r rs o

module _ (outline : Outline) (filled : Filled) (is : IsFilling outline filled)
    (limits : FillLimits) (keeps : KeepsLimits limits outline filled) where
  abbrev k : Key
  k = outline.identity

  -- the data records of both readings are those of a filled file
  of-joined : (r : DataRecord) (rs others : List DataRecord) (notes : List Annotation)
      (file : List ℕ)
      → 0 < duration_of k.duration → AreSoundFrom k 0 (r ∷ rs) →
      starts_of (r ∷ rs) ≡ outline.spans.starts.items →
      outline.spans.notes.items ≡ annotations_of (r ∷ rs) →
      ((u first : ℕ) → at_places u first (r ∷ rs) ≡ at_places u first others) →
      IsRunFile file filled.identity (records_from filled.parts 0 0 [] filled.notes.items others) →
      AllowsStarts limits (duration_of k.duration) filled.parts.division.unit
      (starts_of (r ∷ rs)) → IsFilledWithin limits file k (r ∷ rs)
  of-joined r rs others notes file lasts sound starts annotated-so places is-file within =
      let d = duration_of k.duration in
      let p = is.parted in
      let g = filled.parts.division.parts in
      let u = filled.parts.division.unit in
      let some : 1 ≤ g = filled.parts.division.some in
      let unit : 0 < u = filled.parts.division.lasts in
      let spaced : Spaced d 0 (r ∷ rs) = spaced-sound k 0 (r ∷ rs) sound in
      let counted : is.gaps ≡ gaps_from d None (starts_of (r ∷ rs)) =
      is.counted ∙ ap (gaps_from d None) (sym starts) in
      let first-is : filled.parts.first ≡ r.start =
      sym (ap (λ (l : List ℕ). get_or l 0 0) (starts ∙ is.first.1)) in
      let p-starts : p.starts.now ≡ starts_of (r ∷ rs) = is.starts ∙ sym starts in
      let rise = subst (λ (l : List ℕ). Rise d 0 l) (sym p-starts)
      (starts-rise d 0 (r ∷ rs) spaced) in
      let told = is.notes (subst (λ (n : ℕ). Rise n 0 p.starts.now) (sym is.duration) rise) in
      let moved = told.0 in
      let all : AllZip (MovesNote p) (annotations_of (r ∷ rs)) moved =
      subst (λ (l : List Annotation). AllZip (MovesNote p) l moved) annotated-so told.1 in
      let each-p = moves-all k g p (r ∷ rs) p-starts is.duration spaced (annotations_of (r ∷ rs))
      moved all in
      let each : AllZip (Moves k g u r.start (r ∷ rs)) (annotations_of (r ∷ rs)) moved =
      subst (λ (x : ℕ). AllZip (Moves k g u x (r ∷ rs)) (annotations_of (r ∷ rs)) moved)
      (is.from_first ∙ first-is)
      (subst (λ (v : Division). AllZip (Moves k g v.unit p.first (r ∷ rs))
      (annotations_of (r ∷ rs)) moved) is.division each-p) in
      let notes-are : filled.notes.items ≡ in_order (moved ++ notes_of u r.start
      (stretches g 0 (places-of u r.start (r ∷ rs)))) =
      told.2
      ∙ ap (λ (l : List ℕ). in_order (moved ++ stretch_notes p 0 l)) p-starts
      ∙ ap (λ (v : Division). in_order (moved ++ notes_of v.unit p.first
      (stretches v.parts 0 (map (place_of v.unit p.first) (starts_of (r ∷ rs)))))) is.division
      ∙ ap (λ (x : ℕ). in_order (moved ++ notes_of u x
      (stretches g 0 (map (place_of u x) (starts_of (r ∷ rs)))))) (is.from_first ∙ first-is)
      ∙ ap (λ (l : List ℕ). in_order (moved ++ notes_of u r.start (stretches g 0 l)))
      (map-map (place_of u r.start) (λ (x : DataRecord). x.start) (r ∷ rs)) in
      let no-gaps : IsTouching d (r ∷ rs) → is.gaps ≡ 0 =
      λ touching. counted ∙ touching-no-gap d r rs touching in
      let some-gaps : (¬ IsTouching d (r ∷ rs)) → ¬ (is.gaps ≡ 0) =
      λ gap none. gap (no-gap-touches d r rs spaced (sym counted ∙ none)) in
      let whole = is-filled k g u filled.identity r rs filled.parts.flat.items moved some unit
      (whole-parts outline filled is lasts) filled.lasts
      (λ touching. (
        (is.divided.whole (no-gaps touching)).0,
        is.named.same (no-gaps touching),
      ))
      (λ gap. (
        divided k g u lasts (is.divided.best (some-gaps gap)),
        is.named.filled (some-gaps gap),
      ))
      is.flat sound each in
      let records-are : filled_records k g u r.start filled.parts.flat.items
      (in_order (moved ++ notes_of u r.start (stretches g 0 (places-of u r.start (r ∷ rs)))))
      (r ∷ rs) ≡ records_from filled.parts 0 0 [] filled.notes.items others =
      ap (λ (l : List Annotation). filled_records k g u r.start filled.parts.flat.items l (r ∷ rs))
      (sym notes-are)
      ∙ same-records k filled.parts filled.notes.items r rs others is.sizes first-is places in (
        g,
        u,
        filled.identity,
        records_from filled.parts 0 0 [] filled.notes.items others,
        subst (λ (l : List DataRecord). IsFilled k r rs g u filled.identity l) records-are whole,
        is-file,
        within,
      )

  of-both : (ones others : List DataRecord) (file : List ℕ) → 1 ≤ length ones →
      0 < duration_of k.duration → AreSoundFrom k 0 (joined ones others) →
      starts_of ones ≡ starts_of others → starts_of ones ≡ outline.spans.starts.items →
      outline.spans.notes.items ≡ annotations_of ones →
      IsRunFile file filled.identity (records_from filled.parts 0 0 [] filled.notes.items others) →
      AllowsStarts limits (duration_of k.duration) filled.parts.division.unit (starts_of ones) →
      IsFilledWithin limits file k (joined ones others)
  of-both [] others file some lasts sound same starts annotated-so is-file within =
      absurd (omega (arith, some))
  of-both (o ∷ ones) [] file some lasts sound same starts annotated-so is-file within =
      absurd (let f = same in cc)
  of-both (o ∷ ones) (r ∷ others) file some lasts sound same starts annotated-so is-file within =
      of-joined (record { start = o.start; samples = r.samples; annotations = o.annotations })
      (joined ones others) (r ∷ others) [] file lasts sound
      (starts-joined (o ∷ ones) (r ∷ others) same ∙ starts)
      (annotated-so ∙ sym (notes-joined (o ∷ ones) (r ∷ others) same))
      (λ u first. places-joined u first (o ∷ ones) (r ∷ others) same) is-file
      (subst (AllowsStarts limits (duration_of k.duration) filled.parts.division.unit)
      (sym (starts-joined (o ∷ ones) (r ∷ others) same)) within)

  pub filled-out : (once rest again rest' before after : Option (List ℕ)) (l : Layout)
      (others : List DataRecord) (file : List ℕ) → ReadsOutline once rest outline →
      ReadsFragment again rest' l others → l.key ≡ k →
      starts_of others ≡ outline.spans.starts.items →
      IsRunFile file filled.identity (records_from filled.parts 0 0 [] filled.notes.items others) →
      Appends before after file → IsFilledOut limits once again before after
  filled-out once rest again rest' before after l others file one two key starts is-file wrote =
      let o = one.is_outline in
      let ones = one.records in
      let same : starts_of ones ≡ starts_of others = sym o.spans.starts ∙ sym starts in
      let sound : AreSoundFrom k 0 ones =
      subst (λ (x : Key). AreSoundFrom x 0 ones) (sym o.identity) o.sound in
      let sound' : AreSoundFrom k 0 others = subst (λ (x : Key). AreSoundFrom x 0 others) key
      (spelled-sound two.bytes l.key others two.is_file) in
      let lasts : 0 < duration_of k.duration = subst (λ (x : Key). 0 < duration_of x.duration) key
      (spelled-lasts two.bytes l.key others two.is_file) in
      record {
        key = k;
        records = joined ones others;
        read = record {
          layout = one.layout;
          layout' = l;
          keys = (sym o.identity, key);
          rest = rest;
          rest' = rest';
          ones = ones;
          others = others;
          read = one.read;
          reread = two;
          joined = record {
            annotated = annotated ones others same;
            sampled = sampled ones others same;
          };
        };
        file = file;
        is_file = of-both ones others file o.some lasts
            (sound-joined k 0 ones others same sound 0 sound') same (sym o.spans.starts)
            o.spans.notes is-file
            (subst (λ (x : Key). AllowsStarts limits (duration_of x.duration)
            filled.parts.division.unit (starts_of ones)) (sym o.identity)
            (allows-starts limits outline filled one.layout.key ones keeps o));
        wrote = wrote;
      }
