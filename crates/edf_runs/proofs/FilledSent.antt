-- The filled file that a second reading sent.
use Rattle.std.proofs.Common.{◌≡◌, ℕ, ◌+◌, ◌*◌, ◌≤◌, ◌<◌, List, [], ◌∷◌, ◌++◌, length, map, refl}
use Rattle.std.proofs.Common.{sym, ap}
use Rattle.std.proofs.Common.{◌∙◌, subst, arith, append-nil, get_or, Option, None, Ok}
use Rattle.std.specs.List.{AllByRecursion}
use Rattle.std.specs.Io.KnownBytes.{Appends}
use Rattle.std.proofs.lemmas.Simd.{map-map}
use Rattle.edf_field.specs.Number.{duration_of}
use Rattle.edf_header.specs.Header.{Layout}
use Rattle.edf_header.specs.Key.{Key, IsKey, MayStart}
use Rattle.edf_header.specs.Signal.{samples_in_all}
use Rattle.edf_header.proofs.Cited.{canonical-header-reads}
use Rattle.edf_tal.specs.Tal.{Annotation}
use Rattle.edf_fragment.specs.Fragment.{DataRecord}
use Rattle.edf_fragment.specs.Reading.{ReadsHeader, IsNextAnswer, initial_progress}
use Rattle.edf_fragment.specs.Sound.{IsSoundRecord, IsValidRecord, AreSoundFrom}
use Rattle.edf_fragment.specs.declared.advance.Progress.{Progress}
use Rattle.edf_fragment.specs.declared.open_fragment.OpenFragment.{OpenFragment}
use Rattle.edf_fragment.specs.declared.streams.Input.{Ghosts}
use Rattle.edf_fragment.proofs.Sound.{spelled-lasts}
use Rattle.edf_canonical.specs.Measure.{IsMeasured, records_text, planned_text}
use Rattle.edf_canonical.specs.Sending.{SendsAll}
use Rattle.edf_canonical.specs.Source.{At, at}
use Rattle.edf_canonical.specs.declared.measure.Measure.{Measure}
use Rattle.edf_canonical.proofs.MeasuredFiles.{file_of}
use Rattle.edf_canonical.proofs.Sourced.{gives-all}
use Rattle.edf_runs.specs.File.{IsRunFile}
use Rattle.edf_runs.specs.Filled.{place_of}
use Rattle.edf_runs.specs.Outline.{ReadsOutline}
use Rattle.edf_runs.specs.Read.{ReadsOn}
use Rattle.edf_runs.specs.Runs.{StartFrom}
use Rattle.edf_runs.specs.Twice.{IsFilledOut}
use Rattle.edf_runs.specs.Inside.Continuous.{IsContinuousHeader}
use Rattle.edf_runs.specs.Inside.Filling.{IsFilling, KeepsLimits}
use Rattle.edf_runs.specs.declared.filled.FillLimits.{FillLimits}
use Rattle.edf_runs.specs.Inside.Placing.{bare}
use Rattle.edf_runs.specs.Inside.Refilling.{FillsNext}
use Rattle.edf_runs.specs.Inside.Spaced.{Spaced}
use Rattle.edf_runs.specs.Inside.Spreading.{spread}
use Rattle.edf_runs.specs.Inside.Stretching.{Rise}
use Rattle.edf_runs.specs.Inside.ToCome.{IsPlaced, to_come, records_from, samples_from}
use Rattle.edf_runs.specs.declared.fault.WriteFault.{WriteFault}
use Rattle.edf_runs.specs.declared.filled.Filled.{Filled}
use Rattle.edf_runs.specs.declared.filled_source.FilledSource.{FilledSource}
use Rattle.edf_runs.specs.declared.filled_places.Places.{Places}
use Rattle.edf_runs.specs.declared.outline.Outline.{Outline}
use Rattle.edf_runs.specs.declared.parted.FilledParts.{FilledParts}
use Rattle.edf_runs.proofs.ByOnset.{spaced-sound}
use Rattle.edf_runs.proofs.Came.{samples_in, starts_of, HasFilled, one-filled}
use Rattle.edf_runs.proofs.Coming.{none-come}
use Rattle.edf_runs.proofs.FilledNotes.{places-rise-all}
use Rattle.edf_runs.proofs.FilledSamples.{starts-spread}
use Rattle.edf_runs.proofs.Growing.{touching_from}
use Rattle.edf_runs.proofs.Joined.{filled-out, whole-parts}
use Rattle.edf_runs.proofs.ReadWhole.{read-whole}
use Rattle.edf_runs.proofs.RunFiles.{marked-front}
use Rattle.edf_runs.proofs.SecondReading.{none_read}
use Rattle.edf_runs.proofs.Sending.{sound_from}

-- a file without a gap, of data records that were measured
module _ (k : Key) (rs : List DataRecord) (m : Measure) (header : List ℕ) (key : IsKey k)
    (begins : MayStart k m.first) (is : IsContinuousHeader header k m) where
  plain-long : 197 ≤ length is.plain
  plain-long =
      let reads = canonical-header-reads is.plain k m.first m.records m.block_samples key begins
      m.records_some m.records_few m.block_some (omega (arith, m.block_few)) is.is_plain in
      omega (arith, reads.len)

  continuous-file : (instant : ℕ) → AllByRecursion (IsSoundRecord k) rs →
      StartFrom (duration_of k.duration) instant rs → IsMeasured rs m →
      IsRunFile (planned_text header m rs) k rs
  continuous-file instant sound starts measured = record {
    touching = touching_from (duration_of k.duration) instant rs starts;
    canonical = planned_text is.plain m rs;
    is_canonical = file_of k rs m is.plain key
        (sound_from k 0 instant rs sound starts (omega arith)) measured begins is.is_plain;
    marked = ap (λ (x : List ℕ). x ++ records_text m rs) is.marked
        ∙ sym (marked-front is.plain plain-long (records_text m rs));
  }

sound-all : (k : Key) (bytes : ℕ) (rs : List DataRecord) → bytes ≡ 2 * samples_in_all k.signals →
    AllByRecursion IsValidRecord rs →
    AllByRecursion (λ (r : DataRecord). length r.samples ≡ bytes) rs →
    AllByRecursion (IsSoundRecord k) rs
sound-all k bytes [] is valid sizes = tt
sound-all k bytes (r ∷ rs) is valid sizes = (
  record {
    samples_len = sizes.0 ∙ is;
    start = valid.0.start;
    limits = valid.0.size.annotations;
    notes = valid.0.notes;
  },
  sound-all k bytes rs is valid.1 sizes.1,
)

-- the places of an outline's data records rise
module _ (outline : Outline) (filled : Filled) (is : IsFilling outline filled) where
  abbrev g : ℕ
  g = filled.parts.division.parts

  abbrev u : ℕ
  u = filled.parts.division.unit

  rise-of : (r : DataRecord) (rs : List DataRecord) → 0 < duration_of outline.identity.duration →
      AreSoundFrom outline.identity 0 (r ∷ rs) →
      starts_of (r ∷ rs) ≡ outline.spans.starts.items →
      Rise g 0 (map (place_of u filled.parts.first) outline.spans.starts.items)
  rise-of r rs lasts sound starts =
      let whole = whole-parts outline filled is lasts in
      let spaced : Spaced (g * u) 0 (r ∷ rs) =
      subst (λ (d : ℕ). Spaced d 0 (r ∷ rs)) (sym whole)
      (spaced-sound outline.identity 0 (r ∷ rs) sound) in
      let first : r.start ≡ filled.parts.first =
      ap (λ (l : List ℕ). get_or l 0 0) (starts ∙ is.first.1) in
      subst (λ (l : List ℕ). Rise g 0 (map (place_of u filled.parts.first) l)) starts
      (subst (λ (l : List ℕ). Rise g 0 l)
      (sym (map-map (place_of u filled.parts.first) (λ (x : DataRecord). x.start) (r ∷ rs)))
      (subst (λ (x : ℕ). Rise g 0 (map (λ (y : DataRecord). place_of u x y.start) (r ∷ rs))) first
      (places-rise-all g u r rs filled.parts.division.lasts spaced)))

  rise-all : (rs : List DataRecord) → 1 ≤ length rs → 0 < duration_of outline.identity.duration →
      AreSoundFrom outline.identity 0 rs → starts_of rs ≡ outline.spans.starts.items →
      Rise g 0 (map (place_of u filled.parts.first) outline.spans.starts.items)
  rise-all [] some lasts sound starts = absurd (omega (arith, some))
  rise-all (r ∷ rs) some lasts sound starts = rise-of r rs lasts sound starts

module _ {R : Type 0} (g : Ghosts R) (source : FilledSource) (file : OpenFragment) (input : R) where
  begins-filled : HasFilled g file.header file.progress (g.remaining input) source
      (at source file input) []
  begins-filled = record {
    header = refl;
    parts = refl;
    bytes = refl;
    valid = tt;
    sizes = tt;
    read = λ placed. record {
      records = [];
      reads = none_read file.header file.progress (g.remaining input) file.within;
      later = refl;
      placed = placed;
      given = λ next same. refl;
    };
  }

  -- what was sent
  module _ (to : At FilledSource OpenFragment R) (whole : Measure)
      (Text : List DataRecord → Type 0)
      (s : SendsAll {E = WriteFault} (FillsNext g) (at source file input) to whole Text) where
    all-filled : HasFilled g file.header file.progress (g.remaining input) source s.mid s.records
    all-filled = gives-all (FillsNext g)
        (HasFilled g file.header file.progress (g.remaining input) source)
        (λ mid then rs r so step. one-filled g file.header file.progress (g.remaining input) source
        mid then rs r so step)
        (at source file input) s.mid [] s.records begins-filled s.gave

    pub sent-records : IsPlaced source.places → (others : List DataRecord)
        × ReadsOn file.header file.progress s.mid.file.progress (g.remaining input)
        (g.remaining s.mid.input) others
        × IsNextAnswer file.header s.mid.file.progress to.file.progress
        (g.remaining s.mid.input) (g.remaining to.input) (Ok None)
        × (source.places.later.now ≡ starts_of others)
        × (s.records ≡ to_come source.places (samples_in source.last) others)
    sent-records placed =
        let so = all-filled.read placed in
        let end = s.end.answers in
        let parts = s.mid.source.places.parts.now in
        let none = none-come parts s.mid.source.places.nth s.mid.source.places.left
        (samples_in s.mid.source.last) s.mid.source.places.later.now [] end.none_left
        end.none_later (sym end.none_later) in
        let empty : to_come s.mid.source.places (samples_in s.mid.source.last) [] ≡ [] =
        ap (λ (ss : List (List ℕ)). spread s.mid.source.places.notes.now
        (bare parts.division.unit (parts.first + s.mid.source.places.nth * parts.division.unit)
        ss)) none in (
          so.records,
          so.reads,
          subst (λ (l : Layout). IsNextAnswer l s.mid.file.progress to.file.progress
              (g.remaining s.mid.input) (g.remaining to.input) (Ok None)) all-filled.header end.end,
          so.later ∙ ap (λ (l : List ℕ). starts_of so.records ++ l) end.none_later
              ∙ append-nil (starts_of so.records),
          sym (ap (λ (l : List DataRecord). to_come source.places (samples_in source.last) l)
              (sym (append-nil so.records))
              ∙ so.given [] (sym end.none_later)
              ∙ ap (λ (l : List DataRecord). s.records ++ l) empty ∙ append-nil s.records),
        )

-- ---- the filled file of an outline

module _ (outline : Outline) (filled : Filled) (is : IsFilling outline filled)
    (limits : FillLimits) (keeps : KeepsLimits limits outline filled) (once rest : Option (List ℕ)) (one : ReadsOutline once rest outline) where
  lasts-of : 0 < duration_of outline.identity.duration
  lasts-of = subst (λ (k : Key). 0 < duration_of k.duration) (sym one.is_outline.identity)
      (spelled-lasts one.read.bytes one.layout.key one.records one.read.is_file)

  placed-of : (p : Places) → p.parts.now ≡ filled.parts →
      p.later.now ≡ outline.spans.starts.items → p.nth ≡ 0 → p.left ≡ 0 → IsPlaced p
  placed-of p parts later nth left =
      let o = one.is_outline in
      let sound : AreSoundFrom outline.identity 0 one.records =
      subst (λ (k : Key). AreSoundFrom k 0 one.records) (sym o.identity) o.sound in
      let rise = rise-all outline filled is one.records o.some lasts-of sound
      (sym o.spans.starts) in
      let at : 0 ≡ p.nth + p.left = omega (arith, nth, left) in (
        omega (arith, left),
        subst (λ (q : FilledParts). Rise q.division.parts (p.nth + p.left)
            (map (place_of q.division.unit q.first) p.later.now)) (sym parts)
            (subst (λ (l : List ℕ). Rise filled.parts.division.parts (p.nth + p.left)
            (map (place_of filled.parts.division.unit filled.parts.first) l)) (sym later)
            (subst (λ (n : ℕ). Rise filled.parts.division.parts n
            (map (place_of filled.parts.division.unit filled.parts.first)
            outline.spans.starts.items)) at rise)),
      )

  -- what is to come of all places
  all-come : (source : FilledSource) (others : List DataRecord) →
      source.places.parts.now ≡ filled.parts → source.places.notes.now ≡ filled.notes.items →
      source.places.nth ≡ 0 → source.places.left ≡ 0 → source.last ≡ None →
      to_come source.places (samples_in source.last) others
      ≡ records_from filled.parts 0 0 [] filled.notes.items others
  all-come source others parts notes nth left last =
      let p = source.places in
      ap (λ (o : Option DataRecord). records_from p.parts.now p.nth p.left (samples_in o)
      p.notes.now
      others) last
      ∙ ap (λ (n : ℕ). records_from p.parts.now p.nth n [] p.notes.now others) left
      ∙ ap (λ (n : ℕ). records_from p.parts.now n 0 [] p.notes.now others) nth
      ∙ ap (λ (l : List Annotation). records_from p.parts.now 0 0 [] l others) notes
      ∙ ap (λ (q : FilledParts). records_from q 0 0 [] filled.notes.items others) parts

  module _ {R : Type 0} (g : Ghosts R) (source : FilledSource) (file : OpenFragment) (input : R)
      (parts : source.places.parts.now ≡ filled.parts)
      (later : source.places.later.now ≡ outline.spans.starts.items)
      (notes : source.places.notes.now ≡ filled.notes.items) (nth : source.places.nth ≡ 0)
      (left : source.places.left ≡ 0) (last : source.last ≡ None)
      (bytes : source.bytes ≡ 2 * samples_in_all filled.identity.signals) where
    pub filled-sent : (to : At FilledSource OpenFragment R) (whole : Measure) (header : List ℕ)
        (again before after : Option (List ℕ)) → IsKey filled.identity →
        MayStart filled.identity whole.first →
        IsContinuousHeader header filled.identity whole →
        ReadsHeader again (g.remaining input) file.header → file.progress ≡ initial_progress →
        file.header.key ≡ outline.identity →
        SendsAll {E = WriteFault} (FillsNext g) (at source file input) to whole
        (λ rs. Appends before after (planned_text header whole rs)) →
        IsFilledOut limits once again before after
    filled-sent to whole header again before after key begins is-header opened first same s =
        let u = filled.parts.division.unit in
        let sent = sent-records g source file input to whole
        (λ rs. Appends before after (planned_text header whole rs)) s
        (placed-of source.places parts later nth left) in
        let others = sent.0 in
        let all = all-filled g source file input to whole
        (λ rs. Appends before after (planned_text header whole rs)) s in
        let records-are : s.records ≡ records_from filled.parts 0 0 [] filled.notes.items others =
        sent.4 ∙ all-come source others parts notes nth left last in
        let reads = subst (λ (p : Progress). ReadsOn file.header p s.mid.file.progress
        (g.remaining input) (g.remaining s.mid.input) others) first sent.1 in
        let read = read-whole again (g.remaining input) (g.remaining s.mid.input)
        (g.remaining to.input) file.header s.mid.file.progress to.file.progress others opened reads
        sent.2 in
        let instant : ℕ = filled.parts.first + 0 * u in
        let from : StartFrom u instant (records_from filled.parts 0 0 [] filled.notes.items others)
        =
        starts-spread u instant filled.notes.items (samples_from filled.parts 0 0 [] others) in
        let starts : StartFrom (duration_of filled.identity.duration) instant s.records =
        subst (λ (d : ℕ). StartFrom d instant s.records) filled.lasts
        (subst (λ (l : List DataRecord). StartFrom u instant l) (sym records-are) from) in
        let sound = sound-all filled.identity source.bytes s.records bytes all.valid all.sizes in
        let file-is = continuous-file filled.identity s.records whole header key begins is-header
        instant sound starts s.measured in
        filled-out outline filled is limits keeps once rest again (g.remaining to.input) before after file.header
        others (planned_text header whole s.records) one read same (sym sent.3 ∙ later)
        (subst (λ (l : List DataRecord). IsRunFile (planned_text header whole s.records)
        filled.identity l) records-are file-is) s.wrote
