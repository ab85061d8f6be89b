-- The cut file of an outline, written in a second reading.
use Rattle.std.proofs.Common.{◌≡◌, ◌≢◌, ℕ, ◌+◌, ◌*◌, List, [], ◌∷◌, ◌++◌, length}
use Rattle.std.proofs.Common.{sym, ap, ◌∙◌, subst, arith, append-nil, Option, Some, None, Result}
use Rattle.std.proofs.Common.{Ok, Err, inl, inr}
use Rattle.std.specs.List.{AllByRecursion}
use Rattle.std.specs.Io.KnownBytes.{Appends}
use Rattle.std.proofs.lemmas.List.{append_cancel_left, map-append}
use Rattle.edf_field.specs.Number.{duration_of}
use Rattle.edf_header.specs.Key.{Key, IsKey, MayStart}
use Rattle.edf_header.specs.Header.{Layout}
use Rattle.edf_header.specs.Canonical.{IsCanonicalHeader}
use Rattle.edf_header.specs.Signal.{samples_in_all}
use Rattle.edf_fragment.specs.Fragment.{DataRecord, IsFragmentFile}
use Rattle.edf_fragment.specs.Reading.{ReadsHeader, IsNextAnswer, initial_progress}
use Rattle.edf_fragment.specs.Sound.{AreSoundFrom}
use Rattle.edf_fragment.specs.Whole.{HasReadRecords, ReadsFragment}
use Rattle.edf_fragment.specs.declared.advance.Progress.{Progress}
use Rattle.edf_fragment.specs.declared.open_fragment.OpenFragment.{OpenFragment}
use Rattle.edf_fragment.specs.declared.streams.Input.{Ghosts}
use Rattle.edf_fragment.proofs.Fragments.{all_read, fragment_of_all, reads_none}
use Rattle.edf_fragment.proofs.OneFragment.{one-fragment}
use Rattle.edf_fragment.proofs.Sound.{read-front, spelled-sound}
use Rattle.edf_canonical.specs.Measure.{IsMeasured, MayBePrefix, planned_text, records_text}
use Rattle.edf_canonical.specs.Output.{WritesPrefix}
use Rattle.edf_canonical.specs.Sending.{SendsAll, StopsAfter, CountsSendFault}
use Rattle.edf_canonical.specs.Source.{At, Answers}
use Rattle.edf_canonical.specs.declared.fault.SendFault.{SendFault}
use Rattle.edf_canonical.specs.declared.fault.SendFault.TheVariants.{Source, Unlike, Output}
use Rattle.edf_canonical.specs.declared.measure.Measure.{Measure}
use Rattle.edf_canonical.proofs.MeasuredFiles.{file_of, length_of, front_more, planned_more}
use Rattle.edf_canonical.proofs.Measures.{front_first}
use Rattle.edf_runs.specs.Again.{CountsRereads}
use Rattle.edf_runs.specs.ByOnset.{annotations_of}
use Rattle.edf_runs.specs.Cut.{between, IsCutFile}
use Rattle.edf_runs.specs.CutFiles.{IsCutWritten, StopsUnchanged}
use Rattle.edf_runs.specs.Outline.{IsOutline}
use Rattle.edf_runs.specs.Twice.{AreJoined}
use Rattle.edf_runs.specs.Inside.Selecting.{with_counts, noted, in_window, selected, HasRead}
use Rattle.edf_runs.specs.Inside.Selecting.{HasLimits, Passes, SelectsNext}
use Rattle.edf_runs.specs.Inside.Selecting.{GivesSelected}
use Rattle.edf_runs.specs.Inside.Steps.{CountsSending, send_fault}
use Rattle.edf_runs.specs.declared.cut.Cut.{Cut}
use Rattle.edf_runs.specs.declared.cut.Window.{Window}
use Rattle.edf_runs.specs.declared.cut_source.CutSource.{CutSource}
use Rattle.edf_runs.specs.declared.fault.WriteFault.{WriteFault}
use Rattle.edf_runs.specs.declared.fault.WriteFault.TheVariants.{Changed}
use Rattle.edf_runs.proofs.Noted.{counts_of, starts_of, are-joined, joined-sound, joined-starts}
use Rattle.edf_runs.proofs.Noted.{joined-is, are-sound, some-sound, sound-limits}
use Rattle.edf_runs.proofs.SameMeasure.{between-noted, measured-noted}
use Rattle.edf_runs.proofs.Selecting.{passes-then, all-passed}
use Rattle.edf_runs.proofs.Sending.{out_same}
use Rattle.edf_runs.proofs.Stopping.{stop-counts}

-- a header was read again, and the file is begun
pub record Begins {R : Type 0} (g : Ghosts R) (again : Option (List ℕ)) (cut : Cut)
    (from : At CutSource OpenFragment R) (header : List ℕ) : Type 0 where
  pub window : from.source.window ≡ cut.window
  pub starts : from.source.spots.starts.now ≡ cut.outline.now.spans.starts.items
  pub counts : from.source.spots.counts.now ≡ cut.outline.now.spans.counts.items
  pub notes : from.source.spots.notes.now ≡ cut.outline.now.spans.notes.items
  pub initial : from.file.progress ≡ initial_progress
  pub opens : ReadsHeader again (g.remaining from.input) from.file.header
  pub same : from.file.header.key ≡ cut.outline.now.identity
  pub key : IsKey cut.outline.now.identity
  pub begins : MayStart cut.outline.now.identity cut.measure.first
  pub is_header : IsCanonicalHeader header cut.outline.now.identity cut.measure.first
      cut.measure.records cut.measure.block_samples

-- the file of data records of an outline that last in the time
cut-file : (cut : Cut) (k : Key) (records : List DataRecord) (header : List ℕ) →
    cut.outline.now.identity ≡ k → IsKey cut.outline.now.identity →
    MayStart cut.outline.now.identity cut.measure.first →
    IsCanonicalHeader header cut.outline.now.identity cut.measure.first cut.measure.records
    cut.measure.block_samples → AreSoundFrom k 0 records →
    IsMeasured (in_window cut.window records) cut.measure →
    IsCutFile (planned_text header cut.measure (in_window cut.window records)) k records
    cut.window.from cut.window.to
cut-file cut k records header same key begins is-header sound is =
    let m = cut.measure in
    let w = cut.window in
    let lasts : w.duration ≡ duration_of k.duration =
    cut.lasts ∙ ap (λ (x : Key). duration_of x.duration) same in
    subst (λ (d : ℕ). IsCutFile (planned_text header m (between d w.from w.to records)) k records
    w.from w.to) (sym lasts)
    (file_of k (between (duration_of k.duration) w.from w.to records) m header
    (subst IsKey same key) (some-sound _ k 0 0 records (omega arith) sound)
    (subst (λ (d : ℕ). IsMeasured (between d w.from w.to records) m) lasts is)
    (subst (λ (x : Key). MayStart x m.first) same begins)
    (subst (λ (x : Key). IsCanonicalHeader header x m.first m.records m.block_samples) same
    is-header))

module _ {R : Type 0} {g : Ghosts R} {again : Option (List ℕ)} {cut : Cut}
    {from : At CutSource OpenFragment R} {header : List ℕ}
    (b : Begins g again cut from header) where
  -- what was read so far
  has-read : (mid : At CutSource OpenFragment R) (rs : List DataRecord) →
      (p : Passes g from mid rs) → HasRead from.file.header (g.remaining from.input)
      (g.remaining mid.input) p.more mid.file.progress
  has-read mid rs p = p.read (g.remaining from.input) [] (record {
    going = ap (λ (x : Progress). x.state) b.initial;
    read = subst (HasReadRecords from.file.header (g.remaining from.input)
        (g.remaining from.input) []) (sym b.initial)
        (reads_none from.file.header (g.remaining from.input));
  })

  -- all were read, and these are those of the time
  record AllRead (rest : Option (List ℕ)) (rs : List DataRecord) : Type 0 where
    others : List DataRecord
    read : ReadsFragment again rest from.file.header others
    starts : starts_of others ≡ cut.outline.now.spans.starts.items
    gives : selected from.source others ≡ rs

  ends : (mid to : At CutSource OpenFragment R) (rs : List DataRecord) → Passes g from mid rs →
      SelectsNext g mid to (Ok None) → AllRead (g.remaining to.input) rs
  ends mid to rs p (last, none, end) =
      let q = passes-then g from mid last rs [] p none in
      let has = has-read last (rs ++ []) q in
      record {
        others = q.more;
        read = all_read from.file.header again (g.remaining from.input) (g.remaining last.input)
            (g.remaining to.input) q.more last.file.progress to.file.progress b.opens has.read
            has.going (subst (λ (l : Layout). IsNextAnswer l last.file.progress to.file.progress
            (g.remaining last.input) (g.remaining to.input) (Ok None)) q.header end.end);
        starts = sym (append-nil (starts_of q.more))
            ∙ ap (λ (x : List ℕ). starts_of q.more ++ x) (sym end.none) ∙ sym q.taken ∙ b.starts;
        gives = ap (selected from.source) (sym (append-nil q.more)) ∙ q.gives []
            ∙ append-nil (rs ++ []) ∙ append-nil rs;
      }

  -- with the annotations of the outline
  noted-as : (ones others : List DataRecord) (k : Key) → IsOutline k ones cut.outline.now →
      noted from.source.spots others
      ≡ with_counts (counts_of ones) (annotations_of ones) others
  noted-as ones others k is =
      ap (λ (x : List ℕ). with_counts x from.source.spots.notes.now others)
      (b.counts ∙ is.spans.counts)
      ∙ ap (λ x. with_counts (counts_of ones) x others) (b.notes ∙ is.spans.notes)

  in-cut : (records : List DataRecord) → selected from.source records
      ≡ in_window cut.window (noted from.source.spots records)
  in-cut records = ap (λ (w : Window). in_window w (noted from.source.spots records)) b.window

  -- it went out
  pub all-cut : (k : Key) (ones : List DataRecord) (to : At CutSource OpenFragment R)
      (before after : Option (List ℕ)) (len : ℕ) → IsOutline k ones cut.outline.now →
      len ≡ length header + cut.measure.records * (2 * samples_in_all
      cut.outline.now.identity.signals + 2 * cut.measure.block_samples) →
      SendsAll (GivesSelected g) from to cut.measure
      (λ rs. Appends before after (planned_text header cut.measure rs)) →
      IsCutWritten again (g.remaining to.input) before after cut k ones len
  all-cut k ones to before after len is len-is s =
      let m = cut.measure in
      let p = all-passed g from s.mid s.records s.gave in
      let all = ends s.mid to s.records p s.end in
      let records = with_counts (counts_of ones) (annotations_of ones) all.others in
      let same : starts_of all.others ≡ starts_of ones = all.starts ∙ is.spans.starts in
      let key : from.file.header.key ≡ k = b.same ∙ is.identity in
      let gives : in_window cut.window records ≡ s.records =
      ap (in_window cut.window) (sym (noted-as ones all.others k is))
      ∙ sym (in-cut all.others) ∙ all.gives in
      let sound : AreSoundFrom k 0 records = joined-sound k 0 0 ones all.others is.sound
      (subst (λ (x : Key). AreSoundFrom x 0 all.others) key (spelled-sound all.read.bytes
      from.file.header.key all.others all.read.is_file)) same in
      let file = cut-file cut k records header is.identity b.key b.begins b.is_header sound
      (subst (λ (x : List DataRecord). IsMeasured x m) (sym gives) s.measured) in
      let text = planned_text header m (in_window cut.window records) in
      record {
        layout = from.file.header;
        same = key;
        others = all.others;
        read = all.read;
        records = records;
        joined = are-joined ones all.others same;
        sound = sound;
        file = text;
        is_file = file;
        wrote = subst (λ (x : List DataRecord). Appends before after (planned_text header m x))
            (sym gives) s.wrote;
        len_is = len-is ∙ ap (λ (x : Key). length header + m.records * (2 * samples_in_all
            x.signals + 2 * m.block_samples)) is.identity
            ∙ length_of k (in_window cut.window records) m header
            (some-sound _ k 0 0 records (omega arith) sound)
            (subst (λ (x : List DataRecord). IsMeasured x m) (sym gives) s.measured);
      }

  -- an input that still is a file of the outline
  module _ (bytes : List ℕ) (k : Key) (ones others records : List DataRecord)
      (known : again ≡ Some bytes) (spells : IsFragmentFile bytes k others)
      (is : IsOutline k ones cut.outline.now) (joined : AreJoined ones others records)
      (plan : IsMeasured (between (duration_of k.duration) cut.window.from cut.window.to ones)
      cut.measure) where
    own : noted from.source.spots others ≡ records
    own = noted-as ones others k is ∙ joined-is ones others records joined

    whole : selected from.source others ≡ in_window cut.window records
    whole = in-cut others ∙ ap (in_window cut.window) own

    sound : AreSoundFrom k 0 records
    sound = are-sound k ones others records joined is.sound (spelled-sound bytes k others spells)

    measured : IsMeasured (in_window cut.window records) cut.measure
    measured =
        let w = cut.window in
        let lasts : w.duration ≡ duration_of k.duration =
        cut.lasts ∙ ap (λ (x : Key). duration_of x.duration) is.identity in
        measured-noted (in_window w ones) (in_window w records) cut.measure
        (between-noted w.duration w.from w.to ones records joined.annotated)
        (subst (λ (d : ℕ). IsMeasured (between d w.from w.to ones) cut.measure) (sym lasts) plan)

    opens : ReadsHeader (Some bytes) (g.remaining from.input) from.file.header
    opens = subst (λ (x : Option (List ℕ)). ReadsHeader x (g.remaining from.input)
        from.file.header) known b.opens

    -- it still has what starts when it is to
    record Goes (mid : At CutSource OpenFragment R) (more rs : List DataRecord) : Type 0 where
      later : List DataRecord
      parts : others ≡ more ++ later
      starts : starts_of later ≡ mid.source.spots.starts.now
      gives : in_window cut.window records ≡ rs ++ selected mid.source later
      limits : AllByRecursion HasLimits (noted mid.source.spots later)

    goes : (mid : At CutSource OpenFragment R) (rs : List DataRecord) → (p : Passes g from mid rs) →
        Goes mid p.more rs
    goes mid rs p =
        let has = has-read mid rs p in
        let front = read-front bytes (g.remaining from.input) (g.remaining mid.input)
        from.file.header p.more mid.file.progress k others opens has.read spells in
        let later = front.1.0 in
        let parts : others ≡ p.more ++ later = front.1.1 in
        let all : starts_of p.more ++ starts_of later
        ≡ starts_of p.more ++ mid.source.spots.starts.now =
        sym (map-append (λ (r : DataRecord). r.start) p.more later)
        ∙ ap starts_of (sym parts) ∙ joined-starts ones others records joined
        ∙ sym is.spans.starts ∙ sym b.starts ∙ p.taken in
        record {
          later = later;
          parts = parts;
          starts = append_cancel_left (starts_of p.more) (starts_of later)
              mid.source.spots.starts.now all;
          gives = sym whole ∙ ap (selected from.source) parts ∙ p.gives later;
          limits = p.limits later (subst (AllByRecursion HasLimits)
              (sym own ∙ ap (noted from.source.spots) parts) (sound-limits k 0 records sound));
        }

    fits : (mid : At CutSource OpenFragment R) (rs : List DataRecord) → Passes g from mid rs →
        MayBePrefix rs cut.measure
    fits mid rs p =
        let on = goes mid rs p in
        front_first rs (selected mid.source on.later) (in_window cut.window records) cut.measure
        on.gives measured

    unchanged : (to mid : At CutSource OpenFragment R) (rs : List DataRecord)
        (fault : WriteFault) → Passes g from mid rs → SelectsNext g mid to (Err fault) →
        fault ≢ Changed
    unchanged to mid rs fault p (last, none, stops) =
        let q = passes-then g from mid last rs [] p none in
        let on = goes last (rs ++ []) q in
        let has = has-read last (rs ++ []) q in
        stops.unchanged (g.remaining from.input) q.more
        (subst (λ (l : Layout). HasRead l (g.remaining from.input) (g.remaining last.input) q.more
        last.file.progress) (sym q.header) has)
        (record {
          bytes = bytes;
          key = k;
          later = on.later;
          opens = subst (ReadsHeader (Some bytes) (g.remaining from.input)) (sym q.header) opens;
          spells = subst (IsFragmentFile bytes k) on.parts spells;
          starts_are = on.starts;
        }) on.limits

    at-end : (mid to : At CutSource OpenFragment R) (rs : List DataRecord) → Passes g from mid rs →
        SelectsNext g mid to (Ok None) → IsMeasured rs cut.measure
    at-end mid to rs p end =
        let all = ends mid to rs p end in
        let read = subst (λ (x : Option (List ℕ)). ReadsFragment x (g.remaining to.input)
        from.file.header all.others) known all.read in
        let same = (one-fragment bytes k from.file.header.key others all.others spells
        (fragment_of_all bytes (g.remaining to.input) from.file.header all.others read)).records in
        subst (λ (x : List DataRecord). IsMeasured x cut.measure)
        (sym whole ∙ ap (selected from.source) same ∙ all.gives) measured

    not-changed : (to : At CutSource OpenFragment R) (before after : Option (List ℕ))
        (fault : SendFault WriteFault) → StopsAfter (GivesSelected g) from to cut.measure
        (λ rs. WritesPrefix before after (planned_text header cut.measure rs)) fault →
        send_fault fault ≢ Changed
    not-changed to before after (Source fault) s same =
        unchanged to s.mid s.records fault (all-passed g from s.mid s.records s.gave) s.why same
    not-changed to before after Unlike s same =
        let p = all-passed g from s.mid s.records s.gave in
        elim s.why [
          | inl (r, step, not) ↦ not (fits to (s.records ++ r ∷ [])
              (passes-then g from s.mid to s.records (r ∷ []) p step))
          | inr (end, not) ↦ not (at-end s.mid to s.records p end)
        ]
    not-changed to before after (Output fault) s same = out_same fault same

    prefix : (to : At CutSource OpenFragment R) (before after : Option (List ℕ))
        (fault : SendFault WriteFault) → StopsAfter (GivesSelected g) from to cut.measure
        (λ rs. WritesPrefix before after (planned_text header cut.measure rs)) fault →
        (file : List ℕ) × IsCutFile file k records cut.window.from cut.window.to
        × WritesPrefix before after file
    prefix to before after fault s =
        let m = cut.measure in
        let p = all-passed g from s.mid s.records s.gave in
        let on = goes s.mid s.records p in
        let later = selected s.mid.source on.later in (
          planned_text header m (in_window cut.window records),
          cut-file cut k records header is.identity b.key b.begins b.is_header sound measured,
          front_more before after (planned_text header m s.records) (records_text m later)
              (planned_text header m (in_window cut.window records))
              (ap (planned_text header m) on.gives ∙ planned_more header m s.records later)
              s.prefix,
        )

  -- it did not go out whole
  pub stops-cut : (to : At CutSource OpenFragment R) (before after : Option (List ℕ))
      (fault : SendFault WriteFault) → StopsAfter (GivesSelected g) from to cut.measure
      (λ rs. WritesPrefix before after (planned_text header cut.measure rs)) fault →
      StopsUnchanged again before after cut (send_fault fault)
  stops-cut to before after fault s bytes k ones others records known spells is joined plan = (
    not-changed bytes k ones others records known spells is joined plan to before after fault s,
    inr (prefix bytes k ones others records known spells is joined plan to before after fault s),
  )

-- how many calls failed
counts-answer : {R : Type 0} (g : Ghosts R) (mid to : At CutSource OpenFragment R)
    (answer : Result (Option DataRecord) WriteFault) → Answers (GivesSelected g) mid to answer →
    CountsRereads (g.failures mid.input) (g.failures to.input) answer
counts-answer g mid to (Ok (Some r)) p = p.counted
counts-answer g mid to (Ok None) (last, p, end) = end.counted ∙ p.counted
counts-answer g mid to (Err fault) (last, p, stops) =
    subst (λ (n : ℕ). CountsRereads {A = Option DataRecord} n (g.failures to.input) (Err fault))
    p.counted stops.counted

module _ {R : Type 0} (g : Ghosts R) (from to : At CutSource OpenFragment R) (m : Measure)
    (Text : List DataRecord → Type 0) where
  pub all-counted : SendsAll (GivesSelected g) from to m Text →
      g.failures to.input ≡ g.failures from.input
  all-counted s = counts-answer g s.mid to (Ok None) s.end
      ∙ (all-passed g from s.mid s.records s.gave).counted

  pub stops-counted : (fault : SendFault WriteFault) →
      StopsAfter (GivesSelected g) from to m Text fault → (writes writes' : ℕ) →
      CountsSendFault writes writes' fault → CountsSending {A = Unit {0}} (g.failures from.input)
      (g.failures to.input) writes writes' (Err (send_fault fault))
  stops-counted fault s writes writes' counted =
      subst (λ n. CountsSending {A = Unit {0}} n (g.failures to.input) writes writes'
      (Err (send_fault fault))) (all-passed g from s.mid s.records s.gave).counted
      (stop-counts (GivesSelected g) from to m s.mid s.records (λ x. g.failures x.input)
      (counts-answer g s.mid to) fault s.why writes writes' counted)
