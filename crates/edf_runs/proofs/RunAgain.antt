-- A run that is read again, data record by data record, and its file, as it is sent.
use Rattle.std.proofs.Common.{◌≡◌, ◌≢◌, ℕ, ◌+◌, ◌*◌, ◌≤◌, ◌<◌, List, [], ◌∷◌, ◌++◌, length, refl}
use Rattle.std.proofs.Common.{sym, ap, ◌∙◌, subst, arith, Option, Some, Result, Ok, Err}
use Rattle.std.proofs.Common.{inl, inr}
use Rattle.std.specs.List.{AllByRecursion, flat_map}
use Rattle.std.specs.Io.KnownBytes.{Appends}
use Rattle.std.proofs.lemmas.List.Elements.{All-push}
use Rattle.std.proofs.lemmas.Nat.{mul-le}
use Rattle.edf_field.specs.Number.{duration_of}
use Rattle.edf_header.specs.Key.{Key, IsKey, MayStart}
use Rattle.edf_header.specs.Signal.{samples_in_all}
use Rattle.edf_header.specs.Header.{Layout, IsLayout}
use Rattle.edf_header.specs.declared.limits.TheConstants.{MOST_RECORDS}
use Rattle.edf_tal.specs.declared.limits.TheConstants.{MOST_ANNOTATIONS}
use Rattle.edf_fragment.specs.Fragment.{DataRecord}
use Rattle.edf_fragment.specs.Reading.{IsNextAnswer}
use Rattle.edf_fragment.specs.Sound.{IsSoundRecord}
use Rattle.edf_fragment.specs.declared.advance.Progress.{Progress}
use Rattle.edf_fragment.specs.declared.fault.FragmentFault.{FragmentFault}
use Rattle.edf_fragment.specs.declared.open_fragment.OpenFragment.{OpenFragment}
use Rattle.edf_fragment.specs.declared.streams.Input.{Ghosts}
use Rattle.edf_canonical.specs.File.{second_of, block_of, record_text, BlocksFit}
use Rattle.edf_canonical.specs.Measure.{MayBePrefix, StartsAt, planned_text}
use Rattle.edf_canonical.specs.Output.{WritesPrefix}
use Rattle.edf_canonical.specs.Sending.{SendsAll, StopsAfter, StopsFor, CountsSendFault}
use Rattle.edf_canonical.specs.Source.{At, at, Answers, Gives}
use Rattle.edf_canonical.specs.declared.fault.SendFault.{SendFault}
use Rattle.edf_canonical.specs.declared.fault.SendFault.TheVariants.{Source, Unlike, Output}
use Rattle.edf_canonical.specs.declared.measure.Measure.{Measure}
use Rattle.edf_canonical.proofs.Sourced.{gives-all, keeps}
use Rattle.edf_runs.specs.Again.{StopsAt, ComesNext}
use Rattle.edf_runs.specs.Read.{ReadsOn}
use Rattle.edf_runs.specs.Runs.{StartFrom, IsListed}
use Rattle.edf_runs.specs.Written.{ReadsOneMoreAtMost, run_text, IsRunHeader, IsRunWritten}
use Rattle.edf_runs.specs.Written.{StopsInRun}
use Rattle.edf_runs.specs.Inside.Putting.{ReadsRun, IsRefused}
use Rattle.edf_runs.specs.Inside.Steps.{CountsSending, send_fault, StepsOn, ReadSoFar}
use Rattle.edf_runs.specs.Inside.Tally.{IsTallied}
use Rattle.edf_runs.specs.declared.fault.WriteFault.{WriteFault}
use Rattle.edf_runs.specs.declared.fault.WriteFault.TheVariants.{Changed}
use Rattle.edf_runs.specs.declared.rereading.RunAgain.{RunAgain}
use Rattle.edf_runs.specs.declared.run.Run.{Run}
use Rattle.edf_runs.specs.declared.tally.Tally.{Tally}
use Rattle.edf_runs.specs.declared.written.Written.{Written}
use Rattle.edf_runs.proofs.Came.{all-push}
use Rattle.edf_runs.proofs.Growing.{last_end}
use Rattle.edf_runs.proofs.Next.{next_as_listed, fits_as_listed, end_as_listed, run_as_listed}
use Rattle.edf_runs.proofs.SecondReading.{more_so_far, none_so_far}
use Rattle.edf_runs.proofs.RunFiles.{one-run-file}
use Rattle.edf_runs.proofs.Sending.{run_file, file_len, out_same}
use Rattle.edf_runs.proofs.Stopping.{stop-counts}
use Rattle.edf_runs.proofs.Tallies.{few-annotations}

-- data records that start one after another may come first
starts-first : (d instant first : ℕ) (rs : List DataRecord) → first ≡ instant →
    StartFrom d instant rs → StartsAt first rs
starts-first d instant first [] is starts = tt
starts-first d instant first (r ∷ rs) is starts = is ∙ sym starts.0

module _ {R : Type 0} (g : Ghosts R) (l : Layout) (from : Progress) (run : Run)
    (left : Option (List ℕ)) (reads : ℕ) where
  -- these were read so far
  pub record HasReadRun (now : At RunAgain OpenFragment R) (rs : List DataRecord) : Type 0 where
    run_is : now.source.run.now ≡ run
    header : now.file.header ≡ l
    so_far : ReadSoFar l from now.file.progress left (g.remaining now.input) run rs
        now.source.next now.source.nth
    few : now.source.nth ≤ run.records
    sound : AllByRecursion (IsSoundRecord l.key) rs
    tallied : IsTallied (duration_of l.key.duration) run rs now.source.tally
    counted : g.failures now.input ≡ reads

module _ {R : Type 0} {g : Ghosts R} {l : Layout} {from : Progress} {run : Run}
    {left : Option (List ℕ)} {reads : ℕ} where
  few-tallied : (now : At RunAgain OpenFragment R) (rs : List DataRecord) →
      HasReadRun g l from run left reads now rs →
      now.source.tally.annotations ≤ MOST_RECORDS * MOST_ANNOTATIONS
  few-tallied now rs so =
      let few : length rs ≤ MOST_RECORDS =
      omega (arith, so.so_far.counted, so.few, run.records_few) in
      let all = few-annotations l.key rs so.sound in
      let most = mul-le (length rs) MOST_ANNOTATIONS MOST_RECORDS MOST_ANNOTATIONS few
      (omega arith) in
      omega (arith, so.tallied.counted.all, all, most)

  module _ (mid to : At RunAgain OpenFragment R) (rs : List DataRecord)
      (so : HasReadRun g l from run left reads mid rs) where
    few-of : mid.source.nth < mid.source.run.now.records → mid.source.nth < run.records
    few-of few = subst (λ (x : Run). mid.source.nth < x.records) so.run_is few

    step-of : (r : DataRecord) →
        StepsOn mid.file.header mid.file.progress to.file.progress (g.remaining mid.input)
        (g.remaining to.input) mid.source.next r →
        StepsOn l mid.file.progress to.file.progress (g.remaining mid.input)
        (g.remaining to.input) mid.source.next r
    step-of r step =
        subst (λ (x : Layout). StepsOn x mid.file.progress to.file.progress
        (g.remaining mid.input) (g.remaining to.input) mid.source.next r) so.header step

    pub one-more : (r : DataRecord) → Answers (ReadsRun g) mid to (Ok (Some r)) →
        HasReadRun g l from run left reads to (rs ++ r ∷ [])
    one-more r reads-on =
        let a = reads-on.answers in
        let d = duration_of l.key.duration in
        let few = few-of a.few in
        let step = step-of r a.step in
        let after : to.source.next ≡ mid.source.next + d =
        a.next ∙ ap (λ (x : Layout). mid.source.next + duration_of x.key.duration) so.header in
        let more = more_so_far l from mid.file.progress to.file.progress left
        (g.remaining mid.input) (g.remaining to.input) run rs mid.source.next to.source.next
        mid.source.nth r so.so_far few step after in
        record {
          run_is = reads-on.run ∙ so.run_is;
          header = reads-on.header ∙ so.header;
          so_far = subst (λ n. ReadSoFar l from to.file.progress left (g.remaining to.input) run
              (rs ++ r ∷ []) to.source.next n) (sym a.nth) more;
          few = omega (arith, a.nth, few);
          sound = all-push (IsSoundRecord l.key) rs r so.sound step.sound;
          tallied = a.counts (few-tallied mid rs so) d run rs so.tallied;
          counted = reads-on.counted ∙ so.counted;
        }

  module _ {start : At RunAgain OpenFragment R}
      (base : HasReadRun g l from run left reads start []) where
    all-read : (mid : At RunAgain OpenFragment R) (rs : List DataRecord) →
        Gives (ReadsRun g) start mid rs → HasReadRun g l from run left reads mid rs
    all-read mid rs gave =
        gives-all (ReadsRun g) (HasReadRun g l from run left reads)
        (λ mid to rs r so step. one-more mid to rs so r step)
        start mid [] rs base gave

    module _ (to : At RunAgain OpenFragment R) (whole : Measure) (header : List ℕ)
        (before after : Option (List ℕ)) (first : whole.first ≡ run.first)
        (count : whole.records ≡ run.records) (samples : whole.block_samples ≡ run.block_samples)
      where
        text-is : (rs : List DataRecord) → planned_text header whole rs ≡ header ++ run_text run rs
        text-is rs =
            ap (λ n. header ++ flat_map (record_text (second_of n) (2 * whole.block_samples)) rs)
            first
            ∙ ap (λ n. header ++ flat_map (record_text (second_of run.first) (2 * n)) rs) samples

        -- all were sent, and are the file of the run
        pub run-sent : IsKey l.key → MayStart l.key run.first → IsRunHeader header l.key run →
            (written : Written) → written.bytes ≡ length header
            + run.records * (2 * samples_in_all l.key.signals + 2 * run.block_samples) →
            written.annotations ≡ to.source.tally.annotations →
            written.outside ≡ to.source.tally.outside → SendsAll (ReadsRun g) start to whole
            (λ rs. Appends before after (planned_text header whole rs)) →
            IsRunWritten l from to.file.progress left (g.remaining to.input) before after run
            written
        run-sent key begins is-header written len-is all out s =
            let so = all-read s.mid s.records s.gave in
            let d = duration_of l.key.duration in
            let rs = s.records in
            let e = s.end.answers in
            let counted : length rs ≡ run.records = omega (arith, s.measured.count, count) in
            let ends : s.mid.source.next ≡ run.last + d = e.end
            ∙ ap (λ (x : Run). x.last + duration_of s.mid.file.header.key.duration) so.run_is
            ∙ ap (λ (x : Layout). run.last + duration_of x.key.duration) so.header in
            let listed : IsListed d rs run = record {
              count = sym counted;
              starts = so.so_far.start;
              last = omega (
                arith,
                so.so_far.next_is,
                ends,
                ap (λ n. n * d) counted,
                last_end run.records d run.records_some,
              );
              holds = subst (λ n. BlocksFit (second_of n) run.block_samples rs) first
                  (subst (λ n. BlocksFit (second_of whole.first) n rs) samples s.measured.holds);
              least = λ fewer hold. omega (
                arith,
                samples,
                s.measured.least fewer
                    (subst (λ n. BlocksFit (second_of n) fewer rs) (sym first) hold),
              );
            } in
            let file = run_file l.key rs run header so.sound listed key begins is-header in
            record {
              records = rs;
              read = subst (λ (x : Progress). ReadsOn l from x left (g.remaining to.input) rs)
                  (sym e.rests.progress)
                  (subst (λ (x : Option (List ℕ)). ReadsOn l from s.mid.file.progress left x rs)
                  (sym e.rests.unread) so.so_far.read);
              listed = listed;
              file = header ++ run_text run rs;
              is_file = file;
              only = λ other is. one-run-file other (header ++ run_text run rs) l.key rs is file;
              wrote = subst (λ (x : List ℕ). Appends before after x) (text-is rs) s.wrote;
              len_is = len-is ∙ file_len l.key rs run header so.sound listed;
              counted = record {
                all = all ∙ ap (λ (x : Tally). x.annotations) e.tally ∙ so.tallied.counted.all;
                out = out ∙ ap (λ (x : Tally). x.outside) e.tally ∙ so.tallied.counted.out;
              };
            }

        pub sent-counted : SendsAll (ReadsRun g) start to whole
            (λ rs. Appends before after (planned_text header whole rs)) → g.failures to.input
            ≡ reads
        sent-counted s = s.end.counted ∙ (all-read s.mid s.records s.gave).counted

        pub sent-header : SendsAll (ReadsRun g) start to whole
            (λ rs. Appends before after (planned_text header whole rs)) → to.file.header ≡ l
        sent-header s = s.end.header ∙ (all-read s.mid s.records s.gave).header

        pub stops-header : (fault : SendFault WriteFault) →
            StopsAfter (ReadsRun g) start to whole
            (λ rs. WritesPrefix before after (planned_text header whole rs)) fault →
            to.file.header ≡ l
        stops-header fault s =
            keeps (ReadsRun g) start to whole s.mid s.records (λ x. x.file.header)
            (λ answer is. is.header) fault s.why ∙ (all-read s.mid s.records s.gave).header

        -- the first of them were
        module _ (mid : At RunAgain OpenFragment R) (rs : List DataRecord)
            (so : HasReadRun g l from run left reads mid rs) where
          rests : (to.file.progress ≡ mid.file.progress) →
              (g.remaining to.input ≡ g.remaining mid.input) →
              ReadsOneMoreAtMost l mid.file.progress to.file.progress (g.remaining mid.input)
              (g.remaining to.input) (length rs) run
          rests same unread = inl (same, unread)

          asked : (answer : Result (Option DataRecord) FragmentFault) →
              mid.source.nth < mid.source.run.now.records →
              IsNextAnswer mid.file.header mid.file.progress to.file.progress
              (g.remaining mid.input)
              (g.remaining to.input) answer →
              ReadsOneMoreAtMost l mid.file.progress to.file.progress (g.remaining mid.input)
              (g.remaining to.input) (length rs) run
          asked answer few is = inr (
            omega (arith, few-of mid to rs so few, so.so_far.counted),
            (
              answer,
              subst (λ (x : Layout). IsNextAnswer x mid.file.progress to.file.progress
                  (g.remaining mid.input) (g.remaining to.input) answer) so.header is,
            ),
          )

          more-at-most : (fault : SendFault WriteFault) →
              StopsFor (ReadsRun g) start to whole mid rs fault →
              ReadsOneMoreAtMost l mid.file.progress to.file.progress (g.remaining mid.input)
              (g.remaining to.input) (length rs) run
          more-at-most (Source fault) why = elim why.answers [
            | inl other ↦ rests other.rests.progress other.rests.unread
            | inr (few, stop) ↦ asked stop.answer few stop.is_answer
          ]
          more-at-most Unlike (inl (r, step, not)) =
              asked (Ok (Some r)) step.answers.few step.answers.step.is_answer
          more-at-most Unlike (inr (end, not)) =
              rests end.answers.rests.progress end.answers.rests.unread
          more-at-most (Output fault) (inl same) =
              rests (ap (λ (x : At RunAgain OpenFragment R). x.file.progress) same)
              (ap (λ (x : At RunAgain OpenFragment R). g.remaining x.input) same)
          more-at-most (Output fault) (inr end) =
              rests end.0.answers.rests.progress end.0.answers.rests.unread

        pub run-stops : IsRunHeader header l.key run → (fault : SendFault WriteFault) →
            StopsAfter (ReadsRun g) start to whole
            (λ rs. WritesPrefix before after (planned_text header whole rs)) fault →
            StopsInRun l from to.file.progress left (g.remaining to.input) before after run
        run-stops is-header fault s =
            let so = all-read s.mid s.records s.gave in
            let rs = s.records in
            record {
              records = rs;
              mid = s.mid.file.progress;
              middle = g.remaining s.mid.input;
              read = so.so_far.read;
              start = so.so_far.start;
              within = omega (arith, so.few, so.so_far.counted);
              holds = subst (λ n. BlocksFit (second_of n) run.block_samples rs) first
                  (subst (λ n. BlocksFit (second_of whole.first) n rs) samples s.first.holds);
              prefix = inr (
                header,
                is-header,
                subst (λ (x : List ℕ). WritesPrefix before after x) (text-is rs) s.prefix,
              );
              more = more-at-most s.mid rs so fault s.why;
            }

        pub run-counted : (fault : SendFault WriteFault)
            (s : StopsAfter (ReadsRun g) start to whole
            (λ rs. WritesPrefix before after (planned_text header whole rs)) fault)
            (writes writes' : ℕ) → CountsSendFault writes writes' fault →
            CountsSending {A = Unit {0}} reads (g.failures to.input) writes writes'
            (Err (send_fault fault))
        run-counted fault s writes writes' counted =
            subst (λ n. CountsSending {A = Unit {0}} n (g.failures to.input) writes writes'
            (Err (send_fault fault))) (all-read s.mid s.records s.gave).counted
            (stop-counts (ReadsRun g) start to whole s.mid s.records (λ x. g.failures x.input)
            (λ answer is. is.counted) fault s.why writes writes' counted)

        -- where the run comes next, no change is found
        module _ (layout : IsLayout l) (n : ComesNext l from left run) where
          all-of : (mid : At RunAgain OpenFragment R) (rs : List DataRecord) →
              HasReadRun g l from run left reads mid rs →
              mid.source.run.now.records ≤ mid.source.nth → mid.source.nth ≡ run.records
          all-of mid rs so all =
              let more : run.records ≤ mid.source.nth =
              subst (λ (x : Run). x.records ≤ mid.source.nth) so.run_is all in
              omega (arith, more, so.few)

          not-refused : (mid : At RunAgain OpenFragment R) (rs : List DataRecord)
              (fault : WriteFault) → HasReadRun g l from run left reads mid rs →
              IsRefused g mid.source mid.file mid.input to.source to.file to.input fault →
              fault ≢ Changed
          not-refused mid rs fault so (inl other) same =
              other.end (end_as_listed l from mid.file.progress left (g.remaining mid.input) run rs
              mid.source.next mid.source.nth so.so_far n (all-of mid rs so other.all)
              ∙ ap (λ (x : Layout). run.last + duration_of x.key.duration) (sym so.header)
              ∙ ap (λ (x : Run). x.last + duration_of mid.file.header.key.duration)
              (sym so.run_is))
          not-refused mid rs fault so (inr (few, stop)) same =
              next_as_listed l from mid.file.progress left (g.remaining mid.input) run rs
              mid.source.next mid.source.nth so.so_far n to.file.progress (g.remaining to.input)
              layout (few-of mid to rs so few)
              (subst (λ (x : WriteFault). StopsAt l mid.file.progress to.file.progress
              (g.remaining mid.input) (g.remaining to.input) mid.source.next x) same
              (subst (λ (x : Layout). StopsAt x mid.file.progress to.file.progress
              (g.remaining mid.input) (g.remaining to.input) mid.source.next fault) so.header stop))

          fits-too : (mid : At RunAgain OpenFragment R) (rs : List DataRecord) (r : DataRecord) →
              HasReadRun g l from run left reads mid rs → MayBePrefix rs whole →
              Answers (ReadsRun g) mid to (Ok (Some r)) → MayBePrefix (rs ++ r ∷ []) whole
          fits-too mid rs r so may step =
              let a = step.answers in
              let more = one-more mid to rs so r step in
              let here : length (block_of (second_of run.first) r) ≤ 2 * run.block_samples =
              fits_as_listed l from mid.file.progress left (g.remaining mid.input) run rs
              mid.source.next mid.source.nth so.so_far n to.file.progress (g.remaining to.input) r
              (few-of mid to rs so a.few) (step-of mid to rs so r a.step) in
              record {
                starts = starts-first (duration_of l.key.duration) run.first whole.first
                    (rs ++ r ∷ []) first more.so_far.start;
                within = omega (arith, more.so_far.counted, more.few, count);
                holds = All-push (λ x. length (block_of (second_of whole.first) x)
                    ≤ 2 * whole.block_samples) rs r may.holds
                    (subst (λ k. length (block_of (second_of k) r) ≤ 2 * whole.block_samples)
                    (sym first)
                    (subst (λ k. length (block_of (second_of run.first) r) ≤ 2 * k) (sym samples)
                    here));
              }

          pub run-unchanged : (fault : SendFault WriteFault) →
              StopsAfter (ReadsRun g) start to whole
              (λ rs. WritesPrefix before after (planned_text header whole rs)) fault →
              send_fault fault ≢ Changed
          run-unchanged (Source fault) s same =
              not-refused s.mid s.records fault (all-read s.mid s.records s.gave) s.why.answers same
          run-unchanged Unlike s same =
              let so = all-read s.mid s.records s.gave in
              elim s.why [
                | inl (r, step, not) ↦ not (fits-too s.mid s.records r so s.first step)
                | inr (end, not) ↦
                    not (run_as_listed l from s.mid.file.progress left (g.remaining s.mid.input) run
                    s.records s.mid.source.next s.mid.source.nth so.so_far n
                    (all-of s.mid s.records so end.answers.all) whole first count samples)
              ]
          run-unchanged (Output fault) s same = out_same fault same

-- none were read
pub begins : {R : Type 0} (g : Ghosts R) {source : RunAgain} {file : OpenFragment} {input : R}
    {identity : Key} {d : ℕ} → source.nth ≡ 0 → source.next ≡ source.run.now.first →
    identity ≡ file.header.key → d ≡ duration_of identity.duration →
    IsTallied d source.run.now [] source.tally →
    HasReadRun g file.header file.progress source.run.now (g.remaining input) (g.failures input)
    (at source file input) []
begins g {source = source} {file = file} {input = input} none next same duration tallied =
    let l = file.header in
    let run = source.run.now in
    let d = duration ∙ ap (λ (k : Key). duration_of k.duration) same in
    record {
      run_is = refl;
      header = refl;
      so_far = subst (λ n. ReadSoFar l file.progress file.progress (g.remaining input)
          (g.remaining input) run [] source.next n) (sym none)
          (none_so_far l file.progress (g.remaining input) run source.next file.within next);
      few = omega (arith, none);
      sound = tt;
      tallied = subst (λ n. IsTallied n run [] source.tally) d tallied;
      counted = refl;
    }
