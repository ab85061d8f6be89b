-- A run's file, put out after its header.
use Rattle.std.proofs.Common.{◌≡◌, ◌≢◌, ℕ, inl, ◌+◌, ◌*◌, ◌≤◌, List, [], ◌∷◌, ◌++◌, length, refl}
use Rattle.std.proofs.Common.{sym, ap, ◌∙◌, arith, Option}
use Rattle.std.specs.List.{AllByRecursion}
use Rattle.std.proofs.KnownBytes.{Keeps-refl}
use Rattle.std.proofs.lemmas.List.Elements.{All-nil}
use Rattle.edf_field.specs.Number.{duration_of}
use Rattle.edf_header.specs.Key.{Key, IsKey, MayStart}
use Rattle.edf_header.specs.Signal.{samples_in_all}
use Rattle.edf_header.specs.Canonical.{IsCanonicalHeader}
use Rattle.edf_header.specs.Header.{Layout, most_records}
use Rattle.edf_header.proofs.Cited.{canonical-header-reads}
use Rattle.edf_header.specs.declared.limits.TheConstants.{MOST_SIGNALS}
use Rattle.edf_fragment.specs.Fragment.{DataRecord}
use Rattle.edf_fragment.specs.Sound.{IsSoundRecord, AreSoundFrom}
use Rattle.edf_fragment.specs.declared.advance.Progress.{Progress}
use Rattle.edf_canonical.specs.File.{second_of, block_of}
use Rattle.edf_canonical.specs.Output.{CountsOutputFault}
use Rattle.edf_canonical.specs.declared.fault.OutputFault.{OutputFault}
use Rattle.edf_canonical.specs.declared.fault.OutputFault.TheVariants.{Write as FailedWrite}
use Rattle.edf_canonical.specs.declared.fault.OutputFault.TheVariants.{Memory as NoRoom}
use Rattle.edf_canonical.specs.Measure.{IsMeasured}
use Rattle.edf_canonical.specs.declared.measure.Measure.{Measure}
use Rattle.edf_canonical.proofs.MeasuredFiles.{file_of, length_of}
use Rattle.edf_runs.specs.Runs.{StartFrom, IsListed}
use Rattle.edf_runs.specs.File.{marked_continuous, IsRunFile}
use Rattle.edf_runs.specs.Again.{CountsRereadFault}
use Rattle.edf_runs.specs.Written.{CountsFault, run_text, IsRunHeader, StopsInRun, IsRunUnwritten}
use Rattle.edf_runs.specs.Inside.Steps.{fault_out}
use Rattle.edf_runs.specs.declared.run.Run.{Run}
use Rattle.edf_runs.specs.declared.fault.WriteFault.{WriteFault}
use Rattle.edf_runs.specs.declared.fault.WriteFault.TheVariants.{Undated, Changed, Read, Memory}
use Rattle.edf_runs.specs.declared.fault.WriteFault.TheVariants.{Write}
use Rattle.edf_runs.proofs.Growing.{touching_from}
use Rattle.edf_runs.proofs.SecondReading.{none_read}
use Rattle.edf_runs.proofs.RunFiles.{marked-front, marked-len}

-- ---- what is counted, and what no call tells

-- a fault of the second reading, before which no write failed
pub reread_counts : (old new writes : ℕ) (fault : WriteFault) → CountsRereadFault old new fault →
    CountsFault old new writes writes fault × (fault ≢ Undated)
reread_counts old new writes Undated counts = absurd counts
reread_counts old new writes Changed counts =
    ((counts, refl), λ same. let e : ◌≡◌ {A = WriteFault} Changed Undated = same in cc)
reread_counts old new writes Read counts =
    ((counts, refl), λ same. let e : ◌≡◌ {A = WriteFault} Read Undated = same in cc)
reread_counts old new writes Memory counts =
    ((counts, refl), λ same. let e : ◌≡◌ {A = WriteFault} Memory Undated = same in cc)
reread_counts old new writes Write counts = absurd counts

-- a fault of the output, before which no read failed
pub out_counts : (reads old new : ℕ) (fault : OutputFault) → CountsOutputFault old new fault →
    CountsFault reads reads old new (fault_out fault) × (fault_out fault ≢ Undated)
out_counts reads old new FailedWrite counts =
    ((refl, counts), λ same. let e : ◌≡◌ {A = WriteFault} Write Undated = same in cc)
out_counts reads old new NoRoom counts =
    ((refl, counts), λ same. let e : ◌≡◌ {A = WriteFault} Memory Undated = same in cc)

pub out_same : (fault : OutputFault) → fault_out fault ≢ Changed
out_same FailedWrite same = let e : ◌≡◌ {A = WriteFault} Write Changed = same in cc
out_same NoRoom same = let e : ◌≡◌ {A = WriteFault} Memory Changed = same in cc

-- ---- the file

-- a header is longer than its fixed part, and has 640 signals at most
pub header_len : (header : List ℕ) (k : Key) (run : Run) → IsKey k → MayStart k run.first →
    IsCanonicalHeader header k run.first run.records run.block_samples
    → length header ≡ 512 + 256 * length k.signals
header_len header k run key begins is =
    (canonical-header-reads header k run.first run.records run.block_samples key begins
    run.records_some run.records_few run.block_some (omega (arith, run.block_few)) is).len

pub header_long : (header : List ℕ) (k : Key) (run : Run) → IsKey k → MayStart k run.first →
    IsCanonicalHeader header k run.first run.records run.block_samples → 197 ≤ length header
header_long header k run key begins is = omega (arith, header_len header k run key begins is)

pub marked_short : (header : List ℕ) (k : Key) (run : Run) → IsKey k → MayStart k run.first →
    IsCanonicalHeader header k run.first run.records run.block_samples
    → length (marked_continuous header) ≤ 256 * (MOST_SIGNALS + 1)
marked_short header k run key begins is =
    omega (
      arith,
      marked-len header (header_long header k run key begins is),
      header_len header k run key begins is,
      key.signals_to,
    )

pub sound_from : (k : Key) (low at : ℕ) (rs : List DataRecord) → AllByRecursion (IsSoundRecord k) rs
    →
    StartFrom (duration_of k.duration) at rs → low ≤ at → AreSoundFrom k low rs
sound_from k low at [] sound from le = tt
sound_from k low at (r ∷ rs) sound from le = (
  sound.0,
  omega (arith, from.0),
  sound_from k (r.start + duration_of k.duration) (at + duration_of k.duration) rs sound.1
      from.1 (omega (arith, from.0)),
)

-- the bytes of a run's file, as they are sent
abbrev sent_text : List ℕ → Run → List DataRecord → List ℕ
sent_text header run rs = header ++ run_text run rs

-- what is listed of a run, as it is measured
abbrev measure_of : Run → Measure
measure_of run = record {
  first = run.first;
  records = run.records;
  block_samples = run.block_samples;
  records_some = run.records_some;
  records_few = run.records_few;
  block_some = run.block_some;
  block_few = run.block_few;
}

listed_measured : (d : ℕ) (rs : List DataRecord) (run : Run) → IsListed d rs run →
    IsMeasured rs (measure_of run)
listed_measured d [] run is = absurd (omega (arith, is.count, run.records_some))
listed_measured d (r ∷ rs) run is = record {
  first = r;
  others = rs;
  parts = refl;
  start = sym is.starts.0;
  count = is.count;
  holds = is.holds;
  least = is.least;
}

module _ (k : Key) (rs : List DataRecord) (run : Run) (header : List ℕ)
    (sound : AllByRecursion (IsSoundRecord k) rs) (is : IsListed (duration_of k.duration) rs run)
  where
    are-sound : AreSoundFrom k 0 rs
    are-sound = sound_from k 0 run.first rs sound is.starts (omega arith)

    pub run_file : IsKey k → MayStart k run.first → IsRunHeader header k run →
        IsRunFile (sent_text header run rs) k rs
    run_file key begins (plain, is-plain, marked) = record {
      touching = touching_from (duration_of k.duration) run.first rs is.starts;
      canonical = sent_text plain run rs;
      is_canonical = file_of k rs (measure_of run) plain key are-sound
          (listed_measured (duration_of k.duration) rs run is) begins is-plain;
      marked = ap (λ (x : List ℕ). x ++ run_text run rs) marked
          ∙ sym (marked-front plain (header_long plain k run key begins is-plain)
          (run_text run rs));
    }

    pub file_len : length header
        + run.records * (2 * samples_in_all k.signals + 2 * run.block_samples)
        ≡ length (sent_text header run rs)
    file_len = length_of k rs (measure_of run) header are-sound
        (listed_measured (duration_of k.duration) rs run is)

-- ---- what is answered

-- nothing was read or written
pub not_begun : (l : Layout) (from : Progress) (left before : Option (List ℕ)) (run : Run) →
    from.given ≤ most_records l.count → StopsInRun l from from left left before before run
not_begun l from left before run few = record {
  records = [];
  mid = from;
  middle = left;
  read = none_read l from left few;
  start = tt;
  within = omega arith;
  holds = All-nil (λ r. length (block_of (second_of run.first) r) ≤ 2 * run.block_samples);
  prefix = inl (Keeps-refl before);
  more = inl (refl, refl);
}

pub not_written : {l : Layout} {from to : Progress} {left rest before after : Option (List ℕ)}
    {run : Run} (fault : WriteFault) → StopsInRun l from to left rest before after run →
    fault ≢ Undated → IsRunUnwritten l from to left rest before after run fault
not_written Undated s dated = absurd (dated refl)
not_written fault s dated = s
