-- The data records of an outline, with the samples of a second reading, and those of a time.
use Rattle.std.specs.Prelude.{◌≡◌, ◌≢◌, ◌<◌, ℕ, List, [], ◌∷◌, ◌++◌, length, map, take, drop}
use Rattle.std.specs.Prelude.{Option, Some, None, Result, Ok, Err}
use Rattle.std.specs.List.{AllByRecursion}
use Rattle.edf_header.specs.Header.{Layout}
use Rattle.edf_header.specs.Key.{Key}
use Rattle.edf_header.specs.declared.limits.TheConstants.{MOST_RECORDS}
use Rattle.edf_tal.specs.Block.{IsWithinLimits}
use Rattle.edf_tal.specs.Tal.{Annotation}
use Rattle.edf_fragment.specs.Fragment.{DataRecord, IsFragmentFile}
use Rattle.edf_fragment.specs.Reading.{ReadsHeader, IsNextAnswer}
use Rattle.edf_fragment.specs.Whole.{HasReadRecords}
use Rattle.edf_fragment.specs.declared.advance.Progress.{Progress}
use Rattle.edf_fragment.specs.declared.advance.ReaderState.TheVariants.{Reading}
use Rattle.edf_fragment.specs.declared.fault.FragmentFault.{FragmentFault}
use Rattle.edf_fragment.specs.declared.open_fragment.OpenFragment.{OpenFragment}
use Rattle.edf_fragment.specs.declared.streams.Input.{Ghosts}
use Rattle.edf_canonical.specs.Measure.{IsMeasuredSoFar}
use Rattle.edf_canonical.specs.Source.{At, at}
use Rattle.edf_canonical.specs.declared.measure.Measure.{Measure}
use Rattle.edf_runs.specs.Again.{CountsRereadFault, fault_again}
use Rattle.edf_runs.specs.Cut.{between}
use Rattle.edf_runs.specs.Outline.{IsOutline}
use Rattle.edf_runs.specs.Inside.Steps.{StepsOn}
use Rattle.edf_runs.specs.declared.cut_source.CutSource.{CutSource}
use Rattle.edf_runs.specs.declared.cut.Window.{Window}
use Rattle.edf_runs.specs.declared.fault.WriteFault.{WriteFault}
use Rattle.edf_runs.specs.declared.fault.WriteFault.TheVariants.{Changed}
use Rattle.edf_runs.specs.declared.outline.Outline.{Outline}
use Rattle.edf_runs.specs.declared.spots.Spots.{Spots}

-- The first of some counts, or 0 where there is none.
abbrev pub head_count : List ℕ → ℕ
head_count [] = 0
head_count (c ∷ cs) = c

-- Data records with so many of these annotations each, in their order.
abbrev pub with_counts : List ℕ → List Annotation → List DataRecord → List DataRecord
with_counts counts notes [] = []
with_counts counts notes (r ∷ rs) = record {
  start = r.start;
  samples = r.samples;
  annotations = take (head_count counts) notes;
} ∷ with_counts (drop 1 counts) (drop (head_count counts) notes) rs

abbrev pub noted : Spots → List DataRecord → List DataRecord
noted spots records = with_counts spots.counts.now spots.notes.now records

-- The first spot was taken, or there is none.
pub record TakesFirst (from to : Spots) (bare : DataRecord) : Type 0 where
  pub starts : from.starts.now ≡ bare.start ∷ to.starts.now
  pub annotations : bare.annotations ≡ take (head_count from.counts.now) from.notes.now
  pub counts : to.counts.now ≡ drop 1 from.counts.now
  pub notes : to.notes.now ≡ drop (head_count from.counts.now) from.notes.now

abbrev pub TakesSpot : Spots → Spots → Option DataRecord → Type 0
TakesSpot from to None = from.starts.now ≡ []
TakesSpot from to (Some bare) = TakesFirst from to bare

-- Those of them that last in a time.
abbrev pub in_window : Window → List DataRecord → List DataRecord
in_window w records = between w.duration w.from w.to records

abbrev pub selected : CutSource → List DataRecord → List DataRecord
selected source records = in_window source.window (noted source.spots records)

-- A data record more was measured, where it is of a time.
abbrev pub MeasuresOne : Window → Option Measure → DataRecord → Option Measure → Type 0
MeasuresOne window before bare after = (records : List DataRecord) →
    IsMeasuredSoFar records before → length records < MOST_RECORDS →
    IsMeasuredSoFar (records ++ in_window window (bare ∷ [])) after

-- The outline's data records of a time have this measure; none have none.
abbrev pub IsMeasuredIn : Outline → Window → Option Measure → Type 0
IsMeasuredIn outline window measure = (k : Key) (records : List DataRecord) →
    IsOutline k records outline → IsMeasuredSoFar (in_window window records) measure

-- After a header these data records were read, and more may be.
pub record HasRead (l : Layout) (begin now : Option (List ℕ)) (before : List DataRecord)
    (p : Progress) : Type 0 where
  pub going : p.state ≡ Reading
  pub read : HasReadRecords l begin now before p

-- The input is a file of these data records and of others that start so.
pub record StillHas (l : Layout) (begin : Option (List ℕ)) (before : List DataRecord)
    (starts : List ℕ) : Type 0 where
  pub bytes : List ℕ
  pub key : Key
  pub later : List DataRecord
  pub opens : ReadsHeader (Some bytes) begin l
  pub spells : IsFragmentFile bytes key (before ++ later)
  pub starts_are : map (λ (r : DataRecord). r.start) later ≡ starts

abbrev pub HasLimits : DataRecord → Type 0
HasLimits r = IsWithinLimits r.annotations

-- An answer is not the end: the fault then.
abbrev pub IsNoEnd : Result (Option DataRecord) FragmentFault → WriteFault → Type 0
IsNoEnd (Ok (Some r)) fault = fault ≡ Changed
IsNoEnd (Ok None) fault = ⊥
IsNoEnd (Err refused) fault = fault ≡ fault_again refused

abbrev pub EndsReading : Layout → Progress → Progress → Option (List ℕ) → Option (List ℕ) →
    Result (Option DataRecord) WriteFault → Type 0
EndsReading l p q mid rest (Ok (Some r)) = ⊥
EndsReading l p q mid rest (Ok None) = IsNextAnswer l p q mid rest (Ok None)
EndsReading l p q mid rest (Err fault) = (answer : Result (Option DataRecord) FragmentFault)
    × IsNextAnswer l p q mid rest answer × IsNoEnd answer fault

module _ {R : Type 0} (g : Ghosts R) (from to : At CutSource OpenFragment R) where
  -- The next data record was read, and given with the annotations of its spot.
  pub record NotesNext (r : DataRecord) : Type 0 where
    pub window : to.source.window ≡ from.source.window
    pub header : to.file.header ≡ from.file.header
    pub counted : g.failures to.input ≡ g.failures from.input
    pub read : DataRecord
    pub start : r.start ≡ read.start
    pub taken : from.source.spots.starts.now ≡ read.start ∷ to.source.spots.starts.now
    pub step : StepsOn from.file.header from.file.progress to.file.progress
        (g.remaining from.input) (g.remaining to.input) read.start read
    pub gives : (future : List DataRecord) →
        noted from.source.spots (read ∷ future) ≡ r ∷ noted to.source.spots future

  -- No spot is left, and the file has no data record more.
  pub record EndsNoted : Type 0 where
    pub counted : g.failures to.input ≡ g.failures from.input
    pub none : from.source.spots.starts.now ≡ []
    pub end : IsNextAnswer from.file.header from.file.progress to.file.progress
        (g.remaining from.input) (g.remaining to.input) (Ok None)

  -- A fault came; a file that still has what starts when it is to is not told as one that changed.
  pub record StopsNoted (fault : WriteFault) : Type 0 where
    pub counted : CountsRereadFault (g.failures from.input) (g.failures to.input) fault
    pub unchanged : (begin : Option (List ℕ)) (before : List DataRecord) →
        HasRead from.file.header begin (g.remaining from.input) before from.file.progress →
        (has : StillHas from.file.header begin before from.source.spots.starts.now) →
        AllByRecursion HasLimits (noted from.source.spots has.later) → fault ≢ Changed

  abbrev pub AnswersNoted : Result (Option DataRecord) WriteFault → Type 0
  AnswersNoted (Ok (Some r)) = NotesNext r
  AnswersNoted (Ok None) = EndsNoted
  AnswersNoted (Err fault) = StopsNoted fault

  -- Data records were read, of which these are of the time.
  pub record Passes (given : List DataRecord) : Type 0 where
    pub window : to.source.window ≡ from.source.window
    pub header : to.file.header ≡ from.file.header
    pub counted : g.failures to.input ≡ g.failures from.input
    pub more : List DataRecord
    pub taken : from.source.spots.starts.now
        ≡ map (λ (r : DataRecord). r.start) more ++ to.source.spots.starts.now
    pub read : (begin : Option (List ℕ)) (before : List DataRecord) →
        HasRead from.file.header begin (g.remaining from.input) before from.file.progress →
        HasRead from.file.header begin (g.remaining to.input) (before ++ more) to.file.progress
    pub gives : (future : List DataRecord) →
        selected from.source (more ++ future) ≡ given ++ selected to.source future
    pub limits : (future : List DataRecord) →
        AllByRecursion HasLimits (noted from.source.spots (more ++ future)) →
        AllByRecursion HasLimits (noted to.source.spots future)

module _ {R : Type 0} (g : Ghosts R) where
  -- Those before the next one of the time are passed, or all of them, or a fault comes.
  abbrev pub SelectsNext : At CutSource OpenFragment R → At CutSource OpenFragment R →
      Result (Option DataRecord) WriteFault → Type 0
  SelectsNext from to (Ok (Some r)) = Passes g from to (r ∷ [])
  SelectsNext from to (Ok None) = (mid : At CutSource OpenFragment R) × Passes g from mid []
      × EndsNoted g mid to
  SelectsNext from to (Err fault) = (mid : At CutSource OpenFragment R) × Passes g from mid []
      × StopsNoted g mid to fault

  abbrev pub GivesSelected : CutSource → OpenFragment → R → CutSource → OpenFragment → R →
      Result (Option DataRecord) WriteFault → Type 0
  GivesSelected source file input source' file' input' answer =
      SelectsNext (at source file input) (at source' file' input') answer
