-- Data records with each annotation in the data record that has its onset.
use Rattle.std.specs.Prelude.{◌≡◌, ℕ, ◌+◌, ◌*◌, ◌≤◌, ◌<◌, ◌⊎◌, ◌↔◌, List, [], ◌∷◌, ◌++◌, Bool, true}
use Rattle.std.specs.Prelude.{◌&&◌, nat_le, nat_lt, length, filter, All, Contains, IsPermutation}
use Rattle.std.specs.List.{flat_map, AllZip}
use Rattle.edf_field.specs.Number.{duration_of}
use Rattle.edf_header.specs.Key.{Key, IsKey}
use Rattle.edf_tal.specs.Block.{IsWithinLimits}
use Rattle.edf_tal.specs.Tal.{Annotation}
use Rattle.edf_fragment.specs.Fragment.{DataRecord, IsFragmentFile}
use Rattle.edf_fragment.specs.Sound.{AreSoundFrom}
use Rattle.edf_runs.specs.File.{IsRunFile}
use Rattle.edf_runs.specs.Order.{in_order, AreInOrder}
use Rattle.edf_runs.specs.Runs.{IsRuns}

-- the annotations of data records, in file order
abbrev pub annotations_of : List DataRecord → List Annotation
annotations_of records = flat_map (λ r. r.annotations) records

-- an instant lies before the data records that follow: before the first of them starts
abbrev pub is_before : List DataRecord → ℕ → Bool
is_before [] instant = true
is_before (next ∷ rest) instant = nat_lt instant next.start

-- the onset lies from `low` on, and before the data records that follow
abbrev pub is_between : ℕ → List DataRecord → Annotation → Bool
is_between low following a = nat_le low a.onset && is_before following a.onset

-- the data record with just those of all annotations, in their order, whose onsets lie from `low`
-- on and before the data records that follow
abbrev pub assigned : List Annotation → ℕ → DataRecord → List DataRecord → DataRecord
assigned all low r following = record {
  start = r.start;
  samples = r.samples;
  annotations = filter (is_between low following) all;
}

-- each data record has those from its start on
abbrev pub each_assigned : List Annotation → List DataRecord → List DataRecord
each_assigned all [] = []
each_assigned all (r ∷ rs) = assigned all r.start r rs ∷ each_assigned all rs

-- and the first those before it too
abbrev pub all_assigned : List Annotation → List DataRecord → List DataRecord
all_assigned all [] = []
all_assigned all (r ∷ rs) = assigned all 0 r rs ∷ each_assigned all rs

-- the data records with the same starts and samples, where each annotation is in the last data
-- record that starts at or before its onset, or, where none does, in the first one; those of one
-- data record are in order: by onset, then by duration, none first, then by the bytes of the text
abbrev pub by_onset : List DataRecord → List DataRecord
by_onset records = all_assigned (in_order (annotations_of records)) records

-- ---- what that says of runs

-- data records without a gap, each of which lasts d nanoseconds, cover an instant: it lies from the
-- start of the first to the end of the last
abbrev pub Covers : ℕ → List DataRecord → ℕ → Type 0
Covers d [] instant = ⊥
Covers d (r ∷ rs) instant = (r.start ≤ instant) × (instant < r.start + length (r ∷ rs) * d)

-- they begin at or before an instant
abbrev pub BeginsBy : List DataRecord → ℕ → Type 0
BeginsBy [] instant = ⊥
BeginsBy (r ∷ rs) instant = r.start ≤ instant

-- they begin after it
abbrev pub BeginsAfter : ℕ → List DataRecord → Type 0
BeginsAfter instant [] = ⊥
BeginsAfter instant (r ∷ rs) = instant < r.start

-- of runs, the one between these is the last that begins at or before the onset; or it is the first
-- run, and all others begin after it
pub record IsLastBegun (before : List (List DataRecord)) (run : List DataRecord)
    (after : List (List DataRecord)) (onset : ℕ) : Type 0 where
  pub begun : (before ≡ []) ⊎ BeginsBy run onset
  pub last : All (BeginsAfter onset) after

-- each annotation of a run whose onset some run covers is in the run that covers it
abbrev pub AreWhereCovered : ℕ → List (List DataRecord) → Type 0
AreWhereCovered d runs = (run other : List DataRecord) (a : Annotation) → Contains runs run →
    Contains runs other → Contains (annotations_of run) a → Covers d other a.onset → run ≡ other

-- each annotation of a run is where the last run begins at or before its onset, and one before all
-- runs in the first
abbrev pub AreWhereBegun : List (List DataRecord) → Type 0
AreWhereBegun runs = (before after : List (List DataRecord)) (run : List DataRecord)
    (a : Annotation) → runs ≡ before ++ run ∷ after → Contains (annotations_of run) a →
    IsLastBegun before run after a.onset

-- times and samples stay
abbrev pub AreAlike : DataRecord → DataRecord → Type 0
AreAlike r other = (r.start ≡ other.start) × (r.samples ≡ other.samples)

-- the files of the runs of data records whose annotations were assigned by onset, read again, have
-- together just the annotations of the recording, each as often; each is in the file of the run
-- that covers its onset, where one does, and else in that of the run before it, or of the first;
-- and their data records start as those of the recording do, and have the same samples
abbrev pub EachInItsRun : Type 0
EachInItsRun = (k : Key) (records : List DataRecord) (runs spelled : List (List DataRecord))
    (files : List (List ℕ)) → IsKey k → AreSoundFrom k 0 records →
    IsRuns (duration_of k.duration) (by_onset records) runs →
    AllZip (λ file run. IsRunFile file k run) files runs →
    AllZip (λ file run. IsFragmentFile file k run) files spelled →
    IsPermutation (flat_map annotations_of spelled) (annotations_of records)
    × AreWhereCovered (duration_of k.duration) spelled × AreWhereBegun spelled
    × AllZip AreAlike (flat_map (λ run. run) spelled) records

-- ---- what that says of data records

-- the data record is the last of all that starts at or before the onset, or the first
pub record IsLastStarted (before : List DataRecord) (r : DataRecord) (after : List DataRecord)
    (onset : ℕ) : Type 0 where
  pub started : (before ≡ []) ⊎ (r.start ≤ onset)
  pub last : All (λ later. onset < later.start) after

-- where data records rise in time, one of those by onset has just the annotations of all of them
-- for whose onset it is the last that started
abbrev pub EachWhereStarted : Type 0
EachWhereStarted = (k : Key) (records before after : List DataRecord) (r : DataRecord)
    (a : Annotation) → AreSoundFrom k 0 records → by_onset records ≡ before ++ r ∷ after →
    Contains r.annotations a
    ↔ (Contains (annotations_of records) a × IsLastStarted before r after a.onset)

-- an annotation whose onset lies in a data record is in that one, and in no other
abbrev pub EachWhereItLies : Type 0
EachWhereItLies = (k : Key) (records : List DataRecord) (r other : DataRecord) (a : Annotation) →
    AreSoundFrom k 0 records → Contains (by_onset records) r → Contains (annotations_of records) a →
    r.start ≤ a.onset → a.onset < r.start + duration_of k.duration →
    (Contains r.annotations a)
    × (Contains (by_onset records) other → Contains other.annotations a → other ≡ r)

-- and the data records are alike else, and have the annotations once
abbrev pub StayAlike : Type 0
StayAlike = (k : Key) (records : List DataRecord) → AreSoundFrom k 0 records →
    AllZip AreAlike (by_onset records) records
    × IsPermutation (annotations_of (by_onset records)) (annotations_of records)

-- those of each data record are in order
abbrev pub StayInOrder : Type 0
StayInOrder = (records : List DataRecord) → All (λ r. AreInOrder r.annotations) (by_onset records)

-- where none has too many annotations, data records by onset are sound
abbrev pub StaySound : Type 0
StaySound = (k : Key) (records : List DataRecord) → AreSoundFrom k 0 records →
    All (λ r. IsWithinLimits r.annotations) (by_onset records) → AreSoundFrom k 0 (by_onset records)
