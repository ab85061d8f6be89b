-- Data records by onset, as what they are and not as they are made, and what that is good for.
use Rattle.std.specs.Prelude.{◌≡◌, ℕ, ◌+◌, ◌↔◌, List, [], ◌∷◌, ◌++◌, Bool, false, not, ◌&&◌, ◌||◌}
use Rattle.std.specs.Prelude.{nat_le, nat_lt, count_by, filter, All, Contains, IsPermutation}
use Rattle.std.specs.List.{AllZip}
use Rattle.edf_field.specs.Number.{duration_of}
use Rattle.edf_header.specs.Key.{Key}
use Rattle.edf_tal.specs.Tal.{Annotation}
use Rattle.edf_fragment.specs.Fragment.{DataRecord}
use Rattle.edf_fragment.specs.Sound.{AreSoundFrom}
use Rattle.edf_canonical.specs.File.{IsCanonicalFile}
use Rattle.edf_runs.specs.Order.{AreInOrder}
use Rattle.edf_runs.specs.ByOnset.{annotations_of, by_onset, AreAlike, IsLastStarted}
use Rattle.edf_runs.specs.Crowded.{IsFirstCrowded}

-- each annotation is in the last data record that starts at or before its onset, or, where none
-- does, in the first
abbrev pub AreWhereStarted : List DataRecord → Type 0
AreWhereStarted records = (before after : List DataRecord) (r : DataRecord) (a : Annotation) →
    records ≡ before ++ r ∷ after → Contains r.annotations a → IsLastStarted before r after a.onset

-- data records by onset: with the times and samples of these data records, and just their
-- annotations, each as often, each where its onset is, and those of one data record in order
pub record AreByOnset (records others : List DataRecord) : Type 0 where
  pub alike : AllZip AreAlike others records
  pub once : IsPermutation (annotations_of others) (annotations_of records)
  pub started : AreWhereStarted others
  pub order : All (λ r. AreInOrder r.annotations) others

-- there are such data records, and no others
abbrev pub AreOneByOnset : Type 0
AreOneByOnset = (k : Key) (records : List DataRecord) → AreSoundFrom k 0 records →
    AreByOnset records (by_onset records)
    × ((others : List DataRecord) → AreByOnset records others → others ≡ by_onset records)

-- two files of the same times and samples, and of the same annotations, are the same data records
-- by onset, and so have the same bytes by onset, however their annotations were spread over the
-- data records, and in whatever order
abbrev pub AreOneHoweverSpread : Type 0
AreOneHoweverSpread = (records others : List DataRecord) → AllZip AreAlike records others →
    IsPermutation (annotations_of records) (annotations_of others) →
    (by_onset records ≡ by_onset others)
    × ((k : Key) (file other : List ℕ) → IsCanonicalFile file k (by_onset records) →
    IsCanonicalFile other k (by_onset others) → file ≡ other)

-- by onset again changes nothing
abbrev pub StaysByOnset : Type 0
StaysByOnset = (k : Key) (records : List DataRecord) → AreSoundFrom k 0 records →
    by_onset (by_onset records) ≡ by_onset records

-- ---- annotations outside of all data records

-- one of the data records, each of which lasts d nanoseconds, has the instant: it lies from its
-- start on and before its end
abbrev pub lies_in : ℕ → List DataRecord → ℕ → Bool
lies_in d [] instant = false
lies_in d (r ∷ rs) instant =
    (nat_le r.start instant && nat_lt instant (r.start + d)) || lies_in d rs instant

-- how many annotations of data records have an onset that none of the data records has
abbrev pub outside_count : ℕ → List DataRecord → ℕ
outside_count d records =
    count_by (λ a. not (lies_in d records a.onset)) (annotations_of records)

-- of files of the same times, samples and annotations the same count is told, and both are too
-- crowded by onset, or neither
abbrev pub ToldAlike : Type 0
ToldAlike = (d : ℕ) (records others : List DataRecord) → AllZip AreAlike records others →
    IsPermutation (annotations_of records) (annotations_of others) →
    (outside_count d records ≡ outside_count d others)
    × ((number : ℕ) → IsFirstCrowded d (by_onset records) number
    ↔ IsFirstCrowded d (by_onset others) number)

-- ---- a card beside its pieces

-- data records of the card, but for the annotations, which are just those of the card whose onsets
-- these data records have
pub record IsPieceOf (d : ℕ) (card piece : List DataRecord) : Type 0 where
  pub alike : All (λ r. (other : DataRecord) × Contains card other × AreAlike r other) piece
  pub happened : IsPermutation (annotations_of piece)
      (filter (λ a. lies_in d piece a.onset) (annotations_of card))

-- where no annotation of the card is outside of all its data records, each data record of a piece
-- by onset is one of the card by onset (that is enough, and not needed: where piece and card have
-- an annotation behind the same data record in a gap, they agree too)
abbrev pub PiecesAreOfCard : Type 0
PiecesAreOfCard = (k : Key) (card piece : List DataRecord) → AreSoundFrom k 0 card →
    AreSoundFrom k 0 piece → IsPieceOf (duration_of k.duration) card piece →
    outside_count (duration_of k.duration) card ≡ 0 →
    All (Contains (by_onset card)) (by_onset piece)
