-- Files by onset of a card and of its pieces are accepted, in any order and as often as one likes.
use Rattle.std.specs.Prelude.{◌≡◌, ℕ, ◌≤◌, List, [], ◌∷◌, length, All, Contains}
use Rattle.std.specs.List.{AllZip}
use Rattle.edf_field.specs.Number.{duration_of}
use Rattle.edf_header.specs.Key.{Key}
use Rattle.edf_fragment.specs.Fragment.{DataRecord}
use Rattle.edf_fragment.specs.Sound.{AreSoundFrom}
use Rattle.edf_fragment.specs.Parsed.{Parsed, ParsesTo}
use Rattle.edf_canonical.specs.File.{IsCanonicalFile}
use Rattle.edf_holdings.specs.Holdings.{Holdings, IsSound, with_records}
use Rattle.edf_holdings.specs.Reply.{after, IsAccepted, replies}
use Rattle.edf_runs.specs.ByOnset.{by_onset}
use Rattle.edf_runs.specs.OneByOnset.{IsPieceOf, outside_count}

-- each of the files is the canonical file by onset of one of these
abbrev pub AreByOnsetOf : Key → List (List DataRecord) → List (List ℕ) → Type 0
AreByOnsetOf k recordings files = All (λ file. (one : List DataRecord) × Contains recordings one
    × IsCanonicalFile file k (by_onset one)) files

-- where none of the card's annotations is outside of all its data records, and the card has a
-- canonical file by onset, such files of the card and of pieces of it are all accepted by a store
-- that holds no data record of the recording; and where that of the card is among them, the store
-- then holds just the card's data records by onset of it, and of other recordings what it held
abbrev pub PiecesAndCardAreTaken : Type 0
PiecesAndCardAreTaken = (cap : ℕ) (h : Holdings) (k : Key) (card : List DataRecord)
    (pieces : List (List DataRecord)) (whole : List ℕ) (files : List (List ℕ))
    (submissions : List Parsed) → IsSound cap h → h k ≡ [] → AreSoundFrom k 0 card →
    length card ≤ cap →
    outside_count (duration_of k.duration) card ≡ 0 → IsCanonicalFile whole k (by_onset card) →
    All (λ piece. AreSoundFrom k 0 piece × IsPieceOf (duration_of k.duration) card piece) pieces →
    AreByOnsetOf k (card ∷ pieces) files → AllZip ParsesTo files submissions →
    All IsAccepted (replies cap h submissions)
    × (Contains files whole → (after cap h submissions ≡ with_records k (by_onset card) h)
    × (after cap h submissions k ≡ by_onset card))
