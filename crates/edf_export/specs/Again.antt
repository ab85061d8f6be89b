-- Exports that are submitted again, and lists of submissions with the same data records.
use Rattle.std.specs.Prelude.{◌≡◌, ℕ, List, length}
use Rattle.edf_header.specs.Key.{Key}
use Rattle.edf_fragment.specs.Parsed.{Parsed, Fragment, ParsesTo}
use Rattle.edf_holdings.specs.Holdings.{Holdings, IsSound, nothing_held}
use Rattle.edf_holdings.specs.Reply.{after_one, after, Accepted, reply}
use Rattle.edf_holdings.specs.ConflictFree.{IsConflictFree, SameRecords}
use Rattle.edf_holdings.specs.Laws.{AreWellFormed}
use Rattle.edf_canonical.specs.File.{IsCanonicalFile}

-- the file parses to the key's records: it is accepted with nothing new where they are held, and
-- with every record new where nothing is held, and is the file of what is held then
pub record IsAcceptedAgain (cap : ℕ) (h : Holdings) (k : Key) (file : List ℕ) : Type 0 where
  pub parses : ParsesTo file (Fragment k (h k))
  pub known : reply cap h (Fragment k (h k)) ≡ Accepted k 0 (length (h k))
  pub new : reply cap nothing_held (Fragment k (h k)) ≡ Accepted k (length (h k)) 0
  pub again : IsCanonicalFile file k (after_one cap nothing_held (Fragment k (h k)) k)

-- conflict-free lists with the same records, however cut, ordered or repeated, give the same files
abbrev pub SameRecordsGiveSameFile : Type 0
SameRecordsGiveSameFile = (cap : ℕ) (h : Holdings) (submissions others : List Parsed) →
    IsSound cap h → AreWellFormed submissions → AreWellFormed others →
    IsConflictFree cap h submissions → IsConflictFree cap h others →
    SameRecords submissions others →
    (k : Key) (file other : List ℕ) → IsCanonicalFile file k (after cap h submissions k) →
    IsCanonicalFile other k (after cap h others k) → file ≡ other
