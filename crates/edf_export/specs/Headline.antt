-- The headline: what is held after any list of submissions, and which lists give the same files.
use Rattle.std.specs.Prelude.{◌≡◌, ◌≢◌, ◌⊎◌, ◌↔◌, ℕ, ◌≤◌, List, [], ◌∷◌, ◌++◌, All, Contains}
use Rattle.std.specs.List.{AllByRecursion, AllZip}
use Rattle.edf_header.specs.declared.limits.TheConstants.{MOST_RECORDS}
use Rattle.edf_header.specs.Key.{Key}
use Rattle.edf_fragment.specs.Fragment.{DataRecord}
use Rattle.edf_fragment.specs.Parsed.{Parsed, ParsesTo}
use Rattle.edf_holdings.specs.Rising.{IsRising}
use Rattle.edf_holdings.specs.Holdings.{Holdings}
use Rattle.edf_holdings.specs.Reply.{after_one, after, reply, replies, IsAccepted}
use Rattle.edf_holdings.specs.ConflictFree.{IsFragment, IsConflictFree, SameRecords}
use Rattle.edf_holdings.specs.Laws.{AreWellFormed}
use Rattle.edf_holdings.specs.Meaning.{FromAccepted}
use Rattle.edf_canonical.specs.File.{IsCanonicalFile}

-- these bytes are the canonical file of the key's records, and no other bytes are
pub record IsOnlyCanonicalFile (file : List ℕ) (k : Key) (records : List DataRecord) : Type 0 where
  pub canonical : IsCanonicalFile file k records
  pub only : (other : List ℕ) → IsCanonicalFile other k records → other ≡ file

module _ (cap : ℕ) (h : Holdings) where
  -- the records are those that h held under the key and those of the accepted members, each once,
  -- by rising starts
  pub record AreHeldOrAccepted (submissions : List Parsed) (k : Key)
      (records : List DataRecord) : Type 0 where
    pub those : (r : DataRecord) →
        Contains records r ↔ (Contains (h k) r ⊎ FromAccepted cap h submissions k r)
    pub rising : IsRising records

  -- each member of both lists is accepted, and each key's file is the same bytes after both
  pub record ExportSameFiles (submissions others : List Parsed) : Type 0 where
    pub accepted : All IsAccepted (replies cap h submissions)
    pub others_accepted : All IsAccepted (replies cap h others)
    pub same_file : (k : Key) (file : List ℕ) →
        IsCanonicalFile file k (after cap h submissions k)
        ↔ IsCanonicalFile file k (after cap h others k)

  -- of sound holdings h and well-formed submissions, as the law `headline` asks:
  pub record Headline (submissions : List Parsed) : Type 0 where
    -- each key that holds something after the list has exactly one canonical file, under every cap
    -- that a store may have
    pub one_file : cap ≤ MOST_RECORDS → (k : Key) → after cap h submissions k ≢ [] →
        (file : List ℕ) × IsOnlyCanonicalFile file k (after cap h submissions k)
    -- its records are those that h held and those of the accepted members, each once, rising
    pub its_records : (k : Key) → AreHeldOrAccepted submissions k (after cap h submissions k)
    -- after a member that is refused the holdings are those before it
    pub refused : (before : List Parsed) (member : Parsed) (later : List Parsed) →
        submissions ≡ before ++ (member ∷ later) →
        ¬ IsAccepted (reply cap (after cap h before) member) →
        after_one cap (after cap h before) member ≡ after cap h before
    -- where the list is conflict-free, it and each list of fragments with the same records,
    -- however cut, ordered or repeated, are accepted whole, and give the same files
    pub alike : (others : List Parsed) → AreWellFormed others → IsConflictFree cap h submissions →
        AllByRecursion IsFragment others → SameRecords submissions others →
        ExportSameFiles submissions others

-- byte strings, as files are, parse to exactly one list, and of that list the headline speaks
pub record ParseToOneList (files : List (List ℕ)) : Type 0 where
  pub submissions : List Parsed
  pub parsed : AllZip ParsesTo files submissions
  pub sound : AreWellFormed submissions
  pub only : (others : List Parsed) → AllZip ParsesTo files others → others ≡ submissions
