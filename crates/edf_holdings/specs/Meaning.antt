-- The definitions that recur over lists are said once more in the words of sets.
use Rattle.std.specs.Prelude.{◌≡◌, ◌≢◌, ℕ, ◌+◌, ◌-◌, ◌<◌, ◌≤◌, ◌↔◌, ◌⊎◌, List, [], ◌∷◌, ◌++◌}
use Rattle.std.specs.Prelude.{length, Contains, Any, IsTrue, cond}
use Rattle.edf_field.specs.Number.{duration_of}
use Rattle.edf_header.specs.Key.{Key}
use Rattle.edf_fragment.specs.Fragment.{DataRecord}
use Rattle.edf_fragment.specs.Parsed.{Parsed, Fragment}
use Rattle.edf_holdings.specs.Same.{same_key, same_record}
use Rattle.edf_holdings.specs.Clash.{Clash, clashes, overlapping}
use Rattle.edf_holdings.specs.Rising.{IsRising, contains_record, union, count_new}
use Rattle.edf_holdings.specs.Holdings.{Holdings, IsSound, nothing_held}
use Rattle.edf_holdings.specs.Reply.{IsWellFormed, fits, after_one, after, Overlap, Differs, Full}
use Rattle.edf_holdings.specs.Reply.{Conflicts, Accepted, reply, IsAccepted}
use Rattle.edf_holdings.specs.ConflictFree.{union_with_all, HasRecordUnder}
use Rattle.edf_holdings.specs.Laws.{AreWellFormed}

-- the tests are what they are named for
abbrev pub SameKeyIsEqual : Type 0
SameKeyIsEqual = (k q : Key) → IsTrue (same_key k q) ↔ (k ≡ q)

abbrev pub SameRecordIsEqual : Type 0
SameRecordIsEqual = (r s : DataRecord) → IsTrue (same_record r s) ↔ (r ≡ s)

abbrev pub TestIsClash : Type 0
TestIsClash = (d : ℕ) (r s : DataRecord) → IsTrue (clashes d r s) ↔ Clash d r s

abbrev pub TestIsContains : Type 0
TestIsContains = (xs : List DataRecord) (r : DataRecord) →
    IsTrue (contains_record xs r) ↔ Contains xs r

-- the lists have the same records, in whatever order
abbrev pub SameMembers : List DataRecord → List DataRecord → Type 0
SameMembers xs ys = (r : DataRecord) → Contains xs r ↔ Contains ys r

-- a rising list is determined by its members
abbrev pub ListIsSet : Type 0
ListIsSet = (xs ys : List DataRecord) → IsRising xs → IsRising ys → SameMembers xs ys → xs ≡ ys

-- sound holdings are determined by the members of their lists
abbrev pub HoldingsAreSets : Type 0
HoldingsAreSets = (cap : ℕ) (h other : Holdings) → IsSound cap h → IsSound cap other →
    ((k : Key) → SameMembers (h k) (other k)) → h ≡ other

-- a union has the records of both lists, and no others
abbrev pub UnionHasBoth : Type 0
UnionHasBoth = (xs records : List DataRecord) (r : DataRecord) →
    Contains (union xs records) r ↔ (Contains xs r ⊎ Contains records r)

-- the union with all submissions has what was held and what they have, and nothing else
abbrev pub UnionWithAllHasBoth : Type 0
UnionWithAllHasBoth = (h : Holdings) (submissions : List Parsed) (k : Key) (r : DataRecord) →
    Contains (union_with_all h submissions k) r
    ↔ (Contains (h k) r ⊎ Any (HasRecordUnder k r) submissions)

-- none of the records clashes with one of the key
abbrev pub NoneClashesWithHeld : Holdings → Key → List DataRecord → Type 0
NoneClashesWithHeld h key records = (r s : DataRecord) → Contains records r → Contains (h key) s →
    ¬ Clash (duration_of key.duration) r s

-- none clashes with a held one, and with them the key has what it had, or at most the cap
pub record Fits (cap : ℕ) (key : Key) (records : List DataRecord) (h : Holdings) : Type 0 where
  pub none_clashes : NoneClashesWithHeld h key records
  pub within_cap : (union (h key) records ≡ h key) ⊎ (length (union (h key) records) ≤ cap)

abbrev pub TestIsFits : Type 0
TestIsFits = (cap : ℕ) (h : Holdings) (key : Key) (records : List DataRecord) → IsSound cap h →
    IsWellFormed (Fragment key records) → IsTrue (fits cap key records h) ↔ Fits cap key records h

-- a fragment is accepted exactly where it fits
abbrev pub AcceptedWhereFits : Type 0
AcceptedWhereFits = (cap : ℕ) (h : Holdings) (key : Key) (records : List DataRecord) →
    IsSound cap h → IsWellFormed (Fragment key records) →
    IsAccepted (reply cap h (Fragment key records)) ↔ IsTrue (fits cap key records h)

-- r is the first of `records` that clashes with one of xs, and s the earliest that it clashes with
pub record IsFirstClash (d : ℕ) (xs records : List DataRecord) (r s : DataRecord) : Type 0 where
  pub before : List DataRecord
  pub later : List DataRecord
  pub splits : records ≡ before ++ (r ∷ later)
  pub none_before : (q x : DataRecord) → Contains before q → Contains xs x → ¬ Clash d q x
  pub held : Contains xs s
  pub clash : Clash d r s
  pub earliest : (x : DataRecord) → Contains xs x → Clash d r x → s.start ≤ x.start

-- the reply names that clash
abbrev pub RepliesNameTheClash : Type 0
RepliesNameTheClash = (cap : ℕ) (h : Holdings) (key : Key) (records : List DataRecord)
    (r s : DataRecord) → IsSound cap h →
    IsFirstClash (duration_of key.duration) (h key) records r s →
    (r.start ≡ s.start → reply cap h (Fragment key records) ≡ Conflicts (Differs r.start)) ×
    (r.start ≢ s.start → reply cap h (Fragment key records) ≡ Conflicts (Overlap r.start s.start))

-- where any records clash there is a first clash
abbrev pub FirstClashExists : Type 0
FirstClashExists = (cap : ℕ) (h : Holdings) (key : Key) (records : List DataRecord)
    (r s : DataRecord) → IsSound cap h → Contains records r → Contains (h key) s →
    Clash (duration_of key.duration) r s → (q : DataRecord) × (x : DataRecord) ×
    IsFirstClash (duration_of key.duration) (h key) records q x

-- the reply is `Full` if some records are new and are too many, else `Accepted`
abbrev pub ReplyNamesCounts : ℕ → Holdings → Key → List DataRecord → Type 0
ReplyNamesCounts cap h key records =
    (0 < count_new (h key) records → cap < length (h key) + count_new (h key) records →
    reply cap h (Fragment key records)
    ≡ Conflicts (Full (length (h key)) (count_new (h key) records) cap)) ×
    ((count_new (h key) records ≡ 0) ⊎ (length (h key) + count_new (h key) records ≤ cap) →
    reply cap h (Fragment key records) ≡ Accepted key (count_new (h key) records)
    (length records - count_new (h key) records))

-- where nothing clashes the reply is by the counts
abbrev pub RepliesNameTheCounts : Type 0
RepliesNameTheCounts = (cap : ℕ) (h : Holdings) (key : Key) (records : List DataRecord) →
    NoneClashesWithHeld h key records → ReplyNamesCounts cap h key records

-- the count of new records is that by which the recording grows
abbrev pub NewRecordsAreCounted : Type 0
NewRecordsAreCounted = (cap : ℕ) (h : Holdings) (key : Key) (records : List DataRecord) →
    IsSound cap h → IsWellFormed (Fragment key records) → NoneClashesWithHeld h key records →
    length (union (h key) records) ≡ length (h key) + count_new (h key) records

-- a member of the list that was accepted when it came has the record under the key
pub record FromAccepted (cap : ℕ) (h : Holdings) (submissions : List Parsed) (k : Key)
    (r : DataRecord) : Type 0 where
  pub before : List Parsed
  pub member : Parsed
  pub later : List Parsed
  pub splits : submissions ≡ before ++ (member ∷ later)
  pub accepted : IsAccepted (reply cap (after cap h before) member)
  pub has : HasRecordUnder k r member

-- a list adds every record of its accepted members to what was held, and nothing else
abbrev pub AfterHasAccepted : Type 0
AfterHasAccepted = (cap : ℕ) (h : Holdings) (submissions : List Parsed) (k : Key) (r : DataRecord) →
    IsSound cap h → AreWellFormed submissions →
    Contains (after cap h submissions k) r ↔ (Contains (h k) r ⊎ FromAccepted cap h submissions k r)

abbrev pub RefusedChangesNothing : Type 0
RefusedChangesNothing = (cap : ℕ) (h : Holdings) (submission : Parsed) → IsSound cap h →
    IsWellFormed submission → ¬ IsAccepted (reply cap h submission) → after_one cap h submission ≡ h

-- a recording's own records are accepted with nothing new; where nothing is held they are all new,
-- and exactly that recording is held after them
abbrev pub OwnRecordsAreKnown : Type 0
OwnRecordsAreKnown = (cap : ℕ) (h : Holdings) (k : Key) → IsSound cap h → h k ≢ [] →
    (reply cap h (Fragment k (h k)) ≡ Accepted k 0 (length (h k))) ×
    (reply cap nothing_held (Fragment k (h k)) ≡ Accepted k (length (h k)) 0) ×
    (after_one cap nothing_held (Fragment k (h k)) ≡ (λ q. cond (same_key k q) (h k) []))

-- at most two held records overlap one that begins at this start
abbrev pub AtMostTwoOverlap : Type 0
AtMostTwoOverlap = (cap : ℕ) (h : Holdings) (k : Key) (start : ℕ) → IsSound cap h →
    length (overlapping (duration_of k.duration) start (h k)) ≤ 2

-- only `overlapping` is a rising list of exactly the held records that overlap one with this start
abbrev pub OverlappingIsDetermined : Type 0
OverlappingIsDetermined = (cap : ℕ) (h : Holdings) (k : Key) (start : ℕ) (ys : List DataRecord) →
    IsSound cap h → IsRising ys →
    ((r : DataRecord) → Contains ys r
    ↔ (Contains (h k) r × (r.start < start + duration_of k.duration)
    × (start < r.start + duration_of k.duration))) →
    ys ≡ overlapping (duration_of k.duration) start (h k)
