-- Repeats in a list of submissions add nothing; without conflicts order and cuts don't matter.
use Rattle.std.specs.Prelude.{◌≡◌, ℕ, ◌+◌, ◌<◌, ◌≤◌, ◌↔◌, List, [], ◌∷◌, ◌++◌, length, All}
use Rattle.std.specs.Prelude.{Contains, remove}
use Rattle.std.specs.List.{AllByRecursion}
use Rattle.edf_field.specs.Number.{duration_of}
use Rattle.edf_header.specs.Key.{Key, IsKey, MayStart}
use Rattle.edf_fragment.specs.Fragment.{DataRecord}
use Rattle.edf_fragment.specs.declared.fault.FragmentFault.{FragmentFault}
use Rattle.edf_fragment.specs.Parsed.{Parsed, Fragment, ParsesTo}
use Rattle.edf_holdings.specs.Clash.{overlapping}
use Rattle.edf_fragment.specs.Sound.{IsSoundRecord}
use Rattle.edf_holdings.specs.Holdings.{Holdings, IsSound, nothing_held, with_records}
use Rattle.edf_holdings.specs.Reply.{IsWellFormed, after_one, after, Form, Accepted, IsAccepted}
use Rattle.edf_holdings.specs.Reply.{reply, replies}
use Rattle.edf_holdings.specs.ConflictFree.{IsFragment, union_with_all, IsConflictFree, SameRecords}

abbrev pub AreWellFormed : List Parsed → Type 0
AreWellFormed submissions = AllByRecursion IsWellFormed submissions

-- sound holdings are sound after any list
abbrev pub StaysSound : Type 0
StaysSound = (cap : ℕ) (h : Holdings) (submissions : List Parsed) → IsSound cap h →
    AreWellFormed submissions → IsSound cap (after cap h submissions)

-- what bytes parse to is well-formed
abbrev pub ParsedIsWellFormed : Type 0
ParsedIsWellFormed = (bytes : List ℕ) (submission : Parsed) →
    ParsesTo bytes submission → IsWellFormed submission

-- holdings with no records are sound
abbrev pub NothingHeldIsSound : Type 0
NothingHeldIsSound = (cap : ℕ) → IsSound cap nothing_held

-- holdings below the cap stay sound with one record more that overlaps none; if it is the key's
-- first, a recording may start with it
abbrev pub AddStaysSound : Type 0
AddStaysSound = (cap : ℕ) (h : Holdings) (key : Key) (r : DataRecord) → IsSound cap h → IsKey key →
    IsSoundRecord key r → overlapping (duration_of key.duration) r.start (h key) ≡ [] →
    length (h key) < cap → (h key ≡ [] → MayStart key r.start) →
    IsSound cap (with_records key (r ∷ []) h)

-- a fragment whose records are all held is accepted with nothing new, and changes nothing
abbrev pub HeldIsKnown : Type 0
HeldIsKnown = (cap : ℕ) (h : Holdings) (key : Key) (records : List DataRecord) →
    IsSound cap h → IsWellFormed (Fragment key records) → All (Contains (h key)) records →
    (reply cap h (Fragment key records) ≡ Accepted key 0 (length records))
    × (after_one cap h (Fragment key records) ≡ h)

-- the list up to a repeat: those earlier, the submission, and those between it and its repeat
abbrev pub up_to_repeat : List Parsed → Parsed → List Parsed → List Parsed
up_to_repeat earlier submission between = earlier ++ (submission ∷ between)

-- a later repeat of an accepted submission is accepted with nothing new
abbrev pub AcceptedAgain : Type 0
AcceptedAgain = (cap : ℕ) (h : Holdings) (earlier : List Parsed) (submission : Parsed)
    (between : List Parsed) →
    IsSound cap h → AreWellFormed (up_to_repeat earlier submission between) →
    (key : Key) (new known : ℕ) →
    reply cap (after cap h earlier) submission ≡ Accepted key new known →
    reply cap (after cap h (up_to_repeat earlier submission between)) submission
    ≡ Accepted key 0 (new + known)

-- a later repeat of a refused submission is refused again, for the same fault of form if it had one
abbrev pub RefusedAgain : Type 0
RefusedAgain = (cap : ℕ) (h : Holdings) (earlier : List Parsed) (submission : Parsed)
    (between : List Parsed) →
    IsSound cap h → AreWellFormed (up_to_repeat earlier submission between) →
    ¬ IsAccepted (reply cap (after cap h earlier) submission) →
    (¬ IsAccepted (reply cap (after cap h (up_to_repeat earlier submission between)) submission)) ×
    ((fault : FragmentFault) → reply cap (after cap h earlier) submission ≡ Form fault →
    reply cap (after cap h (up_to_repeat earlier submission between)) submission ≡ Form fault)

-- without the repeat the holdings after the list and all other replies are the same
abbrev pub RepeatsChangeNothing : Type 0
RepeatsChangeNothing = (cap : ℕ) (h : Holdings) (earlier : List Parsed) (submission : Parsed)
    (between later : List Parsed) →
    IsSound cap h → AreWellFormed (up_to_repeat earlier submission between) →
    (after cap h (up_to_repeat earlier submission between ++ (submission ∷ later))
    ≡ after cap h (up_to_repeat earlier submission between ++ later)) ×
    (remove (replies cap h (up_to_repeat earlier submission between ++ (submission ∷ later)))
    (length (up_to_repeat earlier submission between))
    ≡ replies cap h (up_to_repeat earlier submission between ++ later))

-- a list broken off after `prefix` and sent again whole gives the same holdings as the list once
abbrev pub ResentFromStart : Type 0
ResentFromStart = (cap : ℕ) (h : Holdings) (prefix rest : List Parsed) → IsSound cap h →
    AreWellFormed prefix →
    after cap (after cap h prefix) (prefix ++ rest) ≡ after cap h (prefix ++ rest)

-- each member of a list without conflicts is accepted, and the holdings get all its records
abbrev pub ConflictFreeIsAccepted : Type 0
ConflictFreeIsAccepted = (cap : ℕ) (h : Holdings) (submissions : List Parsed) → IsSound cap h →
    AreWellFormed submissions → IsConflictFree cap h submissions →
    All IsAccepted (replies cap h submissions)
    × (after cap h submissions ≡ union_with_all h submissions)

-- the same submissions, in any order and however often, have no conflicts and the same holdings
abbrev pub Reordered : Type 0
Reordered = (cap : ℕ) (h : Holdings) (submissions others : List Parsed) → IsSound cap h →
    AreWellFormed submissions → IsConflictFree cap h submissions →
    ((submission : Parsed) → Contains submissions submission ↔ Contains others submission) →
    IsConflictFree cap h others × (after cap h others ≡ after cap h submissions)

-- fragments with the records of a list without conflicts have none either, however cut
abbrev pub SameRecordsStayConflictFree : Type 0
SameRecordsStayConflictFree = (cap : ℕ) (h : Holdings) (submissions others : List Parsed) →
    IsSound cap h → AreWellFormed submissions → AreWellFormed others →
    IsConflictFree cap h submissions → AllByRecursion IsFragment others →
    SameRecords submissions others → IsConflictFree cap h others

-- one fragment of at most `cap` records has no conflicts where nothing is held
abbrev pub OneIsConflictFree : Type 0
OneIsConflictFree = (cap : ℕ) (key : Key) (records : List DataRecord) →
    IsWellFormed (Fragment key records) → length records ≤ cap →
    IsConflictFree cap nothing_held (Fragment key records ∷ [])

-- two lists without conflicts that have the same records give the same holdings
abbrev pub Recut : Type 0
Recut = (cap : ℕ) (h : Holdings) (submissions others : List Parsed) → IsSound cap h →
    AreWellFormed submissions → AreWellFormed others →
    IsConflictFree cap h submissions → IsConflictFree cap h others →
    SameRecords submissions others → after cap h submissions ≡ after cap h others
