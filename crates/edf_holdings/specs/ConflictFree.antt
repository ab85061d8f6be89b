-- Lists of submissions may have no conflicts, and two lists may have the same records.
use Rattle.std.specs.Prelude.{◌≡◌, ℕ, ◌≤◌, ◌↔◌, List, [], ◌∷◌, length, Contains, Any}
use Rattle.std.specs.List.{AllByRecursion}
use Rattle.edf_field.specs.Number.{duration_of}
use Rattle.edf_header.specs.Key.{Key}
use Rattle.edf_fragment.specs.Fragment.{DataRecord}
use Rattle.edf_fragment.specs.Parsed.{Parsed, Fragment, Fault}
use Rattle.edf_holdings.specs.Clash.{NoClash}
use Rattle.edf_holdings.specs.Holdings.{Holdings, with_records}

abbrev pub IsFragment : Parsed → Type 0
IsFragment (Fragment key records) = Unit {0}
IsFragment (Fault fault) = ⊥

-- adds all records of a submission to the holdings, whether or not they clash
abbrev pub union_with : Holdings → Parsed → Holdings
union_with h (Fragment key records) = with_records key records h
union_with h (Fault fault) = h

abbrev pub union_with_all : Holdings → List Parsed → Holdings
union_with_all h [] = h
union_with_all h (submission ∷ submissions) = union_with_all (union_with h submission) submissions

-- each is a fragment; once the holdings have all their records, no two of a key clash, and no key
-- has more than the cap
pub record IsConflictFree (cap : ℕ) (h : Holdings) (submissions : List Parsed) : Type 0 where
  pub fragments : AllByRecursion IsFragment submissions
  pub no_clash : (k : Key) → NoClash (duration_of k.duration) (union_with_all h submissions k)
  pub within_cap : (k : Key) → length (union_with_all h submissions k) ≤ cap

-- the submission has the record under this key
abbrev pub HasRecordUnder : Key → DataRecord → Parsed → Type 0
HasRecordUnder k r (Fragment key records) = (key ≡ k) × Contains records r
HasRecordUnder k r (Fault fault) = ⊥

-- both lists have the same records under the same keys, however cut, ordered or repeated
abbrev pub SameRecords : List Parsed → List Parsed → Type 0
SameRecords submissions others = (k : Key) (r : DataRecord) →
    Any (HasRecordUnder k r) submissions ↔ Any (HasRecordUnder k r) others
