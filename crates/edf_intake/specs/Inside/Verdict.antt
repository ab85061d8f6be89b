-- The verdict on a data record by the stored ones near it, and the findings on all that were read.
use Rattle.std.specs.Prelude.{◌≡◌, ◌⊎◌, ℕ, ◌+◌, ◌<◌, ◌≤◌, true, List, [], ◌∷◌, length, Some, None}
use Rattle.std.specs.Prelude.{MatchOption}
use Rattle.sqlite_trees.specs.declared.store.Store.{Ghosts}
use Rattle.sqlite.specs.State.{HasCleanDisk}
use Rattle.edf_field.specs.Number.{duration_of}
use Rattle.edf_header.specs.Key.{Key}
use Rattle.edf_fragment.specs.Fragment.{DataRecord}
use Rattle.edf_holdings.specs.Clash.{overlapping, first_other}
use Rattle.edf_holdings.specs.Rising.{contains_record, count_new}
use Rattle.edf_holdings.specs.Holdings.{Holdings, with_records}
use Rattle.edf_holdings.specs.Reply.{first_clash}
use Rattle.edf_store.specs.Held.{StoreModel, at}
use Rattle.edf_store.specs.Transaction.{Sees}
use Rattle.edf_store.specs.declared.transaction.StoreTx.{StoreTx}
use Rattle.edf_intake.specs.declared.data_records.Verdict.{Verdict}
use Rattle.edf_intake.specs.declared.data_records.Verdict.TheVariants.{Clashes, Known, New}
use Rattle.edf_intake.specs.declared.data_records.Starts.{Starts}
use Rattle.edf_intake.specs.declared.data_records.Findings.{Findings}

-- a recording that has `held` may get `spare` more within the cap: up to it, or at least `asked`
pub record IsSpare (cap held asked spare : ℕ) : Type 0 where
  pub fits : held + spare ≤ cap
  pub enough : (held + spare ≡ cap) ⊎ (asked ≤ spare)

-- the key's recording may get so many more, as the transaction sees it on a clean disk
abbrev pub IsSpareInTransaction : {S : Type 0} → Ghosts S → StoreTx S → Key → ℕ → ℕ → Type 0
IsSpareInTransaction g tx key asked spare = HasCleanDisk (at g tx.store.now) → (h : Holdings) →
    Sees g tx.store.now h → IsSpare tx.store.now.cap (length (h key)) asked spare

-- the stored records near it give this verdict on the record
abbrev pub IsVerdict : DataRecord → List DataRecord → Verdict → Type 0
IsVerdict r near (Clashes stored) = (s : DataRecord) × (first_other r near ≡ Some s)
    × (stored ≡ s.start)
IsVerdict r near Known = (first_other r near ≡ None) × (contains_record near r ≡ true)
IsVerdict r near New = near ≡ []

-- the key's records that are seen give this verdict on the record
abbrev pub IsVerdictIn : {S : Type 0} → Ghosts S → StoreModel S → Key → DataRecord → Verdict →
    Type 0
IsVerdictIn g store key r verdict = (h : Holdings) → Sees g store h →
    IsVerdict r (overlapping (duration_of key.duration) r.start (h key)) verdict

-- a record with this verdict changes the findings and the holdings so
abbrev pub TakesVerdict : ℕ → Key → DataRecord → List DataRecord → Holdings → Findings → Holdings →
    Findings → Verdict → Type 0
TakesVerdict spare key r near h from t to (Clashes stored) = (t ≡ h)
    × (to ≡ record from { clash = Some (record { start = r.start; stored = stored }) })
TakesVerdict spare key r near h from t to Known = (t ≡ h)
    × (to ≡ record from { known = from.known + 1 })
TakesVerdict spare key r near h from t to New =
    (from.new < spare → t ≡ with_records key (r ∷ []) h) × (spare ≤ from.new → t ≡ h)
    × (to ≡ record from { new = from.new + 1 })

-- the next record is taken by its verdict; after a clash the findings stay, and t may be any
abbrev pub TakesNext : ℕ → Key → DataRecord → Holdings → Findings → Holdings → Findings → Type 0
TakesNext spare key r h from t to = MatchOption from.clash
    ((verdict : Verdict) × IsVerdict r
    (overlapping (duration_of key.duration) r.start (h key)) verdict
    × TakesVerdict spare key r (overlapping (duration_of key.duration) r.start (h key)) h from t to
    verdict)
    (λ starts. to ≡ from)

-- no record clashes with one of the key, and the findings count the new and the known
pub record CountsWithoutClash (key : Key) (h : Holdings) (records : List DataRecord)
    (findings : Findings) : Type 0
  where
    pub no_clash : first_clash (duration_of key.duration) (h key) records ≡ None
    pub new_is : findings.new ≡ count_new (h key) records
    pub all : findings.known + findings.new ≡ length records

-- these are the starts of the first record that clashes and of the earliest that it clashes with
pub record NamesClash (key : Key) (h : Holdings) (records : List DataRecord)
    (starts : Starts) : Type 0 where
  pub pair : DataRecord × DataRecord
  pub first : first_clash (duration_of key.duration) (h key) records ≡ Some pair
  pub start : starts.start ≡ pair.0.start
  pub stored : starts.stored ≡ pair.1.start

abbrev pub AreFindings : Key → Holdings → List DataRecord → Findings → Type 0
AreFindings key h records findings =
    MatchOption findings.clash (CountsWithoutClash key h records findings)
    (NamesClash key h records)
