-- The next data record of a fragment: when it may come, and the findings after it.
use Rattle.std.specs.Prelude.{◌≡◌, ℕ, ◌+◌, ◌-◌, ◌^◌, ◌<◌, ◌≤◌, ℤ, [], length, None, IfSome}
use Rattle.sqlite_trees.specs.declared.store.Store.{Ghosts}
use Rattle.sqlite.specs.State.{HasCleanDisk}
use Rattle.edf_header.specs.Key.{Key, MayStart}
use Rattle.edf_fragment.specs.Fragment.{DataRecord}
use Rattle.edf_fragment.specs.Sound.{IsSoundRecord}
use Rattle.edf_holdings.specs.Holdings.{Holdings}
use Rattle.edf_store.specs.Held.{at}
use Rattle.edf_store.specs.Transaction.{Sees, IsOf, AddsNoRecording}
use Rattle.edf_store.specs.declared.transaction.StoreTx.{StoreTx}
use Rattle.edf_intake.specs.Inside.Gap.{IsGapIn, IsGapInTransaction}
use Rattle.edf_intake.specs.Inside.Verdict.{IsVerdictIn, TakesNext}
use Rattle.edf_intake.specs.declared.data_records.Course.{Course}
use Rattle.edf_intake.specs.declared.data_records.Lookup.{Lookup}

-- no clash was met so far, and fewer than `spare` are new
abbrev pub MayAdd : ℕ → Course → Type 0
MayAdd spare course = (course.findings.clash ≡ None) × (course.findings.new < spare)

module _ {S : Type 0} (g : Ghosts S) where
  -- the record may come next
  pub record MayBeNext (tx : StoreTx S) (key : Key) (r : DataRecord) (spare : ℕ)
      (course : Course) : Type 0 where
    pub sound : IsSoundRecord key r
    -- if it may be added, the recording has fewer than the cap, and may start with it if it has
    -- none
    pub below_cap : HasCleanDisk (at g tx.store.now) → MayAdd spare course → (h : Holdings) →
        Sees g tx.store.now h → length (h key) < tx.store.now.cap
    pub first : HasCleanDisk (at g tx.store.now) → MayAdd spare course → (h : Holdings) →
        Sees g tx.store.now h → h key ≡ [] → MayStart key r.start
    pub countable : course.findings.new + course.findings.known < 2 ^ 32 - 1
    pub gap : IsGapInTransaction g tx key course.gap

  module _ (old new : StoreTx S) (key : Key) (r : DataRecord) where
    -- the stored records near it give this verdict, and the gap begins where it starts
    pub record IsLookupFor (lookup : Lookup) : Type 0 where
      pub verdict : HasCleanDisk (at g new.store.now) →
          IsVerdictIn g old.store.now key r lookup.verdict
      pub gap : HasCleanDisk (at g new.store.now) → IsGapIn g old.store.now key lookup.gap
      pub from : IfSome lookup.gap (λ gap. gap.from ≡ r.start)

    -- it was taken: what the transaction sees then, and the findings, are as `TakesNext` says; the
    -- recording is there under its id, and none was added; at most one more is counted
    pub record IsRecordTaken (id : ℤ) (spare : ℕ) (from to : Course) : Type 0 where
      pub recording : IsOf g new.store.now id key
      pub only : AddsNoRecording g old.store.now new.store.now
      pub counts : HasCleanDisk (at g new.store.now) → (h : Holdings) → Sees g old.store.now h →
          (t : Holdings) × Sees g new.store.now t
          × TakesNext spare key r h from.findings t to.findings
      pub counted : to.findings.new + to.findings.known
          ≤ from.findings.new + from.findings.known + 1
      pub gap : IsGapInTransaction g new key to.gap
