-- A whole fragment that was taken in a transaction.
use Rattle.std.proofs.Common.{◌≡◌, ◌≢◌, ℕ, ◌≤◌, List, [], length, Option, Some, Err, sym}
use Rattle.std.proofs.Common.{ap, subst, ◌∙◌, inl, inr, arith}
use Rattle.sqlite_trees.specs.declared.store.Store.{Ghosts}
use Rattle.sqlite.specs.State.{HasCleanDisk}
use Rattle.edf_header.specs.Key.{Key}
use Rattle.edf_header.specs.Header.{Layout, most_records}
use Rattle.edf_fragment.specs.Fragment.{DataRecord}
use Rattle.edf_fragment.specs.Parsed.{Fragment}
use Rattle.edf_fragment.specs.Reading.{ReadsHeader}
use Rattle.edf_fragment.specs.Whole.{ReadsFragment}
use Rattle.edf_fragment.proofs.Sound.{spelled-key, spelled-sound, spelled-begins, spelled-some}
use Rattle.edf_holdings.specs.Rising.{union}
use Rattle.edf_holdings.specs.Holdings.{Holdings, with_records}
use Rattle.edf_holdings.specs.Reply.{IsWellFormed, reply}
use Rattle.edf_holdings.proofs.Members.{joined_has}
use Rattle.edf_holdings.proofs.Joining.{IsGood-from_sound, put_here, put_grows}
use Rattle.edf_store.specs.Held.{StoreModel, at, KeepsHoldings}
use Rattle.edf_store.specs.Transaction.{Sees, SeesHoldings, AddsOnlyRecording, AddsNoRecording}
use Rattle.edf_store.specs.Transaction.{EachHasRecord}
use Rattle.edf_store.specs.declared.transaction.StoreTx.{StoreTx}
use Rattle.edf_intake.specs.Refusal.{Cause, OfForm, OfConflict, OfRead, OfMemory, OfStore}
use Rattle.edf_intake.specs.Refusal.{reply_of_cause, reply_of, cause}
use Rattle.edf_fragment.specs.Call.{InputState}
use Rattle.edf_intake.specs.Input.{ReadsWhole}
use Rattle.edf_intake.specs.Inside.Verdict.{IsSpare, AreFindings}
use Rattle.edf_intake.specs.Inside.Taken.{IsConflict, MayBeAccepted, IsDestination, RecordsAreTaken}
use Rattle.edf_intake.specs.Inside.Taken.{IsOfConflict, IsAcceptedInTransaction, StopsFor}
use Rattle.edf_intake.specs.Inside.Taken.{StopsWith}
use Rattle.edf_intake.specs.declared.data_records.Destination.{Destination}
use Rattle.edf_intake.specs.declared.data_records.Findings.{Findings}
use Rattle.edf_intake.specs.declared.answer.Refusal.{Refusal}
use Rattle.edf_intake.specs.declared.answer.Stop.TheVariants.{Input}
use Rattle.edf_intake.proofs.Steps.{seen_is_one, empty_within}
use Rattle.edf_intake.proofs.Conflicts.{counts_all, accepted_here, left_here}
use Rattle.edf_intake.proofs.Halting.{reads_whole}

none_there : (xs : List DataRecord) → 1 ≤ length xs → xs ≢ []
none_there xs some e = absurd (omega (arith, some, ap (λ (l : List DataRecord). length l) e))

-- each recording holds a record, if each did and the one that was made takes some
pub still_whole : {S : Type 0} (g : Ghosts S) (first made last : StoreModel S) (key : Key)
    (records : List DataRecord) → 1 ≤ length records
    → EachHasRecord g first → SeesHoldings g first → AddsOnlyRecording g key first made →
    AddsNoRecording g made last → (HasCleanDisk (at g last) → HasCleanDisk (at g made)) →
    (HasCleanDisk (at g made) → HasCleanDisk (at g first))
    → (HasCleanDisk (at g last) → (h : Holdings) → Sees g first h →
    Sees g last (with_records key records h)) → EachHasRecord g last
still_whole g first made last key records some whole running most none was_made was_first then clean
    h id k seen under =
    let start = running (was_first (was_made clean)) in
    let begun : Sees g first start.0 = λ _. start.1 in
    let one : with_records key records start.0 ≡ h =
    seen_is_one g last (with_records key records start.0) h clean (then clean start.0 begun) seen in
    let there = none clean id k (under.there clean) in
    subst (λ (z : Holdings). z k ≢ []) one
    (elim (most (was_made clean) id k there) [
      | inl old ↦ λ e. whole (was_first (was_made clean)) start.0 id k begun
          (record { key = old.key; there = λ _. old })
          (empty_within (start.0 k) (with_records key records start.0 k)
          (put_grows key records start.0 k) e)
      | inr same ↦ subst (λ (q : Key). with_records key records start.0 q ≢ []) (sym same)
          (λ e. none_there records some (empty_within records (union (start.0 key) records)
          (joined_has (start.0 key) records) (sym (put_here key records start.0) ∙ e)))
    ])

-- room for more than there are is room for those
fewer : (cap held asked fewer_asked spare : ℕ) → fewer_asked ≤ asked →
    IsSpare cap held asked spare → IsSpare cap held fewer_asked spare
fewer cap held asked fewer_asked spare few found = record {
  fits = found.fits;
  enough = elim found.enough [
    | inl all ↦ inl all
    | inr enough ↦ inr (omega (arith, few, enough))
  ];
}

-- a whole fragment has no more data records than its header lets it have
few_records : (left rest : Option (List ℕ)) (l : Layout) (records : List DataRecord) →
    ReadsFragment left rest l records → length records ≤ most_records l.count
few_records left rest l records read =
    subst (λ (x : Layout). length records ≤ most_records x.count) (sym read.layout_is)
    read.is_file.most

-- the transaction saw `first`, its recording was found or made in `made`, and `last` is what it
-- sees after the data records; the input was read from `from` to `mid` for its header, and then to
-- `to`
module _ {S : Type 0} (g : Ghosts S) (first made last : StoreTx S) (from mid to : InputState)
    (l : Layout) (d : Destination) (findings : Findings)
    (header : ReadsHeader from.remaining mid.remaining l) (unfailed : mid.failed ≡ from.failed)
    (begun : KeepsHoldings g first.store.now made.store.now)
    (stayed : KeepsHoldings g made.store.now last.store.now)
    (there : IsDestination g first made l.key (most_records l.count) d)
    (taken : RecordsAreTaken g made last l d.spare mid to findings) where
  was_made : HasCleanDisk (at g last.store.now) → HasCleanDisk (at g made.store.now)
  was_made clean = omega (arith, stayed.crash.clean)

  was_first : HasCleanDisk (at g made.store.now) → HasCleanDisk (at g first.store.now)
  was_first clean = omega (arith, begun.crash.clean)

  fragment : ReadsFragment from.remaining to.remaining l taken.records
  fragment = taken.read from.remaining header

  whole : ReadsWhole from to l.key taken.records
  whole = reads_whole from to l taken.records fragment (taken.counted ∙ unfailed)

  sound : IsWellFormed (Fragment l.key taken.records)
  sound = (
    spelled-key whole.bytes l.key taken.records whole.is_file,
    spelled-sound whole.bytes l.key taken.records whole.is_file,
    spelled-begins whole.bytes l.key taken.records whole.is_file,
  )

  space : HasCleanDisk (at g made.store.now) → (h : Holdings) → Sees g made.store.now h →
      IsSpare first.store.now.cap (length (h l.key)) (length taken.records) d.spare
  space clean h seen =
      subst (λ (n : ℕ). IsSpare n (length (h l.key)) (length taken.records) d.spare) begun.cap
      (fewer made.store.now.cap (length (h l.key)) (most_records l.count) (length taken.records)
      d.spare
      (few_records from.remaining to.remaining l taken.records fragment) (there.spare clean h seen))

  put_seen : MayBeAccepted d.spare findings → HasCleanDisk (at g last.store.now) → (h : Holdings) →
      Sees g first.store.now h → Sees g last.store.now (with_records l.key taken.records h)
  put_seen may clean h seen = (taken.findings_are clean h (there.same h seen)).1 may

  pub is_accepted : MayBeAccepted d.spare findings → EachHasRecord g first.store.now →
      SeesHoldings g first.store.now → IsAcceptedInTransaction g first last from to
      (record { identity = l.key; new = findings.new; known = findings.known })
  is_accepted may each running = record {
    records = taken.records;
    read = whole;
    reply_is = λ clean h seen.
        let k = counts_all l.key h taken.records findings may.0
        (taken.findings_are clean h (there.same h seen)).0 in
        accepted_here first.store.now.cap d.spare l.key h taken.records findings k
        (space (was_made clean) h (there.same h seen)).fits may.1;
    sees = λ h seen clean.
        let k = counts_all l.key h taken.records findings may.0
        (taken.findings_are clean h (there.same h seen)).0 in
        let good = IsGood-from_sound first.store.now.cap h
        (seen (was_first (was_made clean))).sound in
        subst (Sees g last.store.now) (left_here first.store.now.cap d.spare l.key h taken.records
        findings sound good k
        (space (was_made clean) h (there.same h seen)).fits may.1) (put_seen may clean h seen)
        clean;
    whole = still_whole g first.store.now made.store.now last.store.now l.key taken.records
        (spelled-some whole.bytes l.key taken.records whole.is_file) each running there.only
        taken.only was_made was_first (put_seen may);
  }

  -- and where it is refused
  pub is_refused : (answer : Refusal) → IsConflict answer
      → ((h : Holdings) → IsSpare first.store.now.cap (length (h l.key)) (length taken.records)
      d.spare → AreFindings l.key h taken.records findings →
      reply_of (Err answer) ≡ Some (reply first.store.now.cap h (Fragment l.key taken.records)))
      → StopsWith g first last from to (Input answer)
  is_refused answer conflict told =
      by (cause answer) conflict (λ clean h seen.
      told h (space (was_made clean) h (there.same h seen))
      (taken.findings_are clean h (there.same h seen)).0)
    where
      by : (c : Cause) → IsOfConflict c →
          (HasCleanDisk (at g last.store.now) → (h : Holdings) → Sees g first.store.now h →
          reply_of_cause c ≡ Some (reply first.store.now.cap h (Fragment l.key taken.records)))
          → StopsFor g first last from to c
      by (OfConflict conflict) is_one e = record {
        key = l.key;
        records = taken.records;
        read = whole;
        reply_is = λ clean h seen. let p = e clean h seen in cc;
      }
      by (OfForm fault) never e = absurd never
      by OfRead never e = absurd never
      by OfMemory never e = absurd never
      by (OfStore fault) never e = absurd never
