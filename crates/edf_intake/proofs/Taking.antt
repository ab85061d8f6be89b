-- One data record more, in a transaction.
use Rattle.std.proofs.Common.{◌≡◌, ℕ, ◌+◌, ◌<◌, ◌≤◌, ℤ, false, true, List, [], ◌∷◌, Option, Some}
use Rattle.std.proofs.Common.{None, Ok, IfSome, refl, sym, ap, subst, arith, MatchOption}
use Rattle.std.specs.Option.{is_some}
use Rattle.sqlite_trees.specs.declared.store.Store.{Ghosts}
use Rattle.sqlite.specs.State.{HasCleanDisk}
use Rattle.edf_field.specs.Number.{duration_of}
use Rattle.edf_header.specs.Key.{Key}
use Rattle.edf_fragment.specs.Fragment.{DataRecord}
use Rattle.edf_holdings.specs.Clash.{overlapping}
use Rattle.edf_holdings.specs.Holdings.{Holdings, with_records}
use Rattle.edf_store.specs.Held.{StoreModel, at, KeepsHoldings}
use Rattle.edf_store.specs.Transaction.{AreSeen, Sees, SeesHoldings, IsOf, StillSees, SeesAsBefore}
use Rattle.edf_store.specs.Transaction.{AddsNoRecording, AreNear, IsNextStartOf, MayAddTo, IsAdded}
use Rattle.edf_store.specs.StoreTx.{ReadsInTransaction}
use Rattle.edf_store.specs.declared.fault.StoreFault.{StoreFault}
use Rattle.edf_store.specs.declared.transaction.StoreTx.{StoreTx}
use Rattle.edf_store.proofs.Short.{sees_twice}
use Rattle.edf_intake.specs.Inside.Transaction.{IsRunningFor}
use Rattle.edf_intake.specs.Inside.Gap.{IsGap, IsGapIn, IsGapInTransaction}
use Rattle.edf_intake.specs.Inside.Verdict.{IsVerdict, IsVerdictIn, TakesVerdict, TakesNext}
use Rattle.edf_intake.specs.Inside.Course.{MayBeNext, IsLookupFor, IsRecordTaken}
use Rattle.edf_intake.specs.declared.data_records.Course.{Course}
use Rattle.edf_intake.specs.declared.data_records.Lookup.{Lookup}
use Rattle.edf_intake.specs.declared.data_records.Verdict.{Verdict}
use Rattle.edf_intake.specs.declared.data_records.Verdict.TheVariants.{Clashes, Known, New}
use Rattle.edf_intake.specs.declared.data_records.Starts.{Starts}
use Rattle.edf_intake.specs.declared.data_records.Findings.{Findings}
use Rattle.edf_intake.proofs.Gaps.{next_gap, put_gap}
use Rattle.edf_intake.proofs.Steps.{seen_is_one}

pub none_of : {A : Type 0} (o : Option A) → is_some o ≡ false → o ≡ None
none_of None e = refl
none_of (Some x) e = cc

-- after a clash nothing is counted
pub still_next : (spare : ℕ) (key : Key) (r : DataRecord) (h : Holdings) (from : Findings) →
    is_some from.clash ≡ true → TakesNext spare key r h from h from
still_next spare key r h from some = go from.new from.known from.clash some where
  go : (new known : ℕ) (clash : Option Starts) → is_some clash ≡ true →
      TakesNext spare key r h (record { new = new; known = known; clash = clash }) h
      (record { new = new; known = known; clash = clash })
  go new known None e = cc
  go new known (Some starts) e = refl

-- no recording is made by two calls
pub no_more : {S : Type 0} (g : Ghosts S) (a b c : StoreModel S) → KeepsHoldings g b c →
    AddsNoRecording g a b → AddsNoRecording g b c → AddsNoRecording g a c
no_more g a b c stays p q clean id k there =
    p (omega (arith, stays.crash.clean)) id k (q clean id k there)

pub sees_as : {S : Type 0} (g : Ghosts S) (s u : StoreModel S) → u.cap ≡ s.cap →
    SeesAsBefore g s u → (h : Holdings) → Sees g s h → Sees g u h
sees_as g s u cap same h seen =
    same.holdings h (subst (λ (n : ℕ). AreSeen n (at g s) h) (sym cap) seen)

-- what is seen after a call that only read was seen before it
pub seen_before : {S : Type 0} (g : Ghosts S) (s u : StoreModel S) → KeepsHoldings g s u →
    SeesHoldings g s →
    SeesAsBefore g s u → HasCleanDisk (at g u) → (h : Holdings) → Sees g u h → Sees g s h
seen_before g s u stays running same clean h seen =
    let some = running (omega (arith, stays.crash.clean)) in
    let first : Sees g s some.0 = λ _. some.1 in
    subst (Sees g s) (seen_is_one g u some.0 h clean (sees_as g s u stays.cap same some.0 first)
    seen) first

-- what was seen is seen, without a call and after two
pub sees_on : {S : Type 0} (g : Ghosts S) (s : StoreModel S) → SeesHoldings g s → SeesAsBefore g s s
sees_on g s running = record {
  running = running;
  holdings = λ h seen. seen;
  ids = λ id k there. there;
}

pub sees_then : {S : Type 0} (g : Ghosts S) (a b c : StoreModel S) → c.cap ≡ b.cap →
    SeesAsBefore g a b → SeesAsBefore g b c → SeesAsBefore g a c
sees_then g a b c cap p q = sees_twice c.cap (at g a) (at g b) (at g c)
    (subst (λ (n : ℕ). StillSees n (at g a) (at g b)) (sym cap) p) q

-- what is near a data record, at its start and of its duration
pub near_there : (d d' start start' : ℕ) (near records : List DataRecord) → d ≡ d' →
    start ≡ start' → near ≡ overlapping d start records → near ≡ overlapping d' start' records
near_there d d' start start' near records same is e =
    subst (λ (n : ℕ). near ≡ overlapping d' n records) is
    (subst (λ (n : ℕ). near ≡ overlapping n start records) same e)

pub verdict_near : {S : Type 0} (g : Ghosts S) (s : StoreModel S) (id : ℤ) (key : Key)
    (r : DataRecord)
    (start : ℕ) (near : List DataRecord) (verdict : Verdict) → start ≡ r.start → IsOf g s id key
    → AreNear g s id start near → IsVerdict r near verdict → IsVerdictIn g s key r verdict
verdict_near g s id key r start near verdict is under are said h seen =
    let d = duration_of key.duration in
    subst (λ (ns : List DataRecord). IsVerdict r ns verdict)
    (near_there d d start r.start near (h key) refl is (are h key seen under)) said

-- up to the next start there is a gap
pub gap_found : {S : Type 0} (g : Ghosts S) (s u : StoreModel S) (id : ℤ) (key : Key) (start : ℕ)
    (until : Option ℕ) → u.cap ≡ s.cap → SeesAsBefore g s u → IsOf g s id key
    → IsNextStartOf g u id start until →
    IsGapIn g s key (Some (record { from = start; until = until }))
gap_found g s u id key start until cap same under next h seen =
    next_gap start (h key) until (next h key (sees_as g s u cap same h seen)
    (same.ids id key under))

-- what one verdict makes of the findings and the holdings
verdict_next : (spare : ℕ) (key : Key) (r : DataRecord) (from to : Findings) (verdict : Verdict) →
    from.clash ≡ None → (h t : Holdings) →
    IsVerdict r (overlapping (duration_of key.duration) r.start (h key)) verdict →
    TakesVerdict spare key r (overlapping (duration_of key.duration) r.start (h key)) h from t to
    verdict → TakesNext spare key r h from t to
verdict_next spare key r from to verdict none h t said counts =
    subst (λ (o : Option Starts). MatchOption o
    ((v : Verdict) × IsVerdict r (overlapping (duration_of key.duration) r.start (h key)) v
    × TakesVerdict spare key r (overlapping (duration_of key.duration) r.start (h key)) h from t to
    v)
    (λ starts. to ≡ from)) (sym none) (verdict, said, counts)

-- s is the transaction before the record, and u the one after the store was asked for those near it
module _ {S : Type 0} (g : Ghosts S) (id : ℤ) (key : Key) (r : DataRecord) (spare : ℕ)
    (from : Course) (s : StoreTx S) (running : IsRunningFor g s id key) where
  -- nothing is asked after a clash
  pub clashed_before : is_some from.findings.clash ≡ true → IsGapInTransaction g s key from.gap →
      IsRecordTaken g s s key r id spare from from
  clashed_before some gap = record {
    recording = running.recording;
    only = λ clean other k there. there;
    counts = λ clean h seen. (h, seen, still_next spare key r h from.findings some);
    counted = omega arith;
    gap = gap;
  }

  module _ (u : StoreTx S) (Why : StoreFault → Type 0) (found : Lookup)
      (read : ReadsInTransaction g s u (Ok found) Why) (is : IsLookupFor g s u key r found)
      (none : from.findings.clash ≡ None) where
    there : IsOf g u.store.now id key
    there = read.same.ids id key running.recording

    seen_still : (h : Holdings) → Sees g s.store.now h → Sees g u.store.now h
    seen_still = sees_as g s.store.now u.store.now read.stays.cap read.same

    seen_first : HasCleanDisk (at g u.store.now) → (h : Holdings) → Sees g u.store.now h →
        Sees g s.store.now h
    seen_first = seen_before g s.store.now u.store.now read.stays running.running read.same

    verdict_is : (verdict : Verdict) → found.verdict ≡ verdict → HasCleanDisk (at g u.store.now) →
        IsVerdictIn g s.store.now key r verdict
    verdict_is verdict same clean = subst (IsVerdictIn g s.store.now key r) same (is.verdict clean)

    -- a gap stays one where nothing was added
    gap_stays : IsGapInTransaction g u key found.gap
    gap_stays clean h seen = is.gap clean h (seen_first clean h seen)

    pub clash_met : (start stored : ℕ) → start ≡ r.start → found.verdict ≡ Clashes stored →
        IsRecordTaken g s u key r id spare from (record {
          findings = record {
            new = from.findings.new;
            known = from.findings.known;
            clash = Some (record { start = start; stored = stored });
          };
          gap = found.gap;
        })
    clash_met start stored starts same = record {
      recording = there;
      only = read.only;
      counts = λ clean h seen. (
        h,
        seen_still h seen,
        verdict_next spare key r from.findings _ (Clashes stored) none h h
            (verdict_is (Clashes stored) same clean h seen) (
              refl,
              ap (λ (n : ℕ). let made : Findings = record {
                new = from.findings.new;
                known = from.findings.known;
                clash = Some (record { start = n; stored = stored });
              } in made) starts,
            ),
      );
      counted = omega arith;
      gap = gap_stays;
    }

    pub known_met : found.verdict ≡ Known → IsRecordTaken g s u key r id spare from (record {
      findings = record {
        new = from.findings.new;
        known = from.findings.known + 1;
        clash = from.findings.clash;
      };
      gap = found.gap;
    })
    known_met same = record {
      recording = there;
      only = read.only;
      counts = λ clean h seen. (
        h,
        seen_still h seen,
        verdict_next spare key r from.findings _ Known none h h
            (verdict_is Known same clean h seen) (refl, refl),
      );
      counted = omega arith;
      gap = gap_stays;
    }

    module _ (same : found.verdict ≡ New) where
      pub full_met : spare ≤ from.findings.new → IsRecordTaken g s u key r id spare from (record {
        findings = record {
          new = from.findings.new + 1;
          known = from.findings.known;
          clash = from.findings.clash;
        };
        gap = found.gap;
      })
      full_met full = record {
        recording = there;
        only = read.only;
        counts = λ clean h seen. (
          h,
          seen_still h seen,
          verdict_next spare key r from.findings _ New none h h (verdict_is New same clean h seen)
              ((λ low. absurd (omega (arith, low, full))), (λ _. refl), refl),
        );
        counted = omega arith;
        gap = gap_stays;
      }

      module _ (low : from.findings.new < spare) where
        -- a record may be added where nothing is near it
        pub may_take : MayBeNext g s key r spare from → MayAddTo g u.store.now id r
        may_take may = record {
          key = key;
          is_under = there;
          sound = may.sound;
          spare = λ clean h seen.
              let was : HasCleanDisk (at g s.store.now) = omega (arith, read.stays.crash.clean) in
              let before = seen_first clean h seen in
              record {
                none_near = verdict_is New same clean h before;
                below_cap = omega (arith, read.stays.cap, may.below_cap was (none, low) h before);
                first = may.first was (none, low) h before;
              };
        }

        -- w is the transaction after it was added
        module _ (w : StoreTx S) (stayed : KeepsHoldings g u.store.now w.store.now)
            (added : IsAdded g u.store.now w.store.now id r) where
          added_seen : (h : Holdings) → Sees g s.store.now h →
              Sees g w.store.now (with_records key (r ∷ []) h)
          added_seen h seen =
              let seen_then : AreSeen w.store.now.cap (at g u.store.now) h =
              subst (λ (n : ℕ). AreSeen n (at g u.store.now) h) (sym stayed.cap)
              (seen_still h seen) in
              added.holdings h key seen_then there

          -- a gap stays one where the record was added that it begins with
          gap_added : IsGapInTransaction g w key found.gap
          gap_added clean t seen =
              let was : HasCleanDisk (at g u.store.now) = omega (arith, stayed.crash.clean) in
              let some = running.running (omega (arith, read.stays.crash.clean, was)) in
              let first : Sees g s.store.now some.0 = λ _. some.1 in
              let one : with_records key (r ∷ []) some.0 ≡ t =
              seen_is_one g w.store.now (with_records key (r ∷ []) some.0) t clean
              (added_seen some.0 first) seen in
              subst (λ (z : Holdings). IfSome found.gap (IsGap (z key))) one
              (put_gap key r some.0 found.gap is.from (is.gap was some.0 first))

          pub added_met : IsRecordTaken g s w key r id spare from (record {
            findings = record {
              new = from.findings.new + 1;
              known = from.findings.known;
              clash = from.findings.clash;
            };
            gap = found.gap;
          })
          added_met = record {
            recording = added.ids id key there;
            only = no_more g s.store.now u.store.now w.store.now stayed read.only added.only;
            counts = λ clean h seen. (
              with_records key (r ∷ []) h,
              added_seen h seen,
              verdict_next spare key r from.findings _ New none h (with_records key (r ∷ []) h)
                  (verdict_is New same (omega (arith, stayed.crash.clean)) h seen)
                  ((λ _. refl), (λ full. absurd (omega (arith, low, full))), refl),
            );
            counted = omega arith;
            gap = gap_added;
          }
