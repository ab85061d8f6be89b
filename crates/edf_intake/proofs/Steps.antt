-- The loop over the data records of a fragment: its start, one data record more, its end.
use Rattle.std.proofs.Common.{◌≡◌, ℕ, ◌+◌, ◌-◌, ◌<◌, ◌≤◌, List, [], ◌∷◌, ◌++◌, length, Option, Some}
use Rattle.std.proofs.Common.{None, Ok, refl, sym, ap, subst, ◌∙◌, inl, arith}
use Rattle.sqlite_trees.specs.declared.store.Store.{Ghosts}
use Rattle.sqlite.specs.State.{HasCleanDisk}
use Rattle.edf_field.specs.Number.{duration_of}
use Rattle.edf_header.specs.Key.{MayStart}
use Rattle.edf_header.specs.Header.{Layout, most_records}
use Rattle.edf_fragment.specs.Fragment.{DataRecord}
use Rattle.edf_fragment.specs.Sound.{FirstMayStart}
use Rattle.edf_fragment.specs.Reading.{ReadsHeader, IsNextAnswer, initial_progress}
use Rattle.edf_fragment.specs.Whole.{HasReadRecords, ReadsFragment}
use Rattle.edf_fragment.specs.declared.advance.Progress.{Progress}
use Rattle.edf_fragment.specs.declared.advance.ReaderState.TheVariants.{Reading}
use Rattle.edf_fragment.proofs.Fragments.{reads_none, one_more_read, all_read}
use Rattle.edf_fragment.proofs.Sound.{read-key, read-sound, read-begins}
use Rattle.edf_holdings.specs.Rising.{StartsAreSpaced, union}
use Rattle.edf_holdings.specs.Holdings.{Holdings, with_records}
use Rattle.edf_holdings.proofs.Members.{In, Within, joined_has}
use Rattle.edf_holdings.proofs.Joining.{IsGood-from_sound, apart-sound, put_here}
use Rattle.edf_holdings.proofs.OneByOne.{Taken, TakenOrStopped, nothing_read, taken_room}
use Rattle.edf_rows.proofs.Rows.{one-holdings}
use Rattle.edf_store.specs.Held.{StoreModel, at}
use Rattle.edf_store.specs.Transaction.{Sees, SeesHoldings}
use Rattle.edf_intake.specs.Inside.Verdict.{TakesNext, IsSpare, AreFindings}
use Rattle.edf_intake.specs.Inside.Taken.{MayBeAccepted}
use Rattle.edf_intake.specs.declared.data_records.Starts.{Starts}
use Rattle.edf_intake.specs.declared.data_records.Findings.{Findings}
use Rattle.edf_intake.proofs.Meeting.{MetSoFar, starts_of, next_in_all, met_next}

-- what a transaction sees is one
pub seen_is_one : {S : Type 0} (g : Ghosts S) (now : StoreModel S) (h t : Holdings) →
    HasCleanDisk (at g now) → Sees g now h → Sees g now t → h ≡ t
seen_is_one g now h t clean a b =
    let p = a clean in
    let q = b clean in
    one-holdings (at g now).now.trees h t now.cap now.cap p.stand p.sound q.stand q.sound

pub empty_within : (xs ys : List DataRecord) → Within xs ys → ys ≡ [] → xs ≡ []
empty_within [] ys w e = refl
empty_within (x ∷ xs) ys w e = absurd (subst (λ (l : List DataRecord). In x l) e (w x (inl refl)))

module _ {S : Type 0} (g : Ghosts S) (first : StoreModel S) (l : Layout)
    (before left : Option (List ℕ)) (header : ReadsHeader before left l) (spare : ℕ)
    (space : HasCleanDisk (at g first) → (h : Holdings) → Sees g first h →
    IsSpare first.cap (length (h l.key)) (most_records l.count) spare) where
  held_apart : HasCleanDisk (at g first) → (h : Holdings) → Sees g first h →
      StartsAreSpaced (duration_of l.key.duration) 0 (h l.key)
  held_apart clean h seen = (IsGood-from_sound first.cap h (seen clean).sound).apart l.key

  read_apart : (rest : Option (List ℕ)) (records : List DataRecord) (p : Progress) →
      HasReadRecords l left rest records p → StartsAreSpaced (duration_of l.key.duration) 0 records
  read_apart rest records p read =
      apart-sound l.key 0 records (read-sound before left rest l records p header read)

  pub at_start : MetSoFar g first first l left left initial_progress
      (record { new = 0; known = 0; clash = None })
  at_start = record {
    records = [];
    read = reads_none l left;
    met = λ clean h seen. (h, seen, nothing_read first.cap l.key h);
    counted = omega arith;
  }

  -- while no clash was met and there is room, the recording has fewer than the cap
  pub few_seen : (now : StoreModel S) (rest : Option (List ℕ)) (p : Progress)
      (findings : Findings) → MetSoFar g first now l left rest p findings → SeesHoldings g first
      → (HasCleanDisk (at g now) → HasCleanDisk (at g first)) → now.cap ≡ first.cap →
      HasCleanDisk (at g now) → findings.clash ≡ None → findings.new < spare
      → (h : Holdings) → Sees g now h → length (h l.key) < now.cap
  few_seen now rest p findings w running was same clean none low h seen =
      let some = running (was clean) in
      let start : Sees g first some.0 = λ _. some.1 in
      let m = w.met clean some.0 start in
      let taken : Taken first.cap l.key some.0 w.records m.0 findings.new findings.known =
      subst (λ (o : Option Starts). TakenOrStopped first.cap l.key some.0 w.records m.0 findings.new
      findings.known (starts_of o)) none m.2 in
      let few = taken_room first.cap l.key some.0 w.records m.0 findings.new findings.known
      (read-key before left l header) (held_apart (was clean) some.0 start)
      (read_apart rest w.records p w.read) taken
      (omega (arith, low, (space (was clean) some.0 start).fits)) in
      let one : m.0 ≡ h = seen_is_one g now m.0 h clean m.1 seen in
      let said : length (h l.key) < first.cap =
      subst (λ (z : Holdings). length (z l.key) < first.cap) one few in
      subst (λ (n : ℕ). length (h l.key) < n) (sym same) said

  -- and where it holds none then, the next record is the first, with which it may start: each one
  -- before it was put in
  pub first_seen : (now : StoreModel S) (mid rest : Option (List ℕ)) (p q : Progress)
      (findings : Findings) (r : DataRecord) → MetSoFar g first now l left mid p findings →
      p.state ≡ Reading → IsNextAnswer l p q mid rest (Ok (Some r)) → SeesHoldings g first →
      (HasCleanDisk (at g now) → HasCleanDisk (at g first)) → HasCleanDisk (at g now) →
      findings.clash ≡ None → findings.new < spare
      → (h : Holdings) → Sees g now h → h l.key ≡ [] → MayStart l.key r.start
  first_seen now mid rest p q findings r w going answer running was clean none low h seen empty =
      let some = running (was clean) in
      let start : Sees g first some.0 = λ _. some.1 in
      let m = w.met clean some.0 start in
      let taken : Taken first.cap l.key some.0 w.records m.0 findings.new findings.known =
      subst (λ (o : Option Starts). TakenOrStopped first.cap l.key some.0 w.records m.0 findings.new
      findings.known (starts_of o)) none m.2 in
      let held : h ≡ with_records l.key w.records some.0 =
      sym (seen_is_one g now m.0 h clean m.1 seen)
      ∙ taken.whole (omega (arith, low, (space (was clean) some.0 start).fits)) in
      let all : h l.key ≡ union (some.0 l.key) w.records = ap (λ (z : Holdings). z l.key) held
      ∙ put_here l.key w.records some.0 in
      let before_it : w.records ≡ [] =
      empty_within w.records (union (some.0 l.key) w.records)
      (joined_has (some.0 l.key) w.records) (sym all ∙ empty) in
      let read : HasReadRecords l left rest (w.records ++ r ∷ []) q =
      (one_more_read l left mid rest w.records p q r w.read going answer).0 in
      subst (λ (rs : List DataRecord). FirstMayStart l.key (rs ++ r ∷ [])) before_it
      (read-begins before left rest l (w.records ++ r ∷ []) q header read)

  -- one record more
  pub one_more_met : (now next : StoreModel S) (mid rest : Option (List ℕ)) (p q : Progress)
      (from to : Findings) (r : DataRecord) → MetSoFar g first now l left mid p from
      → p.state ≡ Reading → IsNextAnswer l p q mid rest (Ok (Some r)) → q.given ≡ p.given + 1 →
      p.given < most_records l.count → (HasCleanDisk (at g next) → HasCleanDisk (at g now)) →
      (HasCleanDisk (at g now) → HasCleanDisk (at g first))
      → (HasCleanDisk (at g next) → (h : Holdings) → Sees g now h → (t : Holdings) × Sees g next t
      × TakesNext spare l.key r h from t to) → to.new + to.known ≤ from.new + from.known + 1
      → MetSoFar g first next l left rest q to
  one_more_met now next mid rest p q from to r w going answer given may_come was first_was step
      counted =
      let read : HasReadRecords l left rest (w.records ++ r ∷ []) q =
      (one_more_read l left mid rest w.records p q r w.read going answer).0 in
      record {
        records = w.records ++ r ∷ [];
        read = read;
        met = λ clean h seen.
            let m = w.met (was clean) h seen in
            let n = step clean m.0 m.1 in
            let some = space (first_was (was clean)) h seen in
            let next = next_in_all first.cap (length (h l.key)) (most_records l.count) spare l.key r
            m.0 from n.0 to some (omega (arith, w.counted, may_come)) n.2 in (
              n.0,
              n.1,
              met_next first.cap (first.cap - length (h l.key)) l.key h
                  (read-key before left l header) (held_apart (first_was (was clean)) h seen)
                  (omega (arith, some.fits)) w.records r
                  (read_apart rest (w.records ++ r ∷ []) q read) m.0 from n.0 to m.2 next,
            );
        counted = omega (arith, w.counted, counted, given);
      }

  findings_of : (h t : Holdings) (records : List DataRecord) (new known : ℕ)
      (clash : Option Starts) →
      TakenOrStopped first.cap l.key h records t new known (starts_of clash)
      → AreFindings l.key h records (record { new = new; known = known; clash = clash })
  findings_of h t records new known None k =
      record { no_clash = k.free; new_is = k.new_is; all = k.all }
  findings_of h t records new known (Some s) k =
      record { pair = k.pair; first = k.first; start = k.start; stored = k.stored }

  -- the end
  pub at_end : (now : StoreModel S) (mid rest : Option (List ℕ)) (p q : Progress)
      (findings : Findings) → (w : MetSoFar g first now l left mid p findings) →
      p.state ≡ Reading → IsNextAnswer l p q mid rest (Ok None) →
      (HasCleanDisk (at g now) → HasCleanDisk (at g first)) →
      ((other : Option (List ℕ)) → ReadsHeader other left l → ReadsFragment other rest l w.records)
      × (HasCleanDisk (at g now) → (h : Holdings) → Sees g first h →
      AreFindings l.key h w.records findings
      × (MayBeAccepted spare findings → Sees g now (with_records l.key w.records h)))
  at_end now mid rest p q findings w going answer was = (
    (λ other head. all_read l other left mid rest w.records p q head w.read going answer),
    (λ clean h seen.
        let t = w.met clean h seen in (
          findings_of h t.0 w.records findings.new findings.known findings.clash t.2,
          (λ may.
              let taken : Taken first.cap l.key h w.records t.0 findings.new findings.known =
              subst (λ (o : Option Starts). TakenOrStopped first.cap l.key h w.records t.0
              findings.new
              findings.known (starts_of o)) may.0 t.2 in
              subst (Sees g now)
              (taken.whole (omega (arith, may.1, (space (was clean) h seen).fits))) t.1),
        )),
  )
