-- What a walk gave as a source of data records, and what went out of it.
use Rattle.std.proofs.Common.{◌≡◌, ◌∙◌, ℕ, ◌+◌, List, [], ◌∷◌, ◌++◌, length, take, drop, refl}
use Rattle.std.proofs.Common.{sym, ap, subst, arith, length-append, take-append-drop, false, inl}
use Rattle.std.proofs.Common.{inr, Option, Some, None, Ok}
use Rattle.std.specs.List.{slice_get}
use Rattle.std.proofs.lemmas.List.{take_all, take_more}
use Rattle.std.proofs.lemmas.Option.{slice_get_within, get_or_from_slice_get}
use Rattle.sqlite_trees.specs.declared.store.Store.{Ghosts}
use Rattle.sqlite.specs.State.{HasCleanDisk}
use Rattle.edf_header.specs.Key.{Key}
use Rattle.edf_fragment.specs.Fragment.{DataRecord}
use Rattle.edf_holdings.specs.Holdings.{Holdings}
use Rattle.edf_store.specs.Held.{at, KeepsHoldings}
use Rattle.edf_store.specs.Walk.{HasYielded, IsWalking}
use Rattle.edf_store.specs.declared.cursor.Cursor.{Cursor}
use Rattle.edf_store.specs.declared.fault.StoreFault.{StoreFault}
use Rattle.edf_store.specs.declared.records.Records.{Records}
use Rattle.edf_store.proofs.Faults.{is_store_refusal}
use Rattle.edf_store.proofs.Readiness.{stays_then}
use Rattle.edf_canonical.specs.Measure.{IsMeasured, MayBePrefix, planned_text, records_text}
use Rattle.edf_canonical.specs.Output.{WritesPrefix}
use Rattle.edf_canonical.specs.Sending.{SendsAll, StopsAfter, StopsFor, CountsSendFault}
use Rattle.edf_canonical.specs.Source.{At, Answers, Gives}
use Rattle.edf_canonical.specs.declared.fault.OutputFault.TheVariants.{Write, Memory}
use Rattle.edf_canonical.specs.declared.fault.SendFault.{SendFault}
use Rattle.edf_canonical.specs.declared.fault.SendFault.TheVariants.{Source, Unlike, Output}
use Rattle.edf_canonical.specs.declared.measure.Measure.{Measure}
use Rattle.edf_canonical.proofs.MeasuredFiles.{front_more, planned_more}
use Rattle.edf_canonical.proofs.Measures.{front_first}
use Rattle.edf_canonical.proofs.Sourced.{gives-all, asked, keeps}
use Rattle.edf_export.specs.Export.{IsOutsideTransactionAfterFault}
use Rattle.edf_export.specs.Inside.Calls.{EndsWalk, IsWritingFaultOnAnyDisk}
use Rattle.edf_export.specs.Inside.Steps.{IsSourceStep}
use Rattle.edf_export.specs.Inside.Walks.{IsWritingFault, export_fault_of}
use Rattle.edf_export.specs.declared.walked.Walked.{Walked}
use Rattle.edf_export.proofs.Calls.{leaves_on}
use Rattle.edf_export.proofs.Walks.{stays_same, clean_before, idle_after, refusal_why, not_failed}

-- one more of the first ones
pub take-next : (xs : List DataRecord) (n : ℕ) (r : DataRecord) → slice_get xs n ≡ Some r →
    take (n + 1) xs ≡ take n xs ++ r ∷ []
take-next xs n r is =
    take_more xs n r (slice_get_within xs n r is)
    ∙ ap (λ x. take n xs ++ x ∷ []) (get_or_from_slice_get xs n r r is)

module _ {S : Type 0} (g : Ghosts S) (from : At Walked (Records S Cursor) (Unit {0})) where
  -- the walk gave these, the first of the recording, and goes on
  pub record HasGivenThese (mid : At Walked (Records S Cursor) (Unit {0}))
      (records : List DataRecord) : Type 0 where
    pub going : mid.file.failed ≡ false
    pub walking : IsWalking g mid.file
    pub same_reference : mid.file.store.ghost_name ≡ from.file.store.ghost_name
    pub stays : KeepsHoldings g from.file.store.now mid.file.store.now
    pub moved : (h : Holdings) (k : Key) → HasYielded g from.file h k 0 →
        HasYielded g mid.file h k (length records)
    pub first : HasCleanDisk (at g mid.file.store.now) → (h : Holdings) (k : Key) →
        HasYielded g from.file h k 0 → records ≡ take (length records) (h k)

  one-more : (mid to : At Walked (Records S Cursor) (Unit {0})) (rs : List DataRecord)
      (r : DataRecord) → HasGivenThese mid rs → Answers (IsSourceStep g) mid to (Ok (Some r)) →
      HasGivenThese to (rs ++ r ∷ [])
  one-more mid to rs r so step =
      let more : length (rs ++ r ∷ []) ≡ length rs + 1 = length-append rs (r ∷ []) in
      record {
        going = step.walk_step.going;
        walking = step.walk_step.walking;
        same_reference = step.walk_step.same_reference ∙ so.same_reference;
        stays = stays_then g from.file.store.now mid.file.store.now to.file.store.now so.stays
            step.walk_step.stays;
        moved = λ h k walked. subst (λ n. HasYielded g to.file h k n) (sym more)
            (step.moved h k (length rs) (so.moved h k walked));
        first = λ clean h k walked.
            let was = clean_before g mid.file.store.now to.file.store.now step.walk_step.stays clean
            in
            ap (λ x. x ++ r ∷ []) (so.first was h k walked)
            ∙ sym (take-next (h k) (length rs) r
            (step.step clean h k (length rs) (so.moved h k walked)))
            ∙ ap (λ n. take n (h k)) (sym more);
      }

  module _ (going : from.file.failed ≡ false) (walking : IsWalking g from.file) where
    all-given : (mid : At Walked (Records S Cursor) (Unit {0})) (rs : List DataRecord) →
        Gives (IsSourceStep g) from mid rs → HasGivenThese mid rs
    all-given mid rs gave = gives-all (IsSourceStep g) HasGivenThese one-more from mid [] rs
        (record {
          going = going;
          walking = walking;
          same_reference = refl;
          stays = stays_same g from.file.store.now;
          moved = λ h k walked. walked;
          first = λ clean h k walked. refl;
        }) gave

    module _ (to : At Walked (Records S Cursor) (Unit {0})) (whole : Measure) where
      at-end : (mid : At Walked (Records S Cursor) (Unit {0})) (rs : List DataRecord) →
          HasGivenThese mid rs → Answers (IsSourceStep g) mid to (Ok None) →
          HasCleanDisk (at g to.file.store.now) → (h : Holdings) (k : Key) →
          HasYielded g from.file h k 0 → rs ≡ h k
      at-end mid rs so end clean h k walked =
          let was = clean_before g mid.file.store.now to.file.store.now end.walk_step.stays clean in
          let all : length rs ≡ length (h k) = end.step clean h k (length rs) (so.moved h k walked)
          in
          so.first was h k walked ∙ take_all (length rs) (h k) (omega (arith, all))

      -- all were given, and went out
      module _ (Text : List DataRecord → Type 0)
          (s : SendsAll (IsSourceStep g) from to whole Text) where
        so-all : HasGivenThese s.mid s.records
        so-all = all-given s.mid s.records s.gave

        pub sent-leaves : EndsWalk g from.file to.file (λ state. state.in_transaction ≡ false)
        sent-leaves = leaves_on g _ from.file s.mid.file to.file _ so-all.same_reference
            so-all.stays s.end.walk_step (λ clean. (s.end.walk_step.walking clean).3.idle)

        pub sent-text : HasCleanDisk (at g to.file.store.now) → (h : Holdings) (k : Key) →
            HasYielded g from.file h k 0 → Text (h k)
        sent-text clean h k walked = subst Text
            (at-end s.mid s.records so-all s.end clean h k walked) s.wrote

      -- some were given, and no more went out
      module _ (mid : At Walked (Records S Cursor) (Unit {0})) (rs : List DataRecord)
          (so : HasGivenThese mid rs) where
        stays-on : (fault : SendFault StoreFault) →
            StopsFor (IsSourceStep g) from to whole mid rs fault →
            KeepsHoldings g mid.file.store.now to.file.store.now
        stays-on fault why = elim (asked (IsSourceStep g) from to whole mid rs fault why) [
          | inl same ↦ subst (λ x. KeepsHoldings g mid.file.store.now x.file.store.now) (sym same)
              (stays_same g mid.file.store.now)
          | inr (answer, is) ↦ is.walk_step.stays
        ]

        idle : (fault : SendFault StoreFault) →
            StopsFor (IsSourceStep g) from to whole mid rs fault →
            HasCleanDisk (at g to.file.store.now) →
            IsOutsideTransactionAfterFault (at g to.file.store.now) (export_fault_of fault)
        idle (Source fault) why clean = tt
        idle Unlike why clean = tt
        idle (Output fault) (inl same) clean = idle_after (at g to.file.store.now)
            (export_fault_of (Output fault))
            (subst (λ x. IsWalking g x.file) (sym same) so.walking clean).3.idle
        idle (Output fault) (inr end) clean = idle_after (at g to.file.store.now)
            (export_fault_of (Output fault)) (end.0.walk_step.walking clean).3.idle

        counts : (old new : ℕ) (fault : SendFault StoreFault) →
            StopsFor (IsSourceStep g) from to whole mid rs fault →
            CountsSendFault old new fault →
            IsWritingFaultOnAnyDisk ⊥ old new (export_fault_of fault)
        counts old new (Source fault) why counted = (
          counted,
          refusal_why _ _ _ ⊥ fault why.walk_step.why (λ busy. busy)
              (not_failed _ so.going),
        )
        counts old new Unlike why counted = (counted, tt)
        counts old new (Output Write) why counted = counted
        counts old new (Output Memory) why counted = counted

        module _ (clean : HasCleanDisk (at g to.file.store.now)) (h : Holdings) (k : Key)
            (walked : HasYielded g from.file h k 0) (measured : IsMeasured (h k) whole) where
          unlike : StopsFor (IsSourceStep g) from to whole mid rs Unlike → ⊥
          unlike (inl (r, step, not)) =
              let all = (one-more mid to rs r so step).first clean h k walked in
              let n : ℕ = length (rs ++ r ∷ []) in
              not (subst (λ x. MayBePrefix x whole) (sym all) (front_first (take n (h k))
              (drop n (h k)) (h k) whole (sym (take-append-drop n (h k))) measured))
          unlike (inr (end, not)) = not (subst (λ x. IsMeasured x whole)
              (sym (at-end mid rs so end clean h k walked)) measured)

          writing : (fault : SendFault StoreFault) →
              StopsFor (IsSourceStep g) from to whole mid rs fault →
              IsWritingFault (export_fault_of fault)
          writing (Source fault) why = is_store_refusal _ _ _ fault why.walk_step.why
              (λ unclean. unclean clean) (not_failed _ so.going)
          writing Unlike why = absurd (unlike why)
          writing (Output Write) why = tt
          writing (Output Memory) why = tt

          front-of : (fault : SendFault StoreFault) →
              StopsFor (IsSourceStep g) from to whole mid rs fault →
              (before after : Option (List ℕ)) (header : List ℕ) →
              WritesPrefix before after (planned_text header whole rs) →
              WritesPrefix before after (planned_text header whole (h k))
          front-of fault why before after header w =
              let was = clean_before g mid.file.store.now to.file.store.now (stays-on fault why)
              clean in
              let n : ℕ = length rs in
              let more : List DataRecord = drop n (h k) in
              front_more before after (planned_text header whole rs) (records_text whole more)
              (planned_text header whole (h k))
              (ap (planned_text header whole) (sym (take-append-drop n (h k))
              ∙ ap (λ x. x ++ more) (sym (so.first was h k walked)))
              ∙ planned_more header whole rs more) w

      module _ (Front : List DataRecord → Type 0) (fault : SendFault StoreFault)
          (s : StopsAfter (IsSourceStep g) from to whole Front fault) where
        so-some : HasGivenThese s.mid s.records
        so-some = all-given s.mid s.records s.gave

        pub stopped-leaves : EndsWalk g from.file to.file
            (λ state. IsOutsideTransactionAfterFault state (export_fault_of fault))
        stopped-leaves = record {
          same_reference = keeps (IsSourceStep g) from to whole s.mid s.records
              (λ x. x.file.store.ghost_name) (λ answer is. is.walk_step.same_reference) fault s.why
              ∙ so-some.same_reference;
          stays = stays_then g from.file.store.now s.mid.file.store.now to.file.store.now
              so-some.stays (stays-on s.mid s.records so-some fault s.why);
          after = idle s.mid s.records so-some fault s.why;
        }

        pub stopped-counts : (old new : ℕ) → CountsSendFault old new fault →
            IsWritingFaultOnAnyDisk ⊥ old new (export_fault_of fault)
        stopped-counts old new counted =
            counts s.mid s.records so-some old new fault s.why counted

      pub stopped-text : (fault : SendFault StoreFault) (before after : Option (List ℕ))
          (header : List ℕ) → StopsAfter (IsSourceStep g) from to whole
          (λ rs. WritesPrefix before after (planned_text header whole rs)) fault →
          HasCleanDisk (at g to.file.store.now) → (h : Holdings) (k : Key) →
          HasYielded g from.file h k 0 → IsMeasured (h k) whole →
          WritesPrefix before after (planned_text header whole (h k))
          × IsWritingFault (export_fault_of fault)
      stopped-text fault before after header s clean h k walked measured =
          let so = all-given s.mid s.records s.gave in (
            front-of s.mid s.records so clean h k walked measured fault s.why before after header
                s.prefix,
            writing s.mid s.records so clean h k walked measured fault s.why,
          )
