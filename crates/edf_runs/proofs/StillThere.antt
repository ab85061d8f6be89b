-- An input that still has what starts when it is to is not told as one that changed.
use Rattle.std.proofs.Common.{◌≡◌, ◌≢◌, ℕ, List, [], ◌∷◌, ◌++◌, map, sym, ap, ◌∙◌}
use Rattle.std.proofs.Common.{append_assoc, append-nil, Option, Some, None, Result, Ok, Err}
use Rattle.std.proofs.Common.{inl, inr}
use Rattle.std.proofs.lemmas.List.{append_cancel_left}
use Rattle.edf_header.specs.Header.{Layout}
use Rattle.edf_fragment.specs.Fragment.{DataRecord}
use Rattle.edf_fragment.specs.Reading.{IsNextAnswer}
use Rattle.edf_fragment.specs.declared.advance.Progress.{Progress}
use Rattle.edf_fragment.specs.declared.fault.FragmentFault.{FragmentFault}
use Rattle.edf_fragment.proofs.Fragments.{one_more_read, all_read, refused_then, fragment_of_all}
use Rattle.edf_fragment.proofs.Fragments.{fault_of_all}
use Rattle.edf_fragment.proofs.OneFragment.{one-fragment, spelled-no-fault}
use Rattle.edf_fragment.proofs.Sound.{read-front}
use Rattle.edf_runs.specs.Again.{fault_again, StopsAt, IsFaultBy}
use Rattle.edf_runs.specs.Inside.Selecting.{HasRead, StillHas, IsNoEnd}
use Rattle.edf_runs.specs.declared.fault.WriteFault.{WriteFault}
use Rattle.edf_runs.specs.declared.fault.WriteFault.TheVariants.{Changed, Read, Memory}

module _ (l : Layout) (begin mid rest : Option (List ℕ)) (before : List DataRecord) (p q : Progress)
    (starts : List ℕ) (has : HasRead l begin mid before p) (still : StillHas l begin before starts)
  where
    -- no fault of form comes
    no-fault : (refused : FragmentFault) → IsNextAnswer l p q mid rest (Err refused) →
        fault_again refused ≢ Changed
    no-fault refused answer same = elim (fault_of_all still.bytes rest refused
        (refused_then l (Some still.bytes) begin mid rest before p q refused still.opens has.read
        has.going answer)) [
          | inl is ↦
              let e : ◌≡◌ {A = WriteFault} Read Changed = sym (ap fault_again is) ∙ same in
              absurd (let f = e in cc)
          | inr other ↦
              elim other [
                | inl is ↦
                    let e : ◌≡◌ {A = WriteFault} Memory Changed = sym (ap fault_again is) ∙ same in
                    absurd (let f = e in cc)
                | inr first ↦ spelled-no-fault still.bytes still.key (before ++ still.later) refused
                    still.spells first
              ]
        ]

    -- the next data record is the next one of the file
    next-is : (r : DataRecord) → IsNextAnswer l p q mid rest (Ok (Some r)) →
        (more : List DataRecord) × (still.later ≡ r ∷ more)
    next-is r answer =
        let read = one_more_read l begin mid rest before p q r has.read has.going answer in
        let front = read-front still.bytes begin rest l (before ++ r ∷ []) q still.key
        (before ++ still.later) still.opens read.0 still.spells in
        let more = front.1.0 in (
          more,
          append_cancel_left before still.later (r ∷ more)
              (front.1.1 ∙ append_assoc before (r ∷ []) more),
        )

    -- at the end no data record is left
    none-is : IsNextAnswer l p q mid rest (Ok None) → still.later ≡ []
    none-is answer =
        let read = all_read l (Some still.bytes) begin mid rest before p q still.opens has.read
        has.going answer in
        let same = (one-fragment still.bytes still.key l.key (before ++ still.later) before
        still.spells (fragment_of_all still.bytes rest l before read)).records in
        append_cancel_left before still.later [] (same ∙ sym (append-nil before))

    starts-next : (instant : ℕ) (later : List ℕ) (r : DataRecord) (more : List DataRecord) →
        starts ≡ instant ∷ later → still.later ≡ r ∷ more → r.start ≡ instant
    starts-next instant later r more is parts =
        let e : r.start ∷ map (λ (x : DataRecord). x.start) more ≡ instant ∷ later =
        ap (λ (rs : List DataRecord). map (λ (x : DataRecord). x.start) rs) (sym parts)
        ∙ still.starts_are ∙ is in cc

    pub still-next : (instant : ℕ) (later : List ℕ) (fault : WriteFault) →
        starts ≡ instant ∷ later →
        StopsAt l p q mid rest instant fault → fault ≢ Changed
    still-next instant later fault is stops = by-answer stops.answer stops.is_answer stops.why
      where
        by-answer : (answer : Result (Option DataRecord) FragmentFault) →
            IsNextAnswer l p q mid rest answer → IsFaultBy instant answer fault → fault ≢ Changed
        by-answer (Ok (Some r)) answer why same =
            let next = next-is r answer in
            why.1 (starts-next instant later r next.0 is next.1)
        by-answer (Ok None) answer why same =
            let e : ◌≡◌ {A = List ℕ} [] (instant ∷ later) =
            ap (λ (rs : List DataRecord). map (λ (x : DataRecord). x.start) rs)
            (sym (none-is answer)) ∙ still.starts_are ∙ is in cc
        by-answer (Err refused) answer why same = no-fault refused answer (sym why ∙ same)

    pub still-end : (answer : Result (Option DataRecord) FragmentFault) (fault : WriteFault) →
        starts ≡ [] → IsNextAnswer l p q mid rest answer → IsNoEnd answer fault → fault ≢ Changed
    still-end (Ok (Some r)) fault is answer why same =
        let next = next-is r answer in
        let e : ◌≡◌ {A = List ℕ} (r.start ∷ map (λ (x : DataRecord). x.start) next.0) [] =
        ap (λ (rs : List DataRecord). map (λ (x : DataRecord). x.start) rs) (sym next.1)
        ∙ still.starts_are ∙ is in cc
    still-end (Ok None) fault is answer why same = absurd why
    still-end (Err refused) fault is answer why same = no-fault refused answer (sym why ∙ same)
