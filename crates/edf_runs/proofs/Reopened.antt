-- A header that is read again.
use Rattle.std.proofs.Common.{◌≡◌, ℕ, inl, inr, List, [], sym, ◌∙◌, subst, Option, Some}
use Rattle.edf_header.specs.Key.{Key}
use Rattle.edf_fragment.specs.Fragment.{DataRecord, IsFragmentFile}
use Rattle.edf_fragment.specs.Reading.{initial_progress}
use Rattle.edf_fragment.specs.declared.fault.FragmentFault.{FragmentFault}
use Rattle.edf_fragment.specs.declared.fault.FragmentFault.TheVariants.{Header as BadHeader}
use Rattle.edf_fragment.specs.declared.fault.FragmentFault.TheVariants.{Read as FailedRead}
use Rattle.edf_fragment.specs.declared.fault.FragmentFault.TheVariants.{Memory as NoMemory}
use Rattle.edf_fragment.proofs.Fragments.{fault_of_all, open_refused, reads_none}
use Rattle.edf_fragment.proofs.OneFragment.{spelled-no-fault}
use Rattle.edf_fragment.proofs.Sound.{read-front}
use Rattle.edf_runs.specs.Again.{IsNotReopened}
use Rattle.edf_runs.specs.declared.fault.WriteFault.{WriteFault}
use Rattle.edf_runs.specs.declared.fault.WriteFault.TheVariants.{Changed}

pub header-unchanged : (bytes : List ℕ) (rest : Option (List ℕ)) (k key : Key)
    (records : List DataRecord) (fault : WriteFault) → IsFragmentFile bytes k records → key ≡ k →
    IsNotReopened (Some bytes) rest key fault → fault ≡ Changed → ⊥
header-unchanged bytes rest k key records fault spells same why is =
    elim (subst (IsNotReopened (Some bytes) rest key) is why) [
      | inl (header, refused) ↦
          elim (fault_of_all bytes rest (BadHeader header)
          (open_refused (Some bytes) rest (BadHeader header) refused)) [
            | inl a ↦
                let e : ◌≡◌ {A = FragmentFault} (BadHeader header) FailedRead = a in
                absurd (let f = e in cc)
            | inr b ↦
                elim b [
                  | inl a ↦
                      let e : ◌≡◌ {A = FragmentFault} (BadHeader header) NoMemory = a in
                      absurd (let f = e in cc)
                  | inr f ↦ spelled-no-fault bytes k records (BadHeader header) spells f
                ]
          ]
      | inr (l, reads, other) ↦
          let front = read-front bytes rest rest l [] initial_progress k records reads
          (reads_none l rest) spells in
          other (sym front.0 ∙ sym same)
    ]
