-- What is answered where something is told.
use Rattle.std.proofs.Common.{◌≡◌, ◌≢◌, ◌⊎◌, ℕ, List, [], inl, inr, refl, subst, suc, ◌++◌, ◌∷◌}
use Rattle.std.proofs.Common.{ap, ◌∙◌, arith, append_assoc, replicate}
use Rattle.std.specs.Prelude.{Option}
use Rattle.edf_fragment.specs.declared.fault.FragmentFault.{FragmentFault}
use Rattle.edf_fragment.specs.declared.fault.FragmentFault.TheVariants.{Memory}
use Rattle.edf_cli.specs.Output.{OutputChange, Gets, IsWritten}
use Rattle.edf_cli.specs.Text.{memory_line}
use Rattle.edf_cli.specs.declared.status.Status.{Status}
use Rattle.edf_cli.specs.declared.status.Status.TheVariants.{Done, Trouble}
use Rattle.edf_runs.specs.declared.fault.WriteFault.{WriteFault}
use Rattle.edf_runs.specs.declared.fault.WriteFault.TheVariants.{Undated}
use Rattle.edf_runs.specs.Written.{CountsFault}
use Rattle.edf_fragment.specs.Fault.{fragment_fault_number}
use Rattle.edf_cli.proofs.Undone.{undone, trouble-undone, number-undone}
use Rattle.edfruns_command.specs.Inside.{OpensUpTo}
use Rattle.edfruns_command.specs.Canonical.{CountsWrite}
use Rattle.edfruns_command.specs.Lines.{file_refused_line, file_refused_status}
use Rattle.edfruns_command.specs.Listing.{HasFault, RefusesFile, LacksMemory, OpensAgain}

-- a file was refused, or there was no memory for it
pub refused : (out err : OutputChange) (bytes : Option (List ℕ)) (name : List ℕ)
    (fault : FragmentFault)
    (status : Status) → Gets out [] → HasFault bytes fault ⊎ (fault ≡ Memory) →
    IsWritten err (file_refused_line name fault) (file_refused_status fault) status
    ⊎ IsWritten err (memory_line name) Trouble status →
    RefusesFile out err bytes name status ⊎ LacksMemory out err bytes name status
refused out err bytes name fault status nothing (inl met) (inl said) =
    inl (record { fault = fault; met = met; said = (nothing, said) })
refused out err bytes name fault status nothing (inr e) (inl said) = inr (
  nothing,
  subst (λ (f : FragmentFault). IsWritten err (file_refused_line name f) (file_refused_status f)
      status) e said,
)
refused out err bytes name fault status nothing met (inr said) = inr (nothing, said)

-- ---- how often a name was opened

pub opened-again : (before mid after : List (List ℕ)) (name : List ℕ) (status : Status) →
    mid ≡ before ++ (name ∷ []) → OpensUpTo mid after name 1 → status ≢ Done →
    OpensAgain before after name 2 status
opened-again before mid after name status first then undone = record {
  times = suc then.times;
  few = omega (arith, then.few);
  opened = then.opened ∙ ap (λ (l : List (List ℕ)). l ++ replicate then.times name) first
      ∙ append_assoc before (name ∷ []) (replicate then.times name);
  all = λ done. absurd (undone done);
}

pub opened-twice : (before mid after : List (List ℕ)) (name : List ℕ) (status : Status) →
    mid ≡ before ++ (name ∷ []) → after ≡ mid ++ (name ∷ []) →
    OpensAgain before after name 2 status
opened-twice before mid after name status first then = record {
  times = 2;
  few = omega arith;
  opened = then ∙ ap (λ (l : List (List ℕ)). l ++ (name ∷ [])) first
      ∙ append_assoc before (name ∷ []) (name ∷ []);
  all = λ done. refl;
}

pub opened-first : (before after : List (List ℕ)) (name : List ℕ) (status : Status) →
    after ≡ before ++ (name ∷ []) → status ≢ Done → OpensAgain before after name 2 status
opened-first before after name status first undone =
    record { times = 1; few = omega arith; opened = first; all = λ done. absurd (undone done) }

-- ---- a refusal is no success

pub file-undone : (err : OutputChange) (name : List ℕ) (met : FragmentFault) (status : Status) →
    IsWritten err (file_refused_line name met) (file_refused_status met) status
    ⊎ IsWritten err (memory_line name) Trouble status → status ≢ Done
file-undone err name met status (inl said) done =
    undone err (file_refused_line name met) (file_refused_status met) status
    (number-undone (fragment_fault_number met)) said done
file-undone err name met status (inr said) done =
    trouble-undone err (memory_line name) status said done

-- ---- failed writes

pub counts-write : (w : OutputChange) (old new : ℕ) (why : WriteFault) →
    CountsFault old new w.failed_before w.failed_after why → CountsWrite w why
counts-write w old new Undated counts = counts.1
counts-write w old new why counts = counts.1

pub opened-refused : (before after : List (List ℕ)) (name : List ℕ) (status : Status) →
    OpensUpTo before after name 1 → status ≢ Done → OpensAgain before after name 2 status
opened-refused before after name status up undone = record {
  times = up.times;
  few = omega (arith, up.few);
  opened = up.opened;
  all = λ done. absurd (undone done);
}
