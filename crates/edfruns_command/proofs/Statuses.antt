-- What is true of a status, by the line that was printed.
use Rattle.std.proofs.Common.{◌≡◌, ◌≢◌, ◌⊎◌, List, ℕ, inl, inr, sym, subst, ◌∙◌}
use Rattle.std.specs.Prelude.{Bool, true, false, if◌then◌else◌, Option}
use Rattle.edf_fragment.specs.Fault.{fragment_fault_number}
use Rattle.edf_fragment.specs.declared.fault.FragmentFault.{FragmentFault}
use Rattle.edf_fragment.specs.declared.fault.FragmentFault.TheVariants.{Memory}
use Rattle.edf_cli.specs.Output.{OutputChange, IsWritten}
use Rattle.edf_cli.specs.Status.{is_trouble}
use Rattle.edf_cli.specs.Text.{memory_line}
use Rattle.edf_cli.specs.declared.status.Status.{Status}
use Rattle.edf_cli.specs.declared.status.Status.TheVariants.{Done, Refused, Trouble}
use Rattle.edf_cli.proofs.Undone.{trouble-told}
use Rattle.edfruns_command.specs.Answering.{Answers}
use Rattle.edfruns_command.specs.Lines.{file_refused_line, file_refused_status}
use Rattle.edfruns_command.specs.Listing.{HasFault}

pub printed : (w : OutputChange) (line : List ℕ) (intended status : Status) →
    IsWritten w line intended status → Answers intended status
printed w line intended status (inl said) = inl said.1
printed w line intended status (inr failed) = inr failed.1

pub printed-either : (w : OutputChange) (line other : List ℕ) (intended status : Status) →
    IsWritten w line intended status ⊎ IsWritten w other Trouble status → Answers intended status
printed-either w line other intended status (inl said) = printed w line intended status said
printed-either w line other intended status (inr said) = inr (trouble-told w other status said)

either : (b : Bool) (status : Status) → Answers (if b then Trouble else Refused) status →
    Answers Refused status
either true status (inl trouble) = inr trouble
either true status (inr trouble) = inr trouble
either false status is = is

pub unsuccessful : (status : Status) → Answers Refused status → status ≢ Done
unsuccessful status (inl refused) done = cc
unsuccessful status (inr trouble) done = cc

refused-by : (intended status : Status) → Answers intended status → status ≡ Refused →
    intended ≡ Refused
refused-by intended status (inl same) is = sym same ∙ is
refused-by intended status (inr trouble) is = cc

-- ---- what is true of both statuses that may be answered is true of the one that is

pub by-status : (P : Status → Type 0) (intended status : Status) → Answers intended status →
    (status ≡ intended → P intended) → P Trouble → P status
by-status P intended status (inl is) one trouble = subst P (sym is) (one is)
by-status P intended status (inr is) one trouble = subst P (sym is) trouble

pub by-fault : (P : Status → Type 0) (w : OutputChange) (bytes : Option (List ℕ)) (name : List ℕ)
    (fault : FragmentFault) (status : Status) → HasFault bytes fault ⊎ (fault ≡ Memory) →
    IsWritten w (file_refused_line name fault) (file_refused_status fault) status
    ⊎ IsWritten w (memory_line name) Trouble status →
    (HasFault bytes fault → file_refused_status fault ≡ Refused → P Refused) →
    P Trouble → P status
by-fault P w bytes name fault status (inl met) said one trouble =
    let answers = printed-either w (file_refused_line name fault) (memory_line name)
    (file_refused_status fault) status said in
    by-status P Refused status (either (is_trouble (fragment_fault_number fault)) status answers)
    (λ is. one met (refused-by (file_refused_status fault) status answers is)) trouble
by-fault P w bytes name fault status (inr memory) said one trouble = by-status P Trouble status
    (subst (λ (f : FragmentFault). Answers (file_refused_status f) status) memory
    (printed-either w (file_refused_line name fault) (memory_line name) (file_refused_status fault)
    status said)) (λ is. trouble) trouble
