-- What is told with another status than `Done` is no success.
use Rattle.std.proofs.Common.{◌≡◌, ◌≢◌, ℕ, List, Bool, true, false, sym, ◌∙◌, inl, inr}
use Rattle.std.specs.Prelude.{if◌then◌else◌}
use Rattle.edf_cli.specs.Output.{OutputChange, IsWritten}
use Rattle.edf_cli.specs.Status.{is_trouble, status_of_number}
use Rattle.edf_cli.specs.declared.status.Status.{Status}
use Rattle.edf_cli.specs.declared.status.Status.TheVariants.{Done, Refused, Trouble}

pub undone : (w : OutputChange) (bytes : List ℕ) (wanted status : Status) → wanted ≢ Done →
    IsWritten w bytes wanted status → status ≢ Done
undone w bytes wanted status not (inl whole) done = not (sym whole.1 ∙ done)
undone w bytes wanted status not (inr front) done = let a = front.1 in cc

pub refused-undone : (w : OutputChange) (bytes : List ℕ) (status : Status) →
    IsWritten w bytes Refused status → status ≢ Done
refused-undone w bytes status = undone w bytes Refused status (λ done. cc)

pub trouble-undone : (w : OutputChange) (bytes : List ℕ) (status : Status) →
    IsWritten w bytes Trouble status → status ≢ Done
trouble-undone w bytes status = undone w bytes Trouble status (λ done. cc)

pub either-undone : (b : Bool) → (if b then Trouble else Refused) ≢ Done
either-undone true done = cc
either-undone false done = cc

-- a refusal by a number
pub number-undone : (n : ℕ) → status_of_number n ≢ Done
number-undone n = either-undone (is_trouble n)

-- what is told as trouble is trouble
pub trouble-told : (w : OutputChange) (bytes : List ℕ) (status : Status) →
    IsWritten w bytes Trouble status → status ≡ Trouble
trouble-told w bytes status (inl whole) = whole.1
trouble-told w bytes status (inr front) = front.1
