-- Calls that read an input: the answer, and the input after it.
use Rattle.std.specs.Prelude.{◌≡◌, ℕ, List, Option, Result, MatchResult, IfOk, IfSome}
use Rattle.edf_fragment.specs.Fragment.{DataRecord}
use Rattle.edf_fragment.specs.Sound.{IsSoundRecord}
use Rattle.edf_fragment.specs.Reading.{CountsReadFailures, IsNextAnswer}
use Rattle.edf_fragment.specs.declared.fault.FragmentFault.{FragmentFault}
use Rattle.edf_fragment.specs.declared.open_fragment.OpenFragment.{OpenFragment}
use Rattle.edf_fragment.specs.declared.streams.Input.{Ghosts}

-- the bytes that remain, where these are known, and how many reads failed so far
pub record InputState : Type 0 where
  pub remaining : Option (List ℕ)
  pub failed : ℕ

abbrev pub input_state : {R : Type 0} → Ghosts R → R → InputState
input_state g input = record { remaining = g.remaining input; failed = g.failures input }

-- `Says` holds of the input before and after, and of the answer; and the count of failed reads is
-- one more where the answer is `Err Read`, else the same
pub record ReadsInput {X : Type 0}
    (Says : Option (List ℕ) → Option (List ℕ) → Result X FragmentFault → Type 0)
    (before after : InputState) (result : Result X FragmentFault) : Type 0 where
  pub step : Says before.remaining after.remaining result
  pub counted : CountsReadFailures before.failed after.failed result

-- of an answer `Ok x` the first holds, of `Err fault` the second
abbrev pub ValueOrFault : {X : Type 0} → (Option (List ℕ) → Option (List ℕ) → X → Type 0) →
    (Option (List ℕ) → Option (List ℕ) → FragmentFault → Type 0) →
    Option (List ℕ) → Option (List ℕ) → Result X FragmentFault → Type 0
ValueOrFault Value Fault input rest result =
    MatchResult result (Value input rest) (Fault input rest)

-- the answer of `next`; the header is unchanged, and a record that is returned is one of its key
pub record ReadsNext (old new : OpenFragment) (before after : InputState)
    (result : Result (Option DataRecord) FragmentFault) : Type 0 where
  pub header : new.header ≡ old.header
  pub answer : IsNextAnswer old.header old.progress new.progress before.remaining after.remaining
      result
  pub sound : IfOk result (λ next. IfSome next (λ r. IsSoundRecord old.header.key r))
  pub counted : CountsReadFailures before.failed after.failed result
