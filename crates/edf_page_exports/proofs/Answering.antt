-- The answers to a call, by how it went.
use Rattle.std.proofs.Common.{◌≡◌, ◌⊎◌, ℕ, ◌≤◌, ◌<◌, List, length, inl, inr, refl}
use Rattle.std.proofs.Common.{Result, Ok, Err, IfOk}
use Rattle.std.specs.Prelude.{IsOkAnd}
use Rattle.edf_page.specs.Programs.{pieces_of_ran}
use Rattle.edf_page.specs.declared.programs.Ran.{Ran}
use Rattle.edf_page.specs.declared.stopped.Stopped.{Stopped}
use Rattle.edf_page.specs.declared.stopped.Stopped.TheVariants.{Memory}
use Rattle.edf_page_exports.specs.Laid.{IsAnswer, AreLaid, HaveNoRoom, Stays, TellsWhy}

module _ (out out' parts parts' : List ℕ) (IsCall : Type 0) (Come : List (List ℕ) → Type 0)
    (MayStop : Stopped → Type 0) (answer : ℕ) where
  pub has-no-two : answer ≡ 3 → Stays out out' parts parts' → length parts < 2 →
      IsAnswer out out' parts parts' IsCall Come MayStop answer
  has-no-two is stays few = inr (inr (inr (is, stays, inl few)))

  pub is-none : answer ≡ 3 → Stays out out' parts parts' → ¬ IsCall →
      IsAnswer out out' parts parts' IsCall Come MayStop answer
  is-none is stays none = inr (inr (inr (is, stays, inr none)))

  pub stops : (stopped : Stopped) → 2 ≤ length parts → answer ≡ 2 → MayStop stopped →
      TellsWhy out out' parts parts' stopped →
      IsAnswer out out' parts parts' IsCall Come MayStop answer
  stops stopped two is may tells = inr (inr (inl (is, two, (stopped, may, tells))))

  pub refuses : (NoCall : Type 0) → 2 ≤ length parts → (NoCall → ¬ IsCall) → MayStop Memory →
      (NoCall × (answer ≡ 3) × Stays out out' parts parts')
      ⊎ ((answer ≡ 2) × TellsWhy out out' parts parts' Memory) →
      IsAnswer out out' parts parts' IsCall Come MayStop answer
  refuses NoCall two none may (inl p) = is-none p.1 p.2 (none p.0)
  refuses NoCall two none may (inr p) = stops Memory two p.0 may p.1

  pub gives : (pieces : List (List ℕ)) → 2 ≤ length parts → Come pieces →
      ((answer ≡ 0) × AreLaid out out' parts parts' pieces)
      ⊎ ((answer ≡ 1) × HaveNoRoom out out' parts parts' pieces) →
      IsAnswer out out' parts parts' IsCall Come MayStop answer
  gives pieces two come (inl p) = inl (p.0, two, (pieces, come, p.1))
  gives pieces two come (inr p) = inr (inl (p.0, two, (pieces, come, p.1)))

  -- what a program did was given, if memory was enough
  pub ran-gives : {E : Type 0} (P : Ran → Type 0) (ran : Result Ran E) → 2 ≤ length parts →
      MayStop Memory → IfOk ran P → ((r : Ran) → P r → Come (pieces_of_ran r)) →
      ((answer ≡ 2) × TellsWhy out out' parts parts' Memory)
      ⊎ IsOkAnd ran (λ r. ((answer ≡ 0) × AreLaid out out' parts parts' (pieces_of_ran r))
      ⊎ ((answer ≡ 1) × HaveNoRoom out out' parts parts' (pieces_of_ran r))) →
      IsAnswer out out' parts parts' IsCall Come MayStop answer
  ran-gives P ran two may is come (inl p) = stops Memory two p.0 may p.1
  ran-gives P (Ok r) two may is come (inr given) = gives (pieces_of_ran r) two (come r is) given
  ran-gives P (Err why) two may is come (inr given) = absurd given
