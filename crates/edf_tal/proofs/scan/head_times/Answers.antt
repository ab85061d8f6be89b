use Rattle.std.proofs.Common.{ℕ, ℤ, List, subst, Option}
use Rattle.std.specs.Prelude.{MatchOption}
use Rattle.edf_tal.specs.Inside.Scan.{IsOnsetAndDuration, IsCappedOnset, IsCappedDuration}
use Rattle.edf_tal.specs.declared.scan.Times.{Times}
use Rattle.edf_tal.proofs.Heads.{head-apart}
use Rattle.edf_tal.proofs.scan.head_times.Goals as goal

pub returns-in-len1-up : goal.returns-in-len1-up
returns-in-len1-up c =
    subst (λ (h : List ℕ). MatchOption c.signed_times.result ((z : ℤ) (d : Option ℕ) →
    ¬ IsOnsetAndDuration h z d) (λ (t : Times). (z : ℤ) × (d : Option ℕ) × IsOnsetAndDuration h z d
    × IsCappedOnset t.ahead t.onset z × IsCappedDuration t.duration d))
    (head-apart c.args.head.now c.in-len1-up.len_at_least) c.signed_times.ensures
