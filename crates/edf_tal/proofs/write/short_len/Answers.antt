use Rattle.std.proofs.Common.{subst, sym, ◌≤◌, ℕ}
use Rattle.edf_time.proofs.Cited.{length-short-window}
use Rattle.edf_tal.proofs.write.short_len.Goals as goal

pub returns-clause-bound : goal.returns-clause-bound
returns-clause-bound c = subst (λ (n : ℕ). n ≤ 20) (sym c.seconds_len.ensures)
    (length-short-window c.args.nanos c.requires)
