use Rattle.std.proofs.Common.{rules, ◌≡◌, true, subst}
use Rattle.std.specs.Bool.{Decides}
use Rattle.std.proofs.lemmas.Slice.Eq.{slice_eq-Decides}
use Rattle.edf_runs.specs.declared.run.Run.{Run}
use Rattle.edf_runs.specs.contracts.run.RunPartialEq.TheImpl.{eq-value}
use Rattle.edfruns_command.proofs.Unchanged.{same-run}
use Rattle.edfruns_command.proofs.picture_command.are_same.Goals as goal

itself : (r : Run) → eq-value.it r r ≡ true
itself r = search rules

alike : (r s : Run) → eq-value.it r s ≡ true → r ≡ s
alike r s t = same-run r s (search rules) (search rules) (search rules) (search rules)

decides : (r s : Run) → Decides (eq-value.it r s) (r ≡ s)
decides r s = (alike r s, λ e. subst (λ (x : Run). eq-value.it r x ≡ true) e (itself r))

pub returns : goal.returns
returns c =
    let d = slice_eq-Decides decides c.args.runs.now c.args.others.now c.eq.result c.eq.ensures in
    (λ t. d.0 (search rules), λ e. let t = d.1 e in search rules)
