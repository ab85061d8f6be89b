use Rattle.std.proofs.Common.{◌++◌, ℕ, List, ap, ◌∙◌}
use Rattle.edfruns_command.specs.Naming.{first_names}
use Rattle.edfruns_command.proofs.split_command.asked_names.Goals as goal

pub returns : goal.returns
returns c = c.in_ok-push_first_names.ensures
    ∙ ap (λ (l : List (List ℕ)). l ++ first_names c.args.prefix.now) c.in_ok-asked.ensures
