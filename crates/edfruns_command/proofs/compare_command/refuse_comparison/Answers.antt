use Rattle.std.proofs.Common.{sym, subst, inr}
use Rattle.edf_cli.proofs.Undone.{trouble-told}
use Rattle.edf_runs.specs.declared.compared.CompareFault.{CompareFault}
use Rattle.edfruns_command.specs.Answering.{Answers}
use Rattle.edfruns_command.specs.Comparing.{fault_status}
use Rattle.edfruns_command.proofs.Statuses.{printed, printed-either}
use Rattle.edfruns_command.proofs.compare_command.refuse_comparison.Goals as goal

pub returns-in-First : goal.returns-in-First
returns-in-First g c = subst (λ (f : CompareFault). Answers (fault_status f) c.refuse.result)
    (sym c.in-First.is) (printed-either _ _ _ _ _ c.refuse.ensures)

pub returns-in-Second : goal.returns-in-Second
returns-in-Second g c =
    subst (λ (f : CompareFault). Answers (fault_status f) c.refuse-in-Second.result)
    (sym c.in-Second.is) (printed-either _ _ _ _ _ c.refuse-in-Second.ensures)

pub returns-in-Ok : goal.returns-in-Ok
returns-in-Ok g c = subst (λ (f : CompareFault). Answers (fault_status f) c.print_parts.result)
    (sym c.in-Other.is) (printed _ _ _ _ c.print_parts.ensures)

pub returns-in-Other : goal.returns-in-Other
returns-in-Other g c = subst (λ (f : CompareFault). Answers (fault_status f) c.print_memory.result)
    (sym c.in-Other.is) (inr (trouble-told _ _ _ c.print_memory.ensures))

pub returns : goal.returns
returns g c =
    subst (λ (f : CompareFault). Answers (fault_status f) c.print_memory-in-Memory.result)
    (sym c.in-Memory.is) (printed _ _ _ _ c.print_memory-in-Memory.ensures)
