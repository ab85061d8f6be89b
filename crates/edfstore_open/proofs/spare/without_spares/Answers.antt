use Rattle.std.proofs.Common.{◌≡◌, ◌≤◌, ◌∙◌, false, None, Ok, Err, sym, ap, subst}
use Rattle.sqlite.specs.Files.{file_state}
use Rattle.sqlite.specs.State.{IsUnchanged, QueriesRow}
use Rattle.sqlite_trees.specs.View.{doubt}
use Rattle.edfstore_files.specs.ProgramRun.{IsOpening}
use Rattle.edfstore_open.proofs.Interrupted.{interrupted, unchanged, opening_after}
use Rattle.edfstore_open.proofs.spare.without_spares.Goals as goal

pub returns-clause-opening : goal.returns-clause-opening
returns-clause-opening g c start opening =
    let asked = c.query_row-answer in
    let first = c.set_step_limit.ensures in
    let told : asked.result ≡ Err interrupted =
    c.in-Err.is ∙ ap Err (c.is_interrupted.ensures c.if-not-is_interrupted.false) in
    let after = opening_after c.args.conn asked.new.self _ None start
    (λ idle. asked.ensures.mode
    (subst (λ h. h.in_transaction ≡ false) (sym first) idle))
    (subst (λ h. doubt (file_state h).is_clean ≤ doubt (file_state asked.new.self).is_clean)
    first asked.ensures.survives.clean)
    (λ clean. subst (λ h. IsUnchanged (file_state h) (file_state asked.new.self)) first
    (unchanged _ _ _ _ (subst (QueriesRow _ _ _ _) told (asked.ensures.row clean))))
    opening in
    subst (λ h. IsOpening {g = g.D.Disk} start (Ok h)) (sym c.set_step_limit-2.ensures) after
