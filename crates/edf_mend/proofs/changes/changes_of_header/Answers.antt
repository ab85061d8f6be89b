use Rattle.std.proofs.Common.{◌∙◌, ◌++◌, List, ap}
use Rattle.edf_mend.specs.Changes.{FieldChange, changes_of_fixed, changes_of_signals}
use Rattle.edf_mend.proofs.changes.changes_of_header.Goals as goal

pub returns : goal.returns
returns c =
    let h = c.args.headers.now in
    let signals = changes_of_signals h.n h.second.now h.count h.strict_signals.now h.n in
    c.in_ok-push_signals.ensures
    ∙ ap (λ (l : List FieldChange). l ++ signals) c.in_ok-push_fixed.ensures
    ∙ ap (λ (l : List FieldChange). (l ++ changes_of_fixed h.first.now h.strict.now) ++ signals)
    c.new-out.ensures.items
