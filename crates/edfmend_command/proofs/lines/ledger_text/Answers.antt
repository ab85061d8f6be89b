use Rattle.std.proofs.Common.{◌≡◌, ◌==◌, ℕ, List, length, subst, sym, ap, ◌∙◌, arith}
use Rattle.std.proofs.lemmas.Bool.{false≢true}
use Rattle.edf_mend.specs.Changes.{FieldChange}
use Rattle.edfmend_command.specs.Run.{AreLines}
use Rattle.edfmend_command.proofs.LineByLine.{ledger-left, ledger-some}
use Rattle.edfmend_command.proofs.lines.ledger_text.Goals as goal

pub returns-then-mended-ne0 : goal.returns-then-mended-ne0
returns-then-mended-ne0 c =
    let m = c.args.mended.now in
    ledger-left c.args.is_good c.args.file.now m.changes.items m.left_out c.in_ok-text.text.items _
    _ (subst (λ (l : List FieldChange). AreLines (length l) c.in_ok-text.text.items)
    c.as_slice.ensures.value c.in_ok-text.ensures) c.if-mended-ne0.true c.in_ok-push_line.ensures

pub returns : goal.returns
returns c =
    let m = c.args.mended.now in
    ledger-some c.args.is_good c.args.file.now m.changes.items m.left_out c.in_ok-text.text.items
    (subst (λ (l : List FieldChange). AreLines (length l) c.in_ok-text.text.items)
    c.as_slice.ensures.value c.in_ok-text.ensures) c.if-mended-ne0.false
    (λ (empty : length m.changes.items ≡ 0). false≢true (sym c.if-is_empty.false
    ∙ c.is_empty.ensures
    ∙ ap (λ (n : ℕ). n == 0)
    (let e : m.changes.len ≡ 0 = omega (arith, empty, m.changes.ok.0) in e)))
