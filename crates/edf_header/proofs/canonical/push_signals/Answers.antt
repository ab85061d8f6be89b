use Rattle.std.proofs.Common.{◌≡◌, List, ℕ, length, ap, ◌∙◌, ◌++◌, ◌∷◌, []}
use Rattle.edf_header.specs.Signal.{columns, rows_of}
use Rattle.edf_header.specs.Canonical.{annotations_signal}
use Rattle.edf_header.proofs.CanonicalWritten.{row-length}
use Rattle.edf_header.proofs.canonical.push_signals.Goals as goal

pub unwrap-requires : goal.unwrap-requires
unwrap-requires c =
    c.as_array.ensures.variant.1 (ap length c.as_slice.ensures.value
    ∙ row-length c.args.samples c.in_ok-row.row.items c.requires.0 c.requires.1
    c.in_ok-row.ensures)

pub returns : goal.returns
returns c =
    let chunk = rw c.unwrap.ensures at c.as_array.ensures.cases in
    let same : c.unwrap.result.now ≡ annotations_signal c.args.samples = chunk.same
    ∙ c.as_slice.ensures.value ∙ c.in_ok-row.ensures in
    c.in_ok-push_columns.ensures ∙ ap (λ (l : List ℕ). c.args.out.now.items
    ++ columns (rows_of c.args.rows.now ++ l ∷ [])) same
