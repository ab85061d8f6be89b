use Rattle.std.proofs.Common.{List, ℕ, [], arith, ap, sym, get_or, length, ◌∙◌}
use Rattle.edf_header.proofs.RowSteps.{length-signals, row-at}
use Rattle.edf_header.proofs.columns.Columns.row.Goals as goal

pub signal_row-requires-clause-inside : goal.signal_row-requires-clause-inside
signal_row-requires-clause-inside c = omega (
  arith,
  ap length c.self.view_is,
  length-signals c.self.inside.bytes.now c.self.inside.count,
)

pub returns : goal.returns
returns c =
    c.signal_row.ensures
    ∙ sym (row-at c.self.inside.bytes.now c.self.inside.count c.args.i (omega (
      arith,
      ap length c.self.view_is,
      length-signals c.self.inside.bytes.now c.self.inside.count,
    )))
    ∙ ap (λ (ss : List (List ℕ)). get_or ss c.args.i []) c.self.view_is
