use Rattle.std.proofs.Common.{sym, ◌++◌, ◌∷◌, []}
use Rattle.std.proofs.lemmas.List.{append-nil}
use Rattle.edf_header.specs.Fields.{fields}
use Rattle.edf_header.specs.Signal.{column_of, rows_of}
use Rattle.edf_header.proofs.RowSteps.{parts-step, parts-end}
use Rattle.edf_header.proofs.columns.push_columns.Goals as goal

pub loop-at-init : goal.loop-at-init
loop-at-init c = sym (append-nil c.args.out.now.items)

pub loop-at-preserved : goal.loop-at-preserved
loop-at-preserved c =
    parts-step (λ f. column_of f (rows_of c.args.rows.now ++ c.args.last.now ∷ [])) fields
    c.loop-at.at-index (0, 0) c.args.out.now.items c.loop-at.out.items
    c.push_column.new.out.items c.loop-at-test.true c.loop-at.invariant
    c.in_ok-push_column.ensures

pub returns : goal.returns
returns c =
    parts-end (λ f. column_of f (rows_of c.args.rows.now ++ c.args.last.now ∷ [])) fields
    c.loop-at.at-index c.args.out.now.items c.loop-at.out.items c.loop-at-test.false
    c.loop-at.invariant
