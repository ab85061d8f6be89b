use Rattle.std.proofs.Common.{rules, List, ◌≡◌, ◌∙◌, of_z, w64, pos, refl, sym, ap}
use Rattle.sqlite_value.specs.declared.value.Value.TheVariants.{Blob}
use Rattle.edf_tal.specs.Tal.{Annotation}
use Rattle.edf_rows.specs.Inside.Shape.{OwnBlock}
use Rattle.edf_rows.proofs.RowCells.{row-of, bad-starts, same-cell}
use Rattle.edf_rows.proofs.cells.check_row.Goals as goal

pub returns-then-start_of-start : goal.returns-then-start_of-start
returns-then-start_of-start c =
    let own : (list : List Annotation) × OwnBlock c.args.block.now c.in-Some.instant list =
    search rules in (
      record { start = c.in-Some.instant; samples = c.args.samples.now; annotations = own.0 },
      refl,
      rw (sym (same-cell _ c.args.start (search rules) c.ranges.start
          (rw c.start_of.ensures at c.if-start_of-start.true)))
          (row-of c.args.identity.now _ c.args.samples.now c.args.block.now _ own.1 (search rules)),
    )

pub returns-else-start_of-start : goal.returns-else-start_of-start
returns-else-start_of-start c =
    let own : (list : List Annotation) × OwnBlock c.args.block.now c.in-Some.instant list =
    search rules in
    let cell : c.start_of.result ≡ pos c.in-Some.instant = search rules in
    bad-starts c.args.identity.now c.args.start (Blob c.args.samples.now) c.args.block.now
    c.in-Some.instant own.0 own.1 (λ same.
    c.if-start_of-start.false (ap (of_z w64) (cell ∙ same)))
