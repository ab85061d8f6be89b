use Rattle.std.proofs.Common.{rules, None}
use Rattle.edf_rows.proofs.RowCells.{IsGiven, given-no_block, given-made, given-some, given-none}
use Rattle.edf_rows.proofs.RowCells.{row-gives}
use Rattle.edf_rows.proofs.cells.record_from.Goals as goal

pub returns-in_default : goal.returns-in_default
returns-in_default c =
    let given : IsGiven c.args.samples.items c.args.block.now None =
    given-no_block _ _ (search rules) in
    record {
      read = given-some _ _ _ given;
      none = given-none _ _ _ given;
      row = λ k r start key is. (given-some _ _ _ given r).1 (row-gives k r start _ _ key is);
    }

pub returns : goal.returns
returns c =
    let given : IsGiven c.args.samples.items c.args.block.now c.new.result =
    given-made _ _ c.in-Some.start c.in-Some.notes.items _ (search rules) (search rules) in
    record {
      read = given-some _ _ _ given;
      none = given-none _ _ _ given;
      row = λ k r start key is. (given-some _ _ _ given r).1 (row-gives k r start _ _ key is);
    }
