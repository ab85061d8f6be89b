use Rattle.std.proofs.Common.{List, ℕ, sym, subst, rules}
use Rattle.std.specs.Prelude.{MatchResult}
use Rattle.edf_tal.specs.Block.{BlocksHaveFirstFault}
use Rattle.edf_tal.specs.Inside.Blocks.{HaveSums, IsChecked}
use Rattle.edf_tal.specs.declared.check.Checked.{Checked}
use Rattle.edf_tal.proofs.Cuts.{cut-first}
use Rattle.edf_tal.proofs.check.check_blocks.Goals as goal

pub returns-in_err-sums : goal.returns-in_err-sums
returns-in_err-sums c = let told = c.in_err-sums.ensures c.args.place in search rules

pub check_tals-requires : goal.check_tals-requires
check_tals-requires c =
    let parts = cut-first c.args.sizes.now c.args.block.now c.requires.some in (
      _,
      subst (λ (bs : List (List ℕ)). HaveSums bs c.args.file_start c.in_ok-sums.sums) parts
          c.in_ok-sums.ensures,
    )

pub returns : goal.returns
returns c =
    let parts = cut-first c.args.sizes.now c.args.block.now c.requires.some in
    subst (λ (bs : List (List ℕ)). MatchResult c.check_tals.result (λ (x : Checked). IsChecked bs
    c.args.file_start c.args.place x.start x.count) (BlocksHaveFirstFault bs c.args.file_start
    c.args.place)) (sym parts) (c.check_tals.ensures _ (subst (λ (bs : List (List ℕ)). HaveSums bs
    c.args.file_start c.in_ok-sums.sums) parts c.in_ok-sums.ensures))
