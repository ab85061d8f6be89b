use Rattle.edf_rows.proofs.Rows.{one-holdings}
use Rattle.edf_rows.proofs.laws.one_holdings.Goals as goal

pub returns : goal.returns
returns c = one-holdings
