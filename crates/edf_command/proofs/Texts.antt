-- The first start of data records.
use Rattle.std.proofs.Common.{◌≡◌, ℕ, List, [], ◌∷◌}
use Rattle.std.specs.Prelude.{Some}
use Rattle.edf_fragment.specs.Fragment.{DataRecord}
use Rattle.edf_store.specs.Summaries.{start_at}
use Rattle.edf_command.specs.Lines.{first_start}

pub first-start : (records : List DataRecord) (n : ℕ) → start_at records 0 ≡ Some n →
    n ≡ first_start records
first-start [] n e = cc
first-start (r ∷ rs) n e = cc
