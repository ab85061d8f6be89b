use Rattle.std.proofs.Common.{rules, w64}
use Rattle.std.proofs.lemmas.Int.{to_z-of_z}
use Rattle.edf_store.proofs.transaction.StoreTx.next_start.Goals as goal

pub returns-clause-next : goal.returns-clause-next
returns-clause-next g c clean =
    rw (to_z-of_z w64 c.args.id.row (search rules)) at (c.in_ok-next_start.ensures.next clean)
