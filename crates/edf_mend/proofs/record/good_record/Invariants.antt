use Rattle.std.proofs.Common.{drop}
use Rattle.edf_mend.proofs.GoodRecords.{RecordSoFar}
use Rattle.edf_mend.proofs.record.good_record.Given as goal

abbrev pub invariant-loop-block : goal.invariant-loop-block
invariant-loop-block l = RecordSoFar l.nth l.block-items (drop l.block-index l.block-items) l.bytes
    l.done l.good.samples.items l.good.joined.items l.good.sizes.items l.good.changes.items
