use Rattle.edf_mend.proofs.GoodRecords.{some-sizes, sizes-sum, record-read}
use Rattle.edf_mend.proofs.record.timed_record.Goals as goal

pub read_blocks-read-requires-clause-some : goal.read_blocks-read-requires-clause-some
read_blocks-read-requires-clause-some c = some-sizes c.args.nth c.args.header.now
    c.header_is_layout.ensures c.args.bytes.now _ _ c.in-Some.good c.requires
    (rw c.in-Some.is at c.in_ok-good.ensures) c.as_slice.ensures.value c.as_slice-2.ensures.value

pub read_blocks-read-requires-clause-sizes : goal.read_blocks-read-requires-clause-sizes
read_blocks-read-requires-clause-sizes c = sizes-sum c.args.nth c.args.header.now
    c.header_is_layout.ensures c.args.bytes.now _ _ c.in-Some.good c.requires
    (rw c.in-Some.is at c.in_ok-good.ensures) c.as_slice.ensures.value c.as_slice-2.ensures.value

pub returns-in-Some-new : goal.returns-in-Some-new
returns-in-Some-new c = record-read c.args.nth c.args.header.now c.header_is_layout.ensures
    c.args.bytes.now _ _ c.in-Some.good c.requires (rw c.in-Some.is at c.in_ok-good.ensures)
    c.as_slice.ensures.value c.as_slice-2.ensures.value c.args.place _ _ _
    (rw c.start.ensures at c.in-Ok.ensures) c.in-Some-new.ensures.1
