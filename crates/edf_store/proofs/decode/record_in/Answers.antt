use Rattle.std.proofs.Common.{rules}
use Rattle.edf_store.proofs.Decoding.{row_of, same_some, not_none}
use Rattle.edf_store.proofs.decode.record_in.Goals as goal

pub returns-in-Some : goal.returns-in-Some
returns-in-Some c k d key sound cells =
    let row = row_of k d c.args.row c.as_slice.result.now (search rules) sound cells in
    same_some c.in_ok-data_record.field-0 c.in-Some.data_record d (search rules)
    (c.in_ok-data_record.ensures.row k d c.args.row.start key row)

pub returns : goal.returns
returns c k d key sound cells foreign =
    let row = row_of k d c.args.row c.as_slice.result.now (search rules) sound cells in
    not_none c.in_ok-data_record.field-0 d (search rules)
    (c.in_ok-data_record.ensures.row k d c.args.row.start key row)
