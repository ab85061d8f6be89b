use Rattle.edf_header.proofs.FixedRows.{recording-in}
use Rattle.edf_header.proofs.fixed_fields.read_startdate.Goals as goal

pub returns-in-Ok : goal.returns-in-Ok
returns-in-Ok c = recording-in c.args.bytes.now c.in-Ok.startdate c.in-Ok.field-0-1.now c.requires
    c.in-Ok.ensures
