use Rattle.std.proofs.Common.{arith}
use Rattle.edf_header.proofs.FixedRows.{signals-in}
use Rattle.edf_header.proofs.fixed_fields.read_signal_count.Goals as goal

pub returns-in-Some : goal.returns-in-Some
returns-in-Some c =
    signals-in c.args.bytes.now c.in-Some.signals c.requires
    (record { whole = c.in-Some.ensures.0; value = c.in-Some.ensures.1 }, omega arith, omega arith)
