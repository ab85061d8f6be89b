use Rattle.edf_header.proofs.Faults.{clean-6, is-key}
use Rattle.std.proofs.Common.{arith}
use Rattle.edf_header.proofs.identity_checks.check_key.Goals as goal

pub check_signals-requires-clause-clean : goal.check_signals-requires-clause-clean
check_signals-requires-clause-clean c = clean-6 c.args.bytes.now c.in_ok-duration.ensures.0

pub returns : goal.returns
returns c =
    let size = c.in_ok-ordinary_bytes.ensures in
    let k = is-key c.args.bytes.now c.in_ok-duration.ensures.0
    c.in_ok-check_signals.ensures.0 c.in_ok-check_signals-2.ensures.0
    c.in_ok-check_signals-3.ensures.0 c.in_ok-check_signals-4.ensures.0
    (omega (arith, size.0, size.1)) in (
      record {
        back = k.0;
        key = k.1;
        duration_is = c.in_ok-duration.ensures.1;
        ordinary_is =
            size.0;
      },
      size.2,
    )
