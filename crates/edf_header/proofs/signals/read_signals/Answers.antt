use Rattle.std.proofs.Common.{◌≡◌, ◌*◌, arith, inl, inr, length, refl}
use Rattle.edf_header.specs.Inside.Rows.{header_of}
use Rattle.edf_header.proofs.HeaderFaults.{first-signals}
use Rattle.edf_header.proofs.Headers.{checked}
use Rattle.edf_header.proofs.SignalLaws.{signals-clean}
use Rattle.edf_header.proofs.signals.read_signals.Goals as goal

pub returns-in-Err : goal.returns-in-Err
returns-in-Err c =
    let b = c.args.bytes.now in
    let f = c.args.fixed in
    let len : length b ≡ 256 * f.signal_count = omega arith in
    inr (first-signals b c.new-signals.result c.signals-n.result f.signal_count c.in-Err.fault
    c.new-signals.ensures c.signals-n.ensures.value len c.in_default.ensures c.in-Err.ensures)

pub header_from-requires-clause-signals : goal.header_from-requires-clause-signals
header_from-requires-clause-signals c =
    let b = c.args.bytes.now in
    let f = c.args.fixed in
    let len : length b ≡ 256 * f.signal_count = omega arith in (
      b,
      checked b f c.new-signals.result c.signals-n.result c.new-signals.ensures
          c.signals-n.ensures.value len c.in_default.ensures c.in-Ok.ensures.0,
    )

pub returns-in-Ok-header_from : goal.returns-in-Ok-header_from
returns-in-Ok-header_from c =
    let b = c.args.bytes.now in
    let f = c.args.fixed in
    let len : length b ≡ 256 * f.signal_count = omega arith in (
      header_of f c.new-signals.result,
      checked b f c.new-signals.result c.signals-n.result c.new-signals.ensures
          c.signals-n.ensures.value len c.in_default.ensures c.in-Ok.ensures.0,
      refl,
      c.in-Ok-header_from.ensures,
    )

pub returns-in-Err-header_from : goal.returns-in-Err-header_from
returns-in-Err-header_from c =
    let b = c.args.bytes.now in
    let f = c.args.fixed in
    let len : length b ≡ 256 * f.signal_count = omega arith in
    inl (
      refl,
      signals-clean b (header_of f c.new-signals.result)
          (checked b f c.new-signals.result c.signals-n.result c.new-signals.ensures
          c.signals-n.ensures.value len c.in_default.ensures c.in-Ok.ensures.0),
    )
