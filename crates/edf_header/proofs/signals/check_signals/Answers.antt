use Rattle.std.proofs.Common.{arith, inl, inr}
use Rattle.edf_header.proofs.HeaderFaults.{clean-18, clean-19, clean-20}
use Rattle.edf_header.proofs.signals.check_signals.Goals as goal
use Rattle.edf_header.proofs.signals.check_signals.Goals.{then-parts-gt-MOST_BLOCK_BYTES-via-then-parts-gt-MOST_BLOCK_BYTES}
use Rattle.edf_header.proofs.signals.check_signals.Goals.{then-parts-gt-MOST_BLOCK_BYTES-via-else-parts-gt-MOST_BLOCK_BYTES+then-parts-gt-MOST_BLOCK_BYTES-2}

pub returns-in-Some-bad_signal : goal.returns-in-Some-bad_signal
returns-in-Some-bad_signal c = (
  c.in-Some-bad_signal.ensures,
  clean-18 c.args.signals.now
      (c.has_annotations.ensures.0 c.if-not-has_annotations.false) c.in_default.ensures,
)

pub returns-in-Some-bad_signal-2 : goal.returns-in-Some-bad_signal-2
returns-in-Some-bad_signal-2 c = (
  c.in-Some-bad_signal-2.ensures,
  clean-19 c.args.signals.now
      (c.has_annotations.ensures.0 c.if-not-has_annotations.false) c.in_default.ensures
      c.in_default-bad_signal.ensures,
)

pub returns-then-parts-gt-MOST_BLOCK_BYTES : goal.returns-then-parts-gt-MOST_BLOCK_BYTES
returns-then-parts-gt-MOST_BLOCK_BYTES c = (
  elim c.then-parts-gt-MOST_BLOCK_BYTES.branch [
    | then-parts-gt-MOST_BLOCK_BYTES-via-then-parts-gt-MOST_BLOCK_BYTES w ↦
        inl (omega (arith, c.part_bytes-parts.ensures.ordinary))
    | then-parts-gt-MOST_BLOCK_BYTES-via-else-parts-gt-MOST_BLOCK_BYTES+then-parts-gt-MOST_BLOCK_BYTES-2
        w ↦ inr (omega (arith, c.part_bytes-parts.ensures.annotations))
  ],
  clean-20 c.args.signals.now
      (c.has_annotations.ensures.0 c.if-not-has_annotations.false) c.in_default.ensures
      c.in_default-bad_signal.ensures c.in_default-bad_signal-2.ensures,
)
