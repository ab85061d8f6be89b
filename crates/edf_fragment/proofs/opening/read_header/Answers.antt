use Rattle.edf_fragment.proofs.HeaderParts.{header_answer, counted_after}
use Rattle.edf_fragment.proofs.opening.read_header.Goals as goal

pub returns : goal.returns
returns g c = record {
  step = header_answer _ _ _ c.in_ok-fixed.fixed _ c.in_ok-fixed.ensures.step
      c.read_signal_headers.ensures.step;
  counted = counted_after _ _ _ _ c.in_ok-fixed.ensures.counted
      c.read_signal_headers.ensures.counted;
}
