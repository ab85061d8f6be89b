use Rattle.std.proofs.Common.{◌≤◌, length, drop, vec_capacity}
use Rattle.edf_fragment.specs.Fragment.{bytes_outside}
use Rattle.edf_fragment.proofs.Cuts.{IsCutTo}
use Rattle.edf_fragment.proofs.buffers.cut_record.Given as goal

abbrev pub invariant-loop-block : goal.invariant-loop-block
invariant-loop-block l = IsCutTo l.header.blocks (drop l.block-index l.header.blocks) l.whole
    l.samples.items l.joined l.copied
    × (length (bytes_outside 0 l.header.blocks l.whole) ≤ vec_capacity l.samples)
