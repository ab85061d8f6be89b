-- The buffers that a data record is read through.
use Rattle.std.specs.Prelude.{◌≡◌, map, vec_len}
use Rattle.edf_header.specs.Header.{Layout, block_bytes}
use Rattle.edf_fragment.specs.declared.buffers.Buffers.{Buffers}

-- the buffers are as long as a whole data record and as its blocks, whose sizes they have
pub record FitOneRecord (l : Layout) (b : Buffers) : Type 0 where
  pub whole : vec_len b.whole ≡ l.record_bytes
  pub joined : vec_len b.joined ≡ block_bytes l
  pub sizes : b.sizes.items ≡ map (λ x. x.bytes) l.blocks
