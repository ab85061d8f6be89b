-- What the proofs of other crates may cite: each lemma is the proof of a law, or that law of a data
-- record with one block.
pub use Rattle.edf_tal.proofs.Unique.{one-tal}
pub use Rattle.edf_tal.proofs.OneBlock.{one-block, one-lists}
pub use Rattle.edf_tal.proofs.Judge.{SameAnswer, blocks-one-read, blocks-read-no-fault}
pub use Rattle.edf_tal.proofs.Judge.{blocks-one-fault, one-read, read-no-fault, one-fault}
pub use Rattle.edf_tal.proofs.Judge.{blocks-some-answer, blocks-no-memory, some-answer, no-memory}
pub use Rattle.edf_tal.proofs.Cuts.{cut-joined}
pub use Rattle.edf_tal.proofs.Again.{read-any, read-first, read-after, read-alone}
pub use Rattle.edf_tal.proofs.Again.{blocks-read-elsewhere, read-elsewhere, one-writing}
pub use Rattle.edf_tal.proofs.ReadAnnotations.{blocks-read-start, blocks-read-annotations}
pub use Rattle.edf_tal.proofs.ReadAnnotations.{read-start, read-annotations}
pub use Rattle.edf_tal.proofs.BlockLength.{block-length}
