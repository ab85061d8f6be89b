use Rattle.std.proofs.Common.{◌≡◌, ◌∙◌, ℕ, List, length, ap, arith}
use Rattle.edf_tal.specs.Tal.{Annotation}
use Rattle.edf_tal.specs.Canonical.{tals_text}
use Rattle.edf_canonical.specs.File.{block_of}
use Rattle.edf_canonical.proofs.data_record.samples_of.Goals as goal

-- the block's length is that of its text
pub returns-clause-value : goal.returns-clause-value
returns-clause-value c =
    let r = c.args.data_record.now in
    let fs = c.args.file_start in
    let len : c.block_len-len.result ≡ length (block_of fs r) =
    c.block_len-len.ensures.value
    ∙ ap (λ (n : ℕ). length (tals_text fs n c.notes.result.now)) c.start.ensures.value
    ∙ ap (λ (l : List Annotation). length (tals_text fs r.start l)) c.notes.ensures.value in
    omega (arith, len, c.div_ceil.ensures)
