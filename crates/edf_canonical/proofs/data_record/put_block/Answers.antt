use Rattle.std.proofs.Common.{◌≡◌, ◌∙◌, ◌++◌, ◌-◌, ℕ, List, replicate, length, refl, ap, sym, arith}
use Rattle.std.proofs.lemmas.Result.{err_from_is_err_and}
use Rattle.edf_tal.specs.Tal.{Annotation}
use Rattle.edf_tal.specs.Canonical.{tals_text}
use Rattle.edf_canonical.specs.File.{block_of}
use Rattle.edf_canonical.proofs.Puts.{holds-none, put-then, put-stops}
use Rattle.edf_canonical.proofs.data_record.put_block.Goals as goal

filled-is : (text block : List ℕ) (size len : ℕ) → text ≡ block → len ≡ length block
    → block ++ replicate {A = ℕ} (size - length block) 0 ≡ text ++ replicate {A = ℕ} (size - len) 0
filled-is text block size len same is =
    ap (λ (n : ℕ). block ++ replicate {A = ℕ} (size - n) 0) (sym is)
    ∙ ap (λ (x : List ℕ). x ++ replicate {A = ℕ} (size - len) 0) (sym same)

pub returns-in_default : goal.returns-in_default
returns-in_default g c = (holds-none _ _ _ refl, refl)

pub returns : goal.returns
returns g c =
    let r = c.args.data_record.now in
    let fs = c.args.file_start in
    let block : List ℕ = block_of fs r in
    let items : c.in-Ok.block.items ≡ block =
    c.in-Ok.ensures ∙ ap (λ (n : ℕ). tals_text fs n c.notes.result.now) c.start-start.ensures.value
    ∙ ap (λ (l : List Annotation). tals_text fs r.start l) c.notes.ensures.value in
    let text : c.as_slice.result.now ≡ block = c.as_slice.ensures.value ∙ items in
    let len : c.len.result ≡ length block =
    omega (arith, c.len.ensures, c.in-Ok.block.ok.0, ap (λ (l : List ℕ). length l) items) in
    put-then _ _ _ c.as_slice.result.now (replicate {A = ℕ} (c.args.size - c.len.result) 0) _ _ _
    (filled-is c.as_slice.result.now block c.args.size c.len.result text len)
    c.in_ok-put.ensures c.put_zeros.ensures

pub returns-in_err-put : goal.returns-in_err-put
returns-in_err-put g c =
    let r = c.args.data_record.now in
    let fs = c.args.file_start in
    let block : List ℕ = block_of fs r in
    let items : c.in-Ok.block.items ≡ block =
    c.in-Ok.ensures ∙ ap (λ (n : ℕ). tals_text fs n c.notes.result.now) c.start-start.ensures.value
    ∙ ap (λ (l : List Annotation). tals_text fs r.start l) c.notes.ensures.value in
    let text : c.as_slice.result.now ≡ block = c.as_slice.ensures.value ∙ items in
    let p = err_from_is_err_and c.from_residual.result c.from_residual.ensures.1 in
    rw (p.1, p.2) (put-stops _ _ c.as_slice.result.now
    (replicate {A = ℕ} (c.args.size - length block) 0) _ _
    (ap (λ (x : List ℕ). x ++ replicate {A = ℕ} (c.args.size - length block) 0) (sym text))
    c.in_err-put.ensures)
