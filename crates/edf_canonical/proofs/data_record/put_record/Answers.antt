use Rattle.std.proofs.Common.{◌++◌, ℕ, List, ap, sym}
use Rattle.std.proofs.lemmas.Result.{err_from_is_err_and}
use Rattle.edf_canonical.specs.File.{filled_block}
use Rattle.edf_canonical.proofs.Puts.{put-then, put-stops}
use Rattle.edf_canonical.proofs.data_record.put_record.Goals as goal

pub returns : goal.returns
returns g c =
    let filled : List ℕ = filled_block c.args.file_start c.args.size c.args.data_record.now in
    put-then _ _ _ c.samples.result.now filled _ _ _
    (ap (λ (l : List ℕ). l ++ filled) (sym c.samples.ensures.value)) c.in_ok-put.ensures
    c.put_block.ensures

pub returns-in_err-put : goal.returns-in_err-put
returns-in_err-put g c =
    let filled : List ℕ = filled_block c.args.file_start c.args.size c.args.data_record.now in
    let p = err_from_is_err_and c.from_residual.result c.from_residual.ensures.1 in
    rw (p.1, p.2) (put-stops _ _ c.samples.result.now filled _ _
    (ap (λ (l : List ℕ). l ++ filled) (sym c.samples.ensures.value)) c.in_err-put.ensures)
