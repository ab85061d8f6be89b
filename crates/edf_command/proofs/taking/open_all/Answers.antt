use Rattle.std.proofs.Common.{arith, ◌≡◌, ◌++◌, ◌∙◌, ◌+◌, take, map, string_bytes}
use Rattle.std.proofs.lemmas.Grind.{common_steps}
use Rattle.std.proofs.lemmas.Result.{err_from_is_err_and}
use Rattle.edf_command.proofs.Opened.{opens-front}
use Rattle.edf_command.proofs.taking.open_all.Goals as goal

pub returns-in_err-reader-clause-names : goal.returns-in_err-reader-clause-names
returns-in_err-reader-clause-names g c =
    let p = err_from_is_err_and c.from_residual.result c.from_residual.ensures.1 in
    rw p.1 (opens-front (g.I.Inputs.opened c.args.inputs.now) (g.I.Inputs.opened c.open.new.self)
    c.args.files.now c.loop-file.file-index (c.in_err-reader.ensures.names
    ∙ c.loop-file.invariant.names))

pub returns-in_err-push-clause-names : goal.returns-in_err-push-clause-names
returns-in_err-push-clause-names g c =
    let p = err_from_is_err_and c.from_residual-in_err-push.result
    c.from_residual-in_err-push.ensures.1 in
    let more : g.I.Inputs.opened c.open.new.self ≡ g.I.Inputs.opened c.args.inputs.now
    ++ map string_bytes (take (c.loop-file.file-index + 1) c.args.files.now) =
    grind (arith, common_steps, c.in_ok-reader.ensures.names, c.loop-file.invariant.names) in
    rw p.1 (opens-front (g.I.Inputs.opened c.args.inputs.now) (g.I.Inputs.opened c.open.new.self)
    c.args.files.now (c.loop-file.file-index + 1) more)
