use Rattle.std.proofs.lemmas.Result.{err_from_is_err_and}
use Rattle.edf_export.proofs.FromWalk.{sent-leaves, sent-text, stopped-leaves, stopped-counts}
use Rattle.edf_export.proofs.FromWalk.{stopped-text}
use Rattle.edf_export.proofs.writing.send_walk.Goals as goal

pub returns-in_err-send-clause-changes : goal.returns-in_err-send-clause-changes
returns-in_err-send-clause-changes g c =
    let p = err_from_is_err_and c.from_residual.result c.from_residual.ensures.1 in
    rw (p.1, p.2) (stopped-leaves g.S.Store _ c.requires.ready.0 c.requires.ready.1 _ c.args.plan _
    _ c.in_err-send.ensures.0)

pub returns-in_err-send-clause-sent : goal.returns-in_err-send-clause-sent
returns-in_err-send-clause-sent g c clean h k walked plan =
    let p = err_from_is_err_and c.from_residual.result c.from_residual.ensures.1 in
    rw (p.1, p.2) (stopped-text g.S.Store _ c.requires.ready.0 c.requires.ready.1 _ c.args.plan _ _
    _ c.args.header.now c.in_err-send.ensures.0 clean h k walked plan.measured)

pub returns-in_err-send-clause-counted : goal.returns-in_err-send-clause-counted
returns-in_err-send-clause-counted g c =
    let p = err_from_is_err_and c.from_residual.result c.from_residual.ensures.1 in
    rw (p.1, p.2) (stopped-counts g.S.Store _ c.requires.ready.0 c.requires.ready.1 _ c.args.plan _
    _ c.in_err-send.ensures.0 _ _ c.in_err-send.ensures.1)

pub returns-clause-changes : goal.returns-clause-changes
returns-clause-changes g c = sent-leaves g.S.Store _ c.requires.ready.0 c.requires.ready.1 _
    c.args.plan _ c.in_ok-send.ensures.0

pub returns-clause-sent : goal.returns-clause-sent
returns-clause-sent g c clean h k walked plan = sent-text g.S.Store _ c.requires.ready.0
    c.requires.ready.1 _ c.args.plan _ c.in_ok-send.ensures.0 clean h k walked
