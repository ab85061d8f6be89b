use Rattle.std.proofs.Common.{◌≡◌, None, ap, rules, arith}
use Rattle.edf_serve.specs.Work.{point}
use Rattle.edf_serve.proofs.Sessions.{step-ends, step-goes_on, all-counted, none-yet}
use Rattle.edf_serve.proofs.session.serve.Goals as goal

pub loop-init : goal.loop-init
loop-init g c = none-yet g.S.Store _ _

pub returns-in-Some : goal.returns-in-Some
returns-in-Some g c =
    let p = point g.I.Sources g.C.Client g.K.StoreFiles c.serve_next.new.store
    c.serve_next.new.room in
    step-ends g.S.Store _ _ _ _ _ c.loop.invariant _ c.serve_next.result c.in-Some.end c.in-Some.is
    c.serve_next.ensures (ap (λ w. record {
      at = record p { worst = w };
      coming = c.serve_next.new.lines;
    }) c.status_at-room.ensures)

pub loop-preserved : goal.loop-preserved
loop-preserved g c =
    let e : c.serve_next.result ≡ None = search rules in
    step-goes_on g.S.Store _ _ _ _ _ c.loop.invariant c.serve_next.result e c.serve_next.ensures

pub returns : goal.returns
returns g c = all-counted g.S.Store _ _ _ _ c.loop.invariant (omega arith)
