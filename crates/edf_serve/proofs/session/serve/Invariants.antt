use Rattle.std.specs.Option.{option_map}
use Rattle.edf_serve.specs.Work.{point}
use Rattle.edf_serve.proofs.Sessions.{SoFar}
use Rattle.edf_serve.proofs.session.serve.Given as goal

abbrev pub invariant-loop : goal.invariant-loop
invariant-loop g l = SoFar g.S.Store (option_map (λ f. f.now) l.folder)
    (record {
      at = point g.I.Sources g.C.Client g.K.StoreFiles l.initial.store l.initial.room;
      coming = l.initial.lines;
    })
    (record {
      at = point g.I.Sources g.C.Client g.K.StoreFiles l.store l.room;
      coming = l.lines;
    }) l.counter
