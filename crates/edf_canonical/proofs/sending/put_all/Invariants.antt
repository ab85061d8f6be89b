use Rattle.edf_canonical.specs.Output.{buffered}
use Rattle.edf_canonical.specs.Source.{at}
use Rattle.edf_canonical.proofs.PutNext.{SoPut, left-of}
use Rattle.edf_canonical.proofs.sending.put_all.Given as goal

abbrev pub invariant-records : goal.invariant-records
invariant-records g l = record {
  ready : g.S.Source.ready l.source l.file l.input;
  put : SoPut g.S.Source.answers (at l.initial.source l.initial.file l.initial.input)
      (at l.source l.file l.input)
      (buffered g.W.Output l.initial.out l.initial.held.bytes.items)
      (buffered g.W.Output l.out l.held.bytes.items) l.fn.plan.measure l.so_far;
}

abbrev pub decreases-records : goal.decreases-records
decreases-records g l = left-of l.fn.plan.measure l.so_far
