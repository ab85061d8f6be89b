use Rattle.std.proofs.Common.{inl, inr, refl}
use Rattle.edf_cli.proofs.Puts.{nothing-gets}
use Rattle.edfstore_open.proofs.InMemory.{stays_clean}
use Rattle.edfstore_open.proofs.memory.run_in_memory.Goals as goal

pub returns-in-Ok : goal.returns-in-Ok
returns-in-Ok g c = inl (record {
  old = c.in-Ok.store;
  new = c.run-status.new.store;
  begun = c.in-Ok.ensures.empty;
  clean = stays_clean c.run-status.new.store.connection;
  done = c.run-status.ensures.done;
  opened = c.run-status.ensures.opened;
})

pub returns-in-Err : goal.returns-in-Err
returns-in-Err g c = inr (record {
  fault = c.in-Err.fault;
  why = c.in-Err.ensures.why;
  line = c.refuse_store.ensures;
  silent = nothing-gets (g.O.Output.contents c.args.out.now) (g.O.Output.failures c.args.out.now);
  unread = refl;
})
