use Rattle.edfstore_open.proofs.InMemory.{empty_store, refused_for_cause}
use Rattle.edfstore_open.proofs.memory.open_memory.Goals as goal

pub returns-in-Ok : goal.returns-in-Ok
returns-in-Ok c = record {
  empty = empty_store c.in-Ok.conn c.open.result c.in-Ok.ensures.empty c.open.ensures.cap
      c.open.ensures.opened;
  why = refused_for_cause c.in-Ok.conn c.open.result c.in-Ok.ensures.empty
      c.open.ensures.given_up c.open.ensures.foreign;
}
