use Rattle.edf_page.proofs.Memory.{empty_store}
use Rattle.edf_page.proofs.holding.open_memory.Goals as goal

pub returns-in-Ok : goal.returns-in-Ok
returns-in-Ok c = empty_store c.in-Ok.conn c.open.result c.in-Ok.ensures.empty c.open.ensures.cap
    c.open.ensures.opened
