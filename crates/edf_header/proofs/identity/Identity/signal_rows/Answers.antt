use Rattle.edf_header.proofs.CanonicalParts.{rows-after}
use Rattle.edf_header.proofs.identity.Identity.signal_rows.Goals as goal

pub returns : goal.returns
returns c = rw c.deref.ensures.value
    (rows-after c.self.inside.bytes.items c.args.self.now c.self.view_is)
