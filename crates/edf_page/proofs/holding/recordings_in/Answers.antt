use Rattle.edf_page.proofs.Files.{holds_still}
use Rattle.edf_page.proofs.Memory.{stays_clean}
use Rattle.edf_page.proofs.holding.recordings_in.Goals as goal

pub returns-in-Ok : goal.returns-in-Ok
returns-in-Ok c = record {
  keys = λ h has. c.in-Ok.ensures.keys (stays_clean c.identities.new.self.connection) h has.holds;
  stays = holds_still c.args.store.now c.identities.new.self c.identities.ensures.changes.stays;
}

pub returns-in-Err-clause-stays : goal.returns-in-Err-clause-stays
returns-in-Err-clause-stays c =
    holds_still c.args.store.now c.identities.new.self c.identities.ensures.changes.stays
