use Rattle.std.proofs.Common.{Some, ap}
use Rattle.edf_page.proofs.Files.{holds_still, only-file}
use Rattle.edf_page.proofs.Memory.{stays_clean}
use Rattle.edf_page.proofs.holding.export_one.Goals as goal

pub returns-in-Ok : goal.returns-in-Ok
returns-in-Ok c = record {
  exports = λ h has. only-file _ _ _ _ _ (ap Some c.new-out.ensures.empty)
      (c.in-Ok.ensures.answered (stays_clean c.export.new.store.connection) h has.holds);
  stays = holds_still c.args.store.now c.export.new.store c.export.ensures.changes.stays;
}

pub returns-in-Err-clause-stays : goal.returns-in-Err-clause-stays
returns-in-Err-clause-stays c =
    holds_still c.args.store.now c.export.new.store c.export.ensures.changes.stays
