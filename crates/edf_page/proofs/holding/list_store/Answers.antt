use Rattle.std.proofs.Common.{Some, refl, ap}
use Rattle.edf_page.proofs.Files.{lists-all, holds_still}
use Rattle.edf_page.proofs.Memory.{stays_clean}
use Rattle.edf_page.proofs.holding.list_store.Goals as goal

pub returns-in-Done : goal.returns-in-Done
returns-in-Done c = record {
  lists = λ h has. lists-all _ _ _ h (ap Some c.new-out.ensures.empty) refl
      (c.in-Done.ensures.listed (stays_clean c.list.new.store.connection) h has.holds);
  stays = holds_still c.args.store.now c.list.new.store c.list.ensures.stays;
}

pub returns-in_default-clause-stays : goal.returns-in_default-clause-stays
returns-in_default-clause-stays c =
    holds_still c.args.store.now c.list.new.store c.list.ensures.stays
