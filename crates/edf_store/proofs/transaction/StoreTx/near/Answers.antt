use Rattle.edf_store.proofs.transaction.StoreTx.near.Goals as goal

pub returns-clause-two : goal.returns-clause-two
returns-clause-two g c clean = c.in_ok-records_near.ensures.two clean
