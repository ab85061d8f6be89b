use Rattle.edf_store.proofs.store.Store.open.Goals as goal

pub returns-clause-foreign : goal.returns-clause-foreign
returns-clause-foreign g c stays is =
    let back = c.in-Err.ensures.given_back in
    back.foreign (let same = is in cc) (stays c.in-Err.field-0-1 back.crash)
