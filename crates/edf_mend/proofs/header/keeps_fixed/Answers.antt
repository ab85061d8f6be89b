use Rattle.edf_mend.proofs.header.keeps_fixed.Goals as goal

pub returns : goal.returns
returns c = λ t.
    let has = c.has_fixed.ensures c.if-not-has_fixed.false in
    record {
      kept = rw (has.0, has.1, has.2, has.3) c.requires;
      nobody = c.in_ok-keeps_nobody.ensures t;
    }
