use Rattle.edf_mend.proofs.signal.keeps_ordinary.Goals as goal

pub returns : goal.returns
returns c = λ t. record {
  label = c.in_ok-keeps_letters.ensures c.if-not-branch.false;
  transducer = c.in_ok-keeps_letters-2.ensures c.if-not-branch-2.false;
  prefiltering = c.in_ok-keeps_letters-3.ensures c.if-not-branch-3.false;
  rest = c.in_ok-keeps_letters-4.ensures c.if-not-branch-4.false;
  line = c.in_ok-keeps_line.ensures t;
}
