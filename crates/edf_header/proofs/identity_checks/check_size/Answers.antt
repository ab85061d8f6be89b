use Rattle.std.proofs.Common.{arith, ◌∙◌}
use Rattle.edf_header.proofs.Faults.{clean-11}
use Rattle.edf_header.proofs.Held.{sliced-each, sliced-samples}
use Rattle.edf_header.proofs.identity_checks.check_size.Goals as goal

pub ordinary_samples-size-requires-clause-each : goal.ordinary_samples-size-requires-clause-each
ordinary_samples-size-requires-clause-each c = sliced-each c.args.bytes.now c.requires.samples

pub returns-then-size-gt-MOST_BLOCK_BYTES : goal.returns-then-size-gt-MOST_BLOCK_BYTES
returns-then-size-gt-MOST_BLOCK_BYTES c =
    let e = c.ordinary_samples-size.ensures.value
    ∙ sliced-samples c.args.bytes.now c.requires.label in
    (omega (arith, e), c.requires.clean)

pub returns : goal.returns
returns c =
    let e = c.ordinary_samples-size.ensures.value
    ∙ sliced-samples c.args.bytes.now c.requires.label in
    (omega (arith, e), omega arith, clean-11 c.args.bytes.now c.requires.clean (omega (arith, e)))
