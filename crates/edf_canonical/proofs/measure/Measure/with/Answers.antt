use Rattle.std.proofs.Common.{◌≡◌, refl, ap, ◌∙◌, max, length, arith}
use Rattle.edf_canonical.specs.File.{second_of, samples_of, block_of}
use Rattle.edf_canonical.proofs.Measures.{samples_hold, more_measured}
use Rattle.edf_canonical.proofs.measure.Measure.with.Goals as goal

pub returns-clause-measured : goal.returns-clause-measured
returns-clause-measured c records is few =
    let r = c.args.data_record.now in
    let samples : c.samples_of-samples.result ≡ samples_of (second_of c.args.self.now.first) r =
    c.samples_of-samples.ensures.value ∙ ap (λ n. samples_of n r) c.second.ensures in
    more_measured records c.args.self.now _ r is few refl c.min.ensures
    (c.max.ensures ∙ ap (λ n. max c.args.self.now.block_samples n) samples)

pub returns-clause-holds : goal.returns-clause-holds
returns-clause-holds c =
    let r = c.args.data_record.now in
    let base = second_of c.args.self.now.first in
    let samples : c.samples_of-samples.result ≡ samples_of base r =
    c.samples_of-samples.ensures.value ∙ ap (λ n. samples_of n r) c.second.ensures in
    samples_hold (length (block_of base r)) c.max.result (omega (arith, samples, c.max.ensures))
