use Rattle.std.proofs.Common.{ap, ◌∙◌}
use Rattle.edf_field.specs.Number.{duration_of}
use Rattle.edf_header.specs.Key.{Key}
use Rattle.edf_runs.proofs.OutsideCounts.{outline-outside}
use Rattle.edf_runs.proofs.outside.count_outside.Goals as goal

pub returns : goal.returns
returns c = λ k records is. outline-outside k records c.args.outline.now c.outside_in.result
    c.duration.result c.as_slice.result.now c.as_slice-2.result.now is
    (c.duration.ensures.value ∙ ap (λ (x : Key). duration_of x.duration) is.identity)
    c.as_slice.ensures.value c.as_slice-2.ensures.value c.outside_in.ensures
