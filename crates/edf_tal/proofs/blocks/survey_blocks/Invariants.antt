use Rattle.edf_tal.proofs.Cuts.{HasSurveyed}
use Rattle.edf_tal.proofs.blocks.survey_blocks.Given as goal

abbrev pub invariant-loop-size : goal.invariant-loop-size
invariant-loop-size l = HasSurveyed l.sizes l.block l.size-index l.rest l.file_start l.form
