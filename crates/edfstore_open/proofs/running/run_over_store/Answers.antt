use Rattle.edfstore_open.proofs.OnFile.{opened_or_reads, run_at_path}
use Rattle.edfstore_open.proofs.running.run_over_store.Goals as goal

pub run_on_file-ended-requires : goal.run_on_file-ended-requires
run_on_file-ended-requires g c = opened_or_reads _ _ _ _ c.find-opening.ensures

pub returns-after-is_none : goal.returns-after-is_none
returns-after-is_none g c = run_at_path _ _ _ _ _ _ _ c.in-Some.ensures
    (c.find-opening.result, c.find-opening.ensures, c.run_on_file-ended.ensures.run)
