use Rattle.edf_mend.proofs.Blocks.{times-read}
use Rattle.edf_mend.proofs.block.push_times.Goals as goal

pub returns-in_ok-extend_from_slice-in-Some-2 : goal.returns-in_ok-extend_from_slice-in-Some-2
returns-in_ok-extend_from_slice-in-Some-2 c =
    times-read c.args.text.now c.in-Some.onset.now c.in-Some.duration.now _ _ c.args.out.now.items
    _ _ _ c.in-Some.ensures c.cut_time-in-Some.ensures c.cut_time-in-Some-2.ensures
    c.in_ok-extend_from_slice-in-Some.ensures.items c.in_ok-push-in-Some.ensures.items
    c.in_ok-extend_from_slice-in-Some-2.ensures.items
