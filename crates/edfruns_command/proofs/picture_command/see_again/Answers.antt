use Rattle.std.proofs.Common.{rules}
use Rattle.edf_runs.specs.declared.run_list.Listing.{Listing}
use Rattle.edfruns_command.proofs.Unchanged.{stops-by-fault, stops-by-key, stops-by-runs}
use Rattle.edfruns_command.proofs.picture_command.see_again.Goals as goal

pub returns-in-Err : goal.returns-in-Err
returns-in-Err g c = stops-by-fault (g.R.Input.remaining c.args.input.now)
    (g.R.Input.remaining c.see_file.new.input) c.args.listing.now c.in-Err.fault c.fault_of.result
    c.in-Err.ensures c.fault_of.ensures

pub returns-then-not-same : goal.returns-then-not-same
returns-then-not-same g c =
    let seen : Listing = record {
      identity = c.in-Ok.seen.identity;
      runs = c.in-Ok.seen.sight.runs;
    } in
    stops-by-key (g.R.Input.remaining c.args.input.now) (g.R.Input.remaining c.see_file.new.input)
    seen c.args.listing.now c.in-Ok.ensures.0 (search rules)

pub returns-else-are_same : goal.returns-else-are_same
returns-else-are_same g c =
    let seen : Listing = record {
      identity = c.in-Ok.seen.identity;
      runs = c.in-Ok.seen.sight.runs;
    } in
    stops-by-runs (g.R.Input.remaining c.args.input.now) (g.R.Input.remaining c.see_file.new.input)
    seen c.args.listing.now c.in-Ok.ensures.0 (search rules)
