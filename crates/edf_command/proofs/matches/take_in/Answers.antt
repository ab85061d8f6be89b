use Rattle.std.proofs.Common.{◌∙◌, codes, rules}
use Rattle.clap.proofs.WalkLemmas.{raw_values-rows}
use Rattle.clap.specs.Words.{found_of}
use Rattle.edf_command.proofs.matches.take_in.Goals as goal

pub returns-in_default-get_strs : goal.returns-in_default-get_strs
returns-in_default-get_strs c =
    let files = c.get_strs.ensures ∙ raw_values-rows (found_of c.args.values.now) (codes "FILE") in
    search rules

pub returns : goal.returns
returns c =
    let files = c.get_strs.ensures ∙ raw_values-rows (found_of c.args.values.now) (codes "FILE") in
    search rules
