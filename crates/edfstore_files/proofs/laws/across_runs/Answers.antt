use Rattle.std.proofs.Common.{refl, inl}
use Rattle.edfstore_files.proofs.Accepting.{accepted_held}
use Rattle.edfstore_files.proofs.Chains.{result, unclosed}
use Rattle.edfstore_files.proofs.Keeping.{wider}
use Rattle.edfstore_files.proofs.laws.across_runs.Goals as goal

pub returns-clause-law : goal.returns-clause-law
returns-clause-law c cap runs h start end sound keep follow =
    result cap runs h start end sound keep follow

pub returns-clause-accepted : goal.returns-clause-accepted
returns-clause-accepted c cap turns start end h keep step =
    accepted_held cap turns start end h keep step

pub returns-clause-first : goal.returns-clause-first
returns-clause-first c cap start none = inl (none, refl)

pub returns-clause-unclosed : goal.returns-clause-unclosed
returns-clause-unclosed c cap turns given rest start end all gave it =
    unclosed cap turns given rest start end all gave it

pub returns-clause-wider : goal.returns-clause-wider
returns-clause-wider c cap more image h wide keep = wider cap more wide image h keep
