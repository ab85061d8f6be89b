use Rattle.std.proofs.Common.{take}
use Rattle.std.specs.List.{AllByRecursion}
use Rattle.edf_header.specs.Fields.{fields}
use Rattle.edf_mend.specs.Header.{StaysField}
use Rattle.edf_mend.proofs.mark.stays_fields.Given as goal

abbrev pub invariant-loop-at : goal.invariant-loop-at
invariant-loop-at l = AllByRecursion (StaysField l.old l.new) (take l.at-index fields)
