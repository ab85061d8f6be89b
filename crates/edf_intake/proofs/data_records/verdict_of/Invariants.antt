-- What is passed over is the record itself.
use Rattle.std.proofs.Common.{◌≡◌, drop}
use Rattle.edf_holdings.specs.Clash.{first_other}
use Rattle.edf_intake.proofs.data_records.verdict_of.Given as goal

abbrev pub invariant-loop-stored : goal.invariant-loop-stored
invariant-loop-stored l = first_other l.data_record (drop l.stored-index l.near) ≡ first_other
    l.data_record l.near
