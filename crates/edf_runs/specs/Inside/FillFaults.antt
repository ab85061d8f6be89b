-- Faults of parts of a filled file are faults of the whole.
use Rattle.edf_runs.specs.declared.fill_fault.FillFault.{FillFault}
use Rattle.edf_runs.specs.declared.fill_fault.FillFault.TheVariants.{Late, Memory}
use Rattle.edf_runs.specs.declared.moving.MoveFault.{MoveFault}
use Rattle.edf_runs.specs.declared.moving.MoveFault.TheVariants as move

abbrev pub fault_of_move : MoveFault → FillFault
fault_of_move move.Late = Late
fault_of_move move.Memory = Memory
