use Rattle.edf_time.proofs.Startdates.{one-start, no-start_fault, one-start_fault}
use Rattle.edf_time.proofs.SomeReading.{some-start}
use Rattle.edf_time.proofs.laws.one_start.Goals as goal

pub returns : goal.returns
returns c = record {
  start = one-start;
  none = no-start_fault;
  fault = one-start_fault;
  some =
      some-start;
}
