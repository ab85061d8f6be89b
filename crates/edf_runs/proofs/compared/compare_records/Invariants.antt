use Rattle.std.proofs.Common.{◌≡◌, List}
use Rattle.edf_field.specs.Number.{duration_of}
use Rattle.edf_fragment.specs.Fragment.{DataRecord}
use Rattle.edf_runs.specs.Inside.Siding.{files, AreSides, left_of_both}
use Rattle.edf_runs.proofs.compared.compare_records.Given as goal

abbrev pub invariant-records : goal.invariant-records
invariant-records g l = record {
  first : l.first.header ≡ l.fn.first.header;
  second : l.second.header ≡ l.fn.second.header;
  duration : l.sides.duration ≡ duration_of l.fn.first.header.key.duration;
  sides : (p : List DataRecord) × (q : List DataRecord)
      × AreSides (g.R.Input.remaining l.fn.first_input) (g.S.Input.remaining l.fn.second_input)
      (files g.R.Input g.S.Input l.fn.first.header l.fn.second.header l.first l.first_input
      l.second l.second_input) l.sides p q;
}

abbrev pub decreases-records : goal.decreases-records
decreases-records g l = left_of_both (files g.R.Input g.S.Input l.fn.first.header
    l.fn.second.header l.first l.first_input l.second l.second_input) l.sides
