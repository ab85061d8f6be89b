use Rattle.std.proofs.Common.{◌≡◌, ◌-◌, List}
use Rattle.edf_header.specs.Header.{most_records}
use Rattle.edf_fragment.specs.Fragment.{DataRecord}
use Rattle.edf_fragment.specs.declared.advance.ReaderState.TheVariants.{Reading}
use Rattle.edf_fragment.specs.Whole.{HasReadRecords}
use Rattle.edf_runs.specs.Outline.{AreSpans}
use Rattle.edf_runs.proofs.outlining.read_spans.Given as goal

abbrev pub invariant-records : goal.invariant-records
invariant-records g l = record {
  header : l.fragment.header ≡ l.initial.fragment.header;
  state : l.fragment.progress.state ≡ Reading;
  so_far : (records : List DataRecord)
      × HasReadRecords l.initial.fragment.header (g.R.Input.remaining l.initial.input)
      (g.R.Input.remaining l.input) records l.fragment.progress
      × AreSpans records l.spans;
  count : g.R.Input.failures l.input ≡ g.R.Input.failures l.initial.input;
}

abbrev pub decreases-records : goal.decreases-records
decreases-records g l = most_records l.initial.fragment.header.count - l.fragment.progress.given
