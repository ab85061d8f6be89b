use Rattle.std.proofs.Common.{◌≡◌, ◌-◌}
use Rattle.edf_header.specs.Header.{most_records}
use Rattle.edf_fragment.specs.declared.advance.ReaderState.TheVariants.{Reading}
use Rattle.edf_store.specs.Held.{KeepsHoldings}
use Rattle.edf_store.specs.Transaction.{AddsNoRecording}
use Rattle.edf_intake.specs.Inside.Transaction.{IsRunningFor}
use Rattle.edf_intake.specs.Inside.Gap.{IsGapInTransaction}
use Rattle.edf_intake.proofs.Meeting.{MetSoFar}
use Rattle.edf_intake.proofs.data_records.take_records.Given as goal

abbrev pub invariant-records : goal.invariant-records
invariant-records g l = record {
  same_reference : l.transaction.store.ghost_name ≡ l.initial.transaction.store.ghost_name;
  stays : KeepsHoldings g.S.Store l.initial.transaction.store.now l.transaction.store.now;
  running : IsRunningFor g.S.Store l.transaction l.destination.id.row l.initial.fragment.header.key;
  only : AddsNoRecording g.S.Store l.initial.transaction.store.now l.transaction.store.now;
  header : l.fragment.header ≡ l.initial.fragment.header;
  reading : l.fragment.progress.state ≡ Reading;
  counted : g.R.Input.failures l.input ≡ g.R.Input.failures l.initial.input;
  so_far : MetSoFar g.S.Store l.initial.transaction.store.now l.transaction.store.now
      l.initial.fragment.header
      (g.R.Input.remaining l.initial.input) (g.R.Input.remaining l.input) l.fragment.progress
      l.course.findings;
  gap : IsGapInTransaction g.S.Store l.transaction l.initial.fragment.header.key l.course.gap;
}

abbrev pub decreases-records : goal.decreases-records
decreases-records g l = most_records l.initial.fragment.header.count - l.fragment.progress.given
