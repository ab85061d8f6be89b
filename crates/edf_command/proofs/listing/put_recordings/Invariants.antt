use Rattle.std.proofs.Common.{◌≡◌, ℕ, List}
use Rattle.sqlite.specs.State.{HasCleanDisk}
use Rattle.edf_holdings.specs.Holdings.{Holdings}
use Rattle.edf_store.specs.Held.{at, Holds, KeepsHoldings}
use Rattle.edf_cli.specs.Text.{IsInstantFormat}
use Rattle.edf_command.specs.Lines.{first_list_lines}
use Rattle.edf_cli.specs.Output.{output_change, Gets}
use Rattle.edf_command.specs.Listing.{AreHeldBy}
use Rattle.edf_command.proofs.listing.put_recordings.Given as goal

abbrev pub invariant-loop-at : goal.invariant-loop-at
invariant-loop-at g l = record {
  stays : KeepsHoldings g.S.Store l.fn.store l.store;
  counted : g.O.Output.failures l.out ≡ g.O.Output.failures l.fn.out;
  put : HasCleanDisk (at g.S.Store l.store) → (h : Holdings) → Holds g.S.Store l.fn.store h →
      AreHeldBy h l.recordings
      → (spell : ℕ → List ℕ) → IsInstantFormat spell
      → Gets (output_change g.O.Output l.fn.out l.out) (first_list_lines spell h l.recordings l.at);
}
