use Rattle.std.proofs.Common.{◌≡◌, ◌≤◌, length, map, string_bytes, take}
use Rattle.edf_cli.specs.Making.{making}
use Rattle.edfruns_command.specs.InsideSplit.{MakesEach}
use Rattle.edfruns_command.proofs.making.make_each.Given as goal

abbrev pub invariant-loop-at : goal.invariant-loop-at
invariant-loop-at g l = record {
  header : l.fragment.header ≡ l.initial.fragment.header;
  known : g.P.NewFiles.known l.outputs ≡ g.P.NewFiles.known l.initial.outputs;
  at_most : l.at ≤ length l.named.listing.now.runs.items;
  so_far : MakesEach (making g.P.NewFiles l.initial.outputs l.outputs)
      (take l.at (map string_bytes l.named.names.now)) l.initial.fragment.header
      l.fragment.progress (g.R.Input.remaining l.initial.reader) (g.R.Input.remaining l.reader)
      (take l.at l.named.listing.now.runs.items);
}
