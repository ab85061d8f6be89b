use Rattle.std.proofs.Common.{◌≡◌, ◌++◌}
use Rattle.std.specs.List.{AllZip}
use Rattle.std.specs.Vec.Iter.{into_iter_items}
use Rattle.edf_page.specs.InsideHeld.{IsOfFile}
use Rattle.edf_page.proofs.night.recordings_of.Given as goal

abbrev pub invariant-loop-file : goal.invariant-loop-file
invariant-loop-file l = record {
  parts : l.fn.files.items ≡ l.yielded ++ into_iter_items l.file-iterator;
  each : AllZip (λ file r. IsOfFile file.items r) l.yielded l.recordings.items;
}
