use Rattle.std.proofs.Common.{◌≡◌, ◌++◌, map, All}
use Rattle.std.specs.List.{AllZip}
use Rattle.std.specs.Vec.Iter.{into_iter_items}
use Rattle.edf_page.specs.Programs.{IsGivenBack, IsWholeOrGone, finished_of, made_of}
use Rattle.edf_page.proofs.begun.BegunFiles.into_named.Given as goal

abbrev pub invariant-loop-entry : goal.invariant-loop-entry
invariant-loop-entry l = record {
  parts : l.fn.self ≡ map made_of (l.yielded ++ into_iter_items l.entry-iterator);
  each : AllZip IsGivenBack (finished_of (map made_of l.yielded)) l.files.items;
  gone : All IsWholeOrGone (map made_of l.yielded);
}
