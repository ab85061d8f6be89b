use Rattle.std.proofs.Common.{◌≡◌, ◌≤◌, length, take}
use Rattle.std.specs.Prelude.{sum_by}
use Rattle.std.specs.List.{AllByRecursion}
use Rattle.edf_tal.specs.Tal.{IsValidAnnotation}
use Rattle.edf_tal.specs.declared.limits.TheConstants.{MOST_TEXT_BYTES}
use Rattle.edf_fragment.proofs.record.are_within_limits.Given as goal

abbrev pub invariant-loop-note : goal.invariant-loop-note
invariant-loop-note l = record {
  sum : l.bytes ≡ sum_by (λ a. length a.text) (take l.note-index l.notes);
  low : l.bytes ≤ MOST_TEXT_BYTES;
  each : AllByRecursion IsValidAnnotation (take l.note-index l.notes);
}
