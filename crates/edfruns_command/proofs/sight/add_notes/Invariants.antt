use Rattle.std.proofs.Common.{◌++◌, List, take}
use Rattle.edf_tal.specs.Tal.{Annotation}
use Rattle.edfruns_command.specs.Picturing.{AreNoted}
use Rattle.edfruns_command.proofs.sight.add_notes.Given as goal

abbrev pub invariant-loop-note : goal.invariant-loop-note
invariant-loop-note l = (before : List Annotation) → AreNoted before l.initial.notes.items →
    AreNoted (before ++ take l.note-index l.note-items) l.notes.items
