use Rattle.std.proofs.Common.{◌≡◌, string_bytes}
use Rattle.std.specs.List.{flat_map}
use Rattle.edf_picture.specs.Readable.{glyph}
use Rattle.edf_picture.proofs.escape.readable.Given as goal

abbrev pub invariant-loop-character : goal.invariant-loop-character
invariant-loop-character l = string_bytes l.out ≡ flat_map glyph l.yielded
