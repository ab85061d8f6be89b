use Rattle.std.proofs.Common.{◌≡◌, take, string_bytes}
use Rattle.edf_picture.specs.Picture.{text_with}
use Rattle.edf_picture.proofs.escape.text_with.Given as goal

abbrev pub invariant-loop-byte : goal.invariant-loop-byte
invariant-loop-byte l = string_bytes l.out ≡ text_with l.from l.to (take l.byte-index l.text)
