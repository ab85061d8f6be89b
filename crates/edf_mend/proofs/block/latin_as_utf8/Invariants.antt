use Rattle.std.proofs.Common.{◌≡◌, take, string_bytes, encode_utf8_all}
use Rattle.edf_mend.proofs.block.latin_as_utf8.Given as goal

abbrev pub invariant-loop-b : goal.invariant-loop-b
invariant-loop-b l = string_bytes l.letters ≡ encode_utf8_all (take l.b-index l.text)
