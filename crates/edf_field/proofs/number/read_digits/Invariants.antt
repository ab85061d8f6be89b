use Rattle.std.proofs.Common.{◌≡◌, ◌<◌, ◌^◌, take}
use Rattle.std.specs.Str.Parse.{digits_value}
use Rattle.edf_field.proofs.number.read_digits.Given as goal

abbrev pub invariant-loop-d : goal.invariant-loop-d
invariant-loop-d l = (l.number ≡ digits_value 10 (take l.d-index l.text))
    × (l.number < 10 ^ l.d-index)
