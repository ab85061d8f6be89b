-- The request in the values that `clap` matched.
use Rattle.std.specs.Prelude.{List, Option, Some, None, codes, if◌then◌else◌, option_and_then}
use Rattle.std.specs.Prelude.{option_map}
use Rattle.std.specs.Str.{bytes_eq}
use Rattle.clap.specs.Walk.{Row, all_of, first_of}
use Rattle.edf_command.specs.Arguments.{Request, Text, place_of}
use Rattle.edf_command.specs.Arguments.Request.{take, list, export, convert}

abbrev pub parsed_take : Option Text → Option (List Text) → Option Request
parsed_take (Some store) (Some files) = Some (take store files)
parsed_take _ _ = None

abbrev pub parsed_export : Option Text → Option Text → Option Request
parsed_export (Some store) (Some place) = option_map (export store) (place_of place)
parsed_export _ _ = None

-- the request of a first word and the values after it
abbrev pub parsed_by : Text → List Row → Option Request
parsed_by word rows = if bytes_eq word (codes "take")
    then parsed_take (first_of (codes "STORE") rows) (all_of (codes "FILE") rows)
    else (if bytes_eq word (codes "list") then option_map list (first_of (codes "STORE") rows)
    else (if bytes_eq word (codes "export") then parsed_export (first_of (codes "STORE") rows)
    (first_of (codes "PLACE") rows)
    else (if bytes_eq word (codes "convert") then option_map convert (first_of (codes "FILE") rows)
    else None)))

abbrev pub request_of : Option (Text × List Row) → Option Request
request_of matches = option_and_then (λ p. parsed_by p.0 p.1) matches
