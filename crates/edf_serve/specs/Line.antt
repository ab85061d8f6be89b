-- What a line asks for: exactly these forms, each with its values. The line stands without its line
-- feed.
use Rattle.std.specs.Prelude.{◌≡◌, ◌≢◌, ◌≤◌, ℕ, List, [], ◌++◌, length, Option, Some, None, codes}
use Rattle.std.specs.Str.{IsUtf8}
use Rattle.edf_serve.specs.declared.line.LineCommand.{LineCommand}
use Rattle.edf_serve.specs.declared.line.LineCommand.TheVariants as parsed

-- what can be asked for: that the file of a name is taken, or the list
pub data LineAsked : Type 0 where
  take : List ℕ → LineAsked
  list : LineAsked

-- the bytes ask for this; a name is all that is left of them, and is not empty
abbrev pub AskFor : List ℕ → LineAsked → Type 0
AskFor line (take name) = (line ≡ codes "take " ++ name) × (name ≢ [])
AskFor line list = line ≡ codes "list"

-- it is UTF-8 and not too long
abbrev pub IsLine : List ℕ → Type 0
IsLine line = (length line ≤ 65536) × IsUtf8 line

-- a line is read as what it asks for; one that is read as nothing is no line or asks for nothing
abbrev pub IsRead : List ℕ → Option LineAsked → Type 0
IsRead line (Some asked) = IsLine line × AskFor line asked
IsRead line None = (asked : LineAsked) → IsLine line → AskFor line asked → ⊥

-- what a command asks for
abbrev pub asked_by : LineCommand → LineAsked
asked_by (parsed.Take name) = take name.now
asked_by parsed.List = list
