-- What XML has for a text, in an element or an attribute.
use Rattle.std.specs.Prelude.{ℕ, ◌≤◌, ◌≢◌, ◌==◌, ◌&&◌, nat_le, nat_lt, List, [], ◌∷◌, ◌++◌, length}
use Rattle.std.specs.Prelude.{take, codes, flat_map, if◌then◌else◌}

-- what stands for a byte: for `&`, `<`, `>`, `"` and `'` their names, for any other printable byte
-- itself, else nothing
abbrev pub piece : ℕ → List ℕ
piece byte =
    if byte == 38 then codes "&amp;"
    else if byte == 60 then codes "&lt;"
    else if byte == 62 then codes "&gt;"
    else if byte == 34 then codes "&quot;"
    else if byte == 39 then codes "&#39;"
    else if nat_le 32 byte && nat_le byte 126 then byte ∷ []
    else []

-- the mark of a text that was cut, since it has more than `limit` bytes
abbrev pub cut_mark : ℕ → List ℕ → List ℕ
cut_mark limit text = if nat_lt limit (length text) then codes "..." else []

abbrev pub escaped_text : ℕ → List ℕ → List ℕ
escaped_text limit text = flat_map piece (take limit text) ++ cut_mark limit text

-- a printable byte that neither opens nor closes a tag or a value of an attribute
abbrev pub IsPlain : ℕ → Type 0
IsPlain byte = (32 ≤ byte) × (byte ≤ 126) × (byte ≢ 60) × (byte ≢ 62) × (byte ≢ 34) × (byte ≢ 39)
