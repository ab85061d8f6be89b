-- What XML has for a text whose characters beyond ASCII are kept.
use Rattle.std.specs.Prelude.{ℕ, ◌≤◌, ◌⊎◌, ◌==◌, ◌||◌, nat_le, List, [], ◌∷◌, ◌++◌, take, flat_map}
use Rattle.std.specs.Prelude.{if◌then◌else◌}
use Rattle.std.specs.Char.{encode_utf8}
use Rattle.edf_picture.specs.Markup.{piece, cut_mark, IsPlain}

-- what stands for a character: a space for a tab and for what ends a line; for another one of ASCII
-- what stands for its byte; from U+00A0 on its UTF-8, but nothing for U+FFFE and U+FFFF, which XML
-- doesn't have
abbrev pub glyph : ℕ → List ℕ
glyph character =
    if character == 9 || (character == 10 || character == 13) then 32 ∷ []
    else if nat_le character 126 then piece character
    else if character == 65534 || character == 65535 then []
    else if nat_le 160 character then encode_utf8 character
    else []

-- the first `limit` characters, and the mark where there are more
abbrev pub readable_text : ℕ → List ℕ → List ℕ
readable_text limit characters =
    flat_map glyph (take limit characters) ++ cut_mark limit characters

-- a byte that opens and closes nothing: printable, or of a character beyond ASCII
abbrev pub IsReadable : ℕ → Type 0
IsReadable byte = IsPlain byte ⊎ (128 ≤ byte)
