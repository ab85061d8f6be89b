-- Text that a terminal may get as it is, and what stands there for any other byte.
use Rattle.std.specs.Prelude.{ℕ, ◌+◌, ◌/◌, ◌%◌, Bool, List, [], ◌∷◌, ◌&&◌, ◌||◌, not}
use Rattle.std.specs.Prelude.{◌==◌, nat_le, nat_lt, if◌then◌else◌}
use Rattle.std.specs.Str.{IsUtf8, NoCharPasses}

-- a number from the first to the last
abbrev pub is_within : ℕ → ℕ → ℕ → Bool
is_within first last c = nat_le first c && nat_le c last

-- U+0000 to U+001F but the line feed, and U+007F to U+009F
abbrev pub is_control : ℕ → Bool
is_control c = (is_within 0 31 c && not (c == 10)) || is_within 127 159 c

-- the marks of Unicode that change the direction of text (Bidi_Control)
abbrev pub is_direction_mark : ℕ → Bool
is_direction_mark c = (c == 0x61c) || (is_within 0x200e 0x200f c
    || (is_within 0x202a 0x202e c || is_within 0x2066 0x2069 c))

-- no terminal gets it
abbrev pub is_hidden : ℕ → Bool
is_hidden c = is_control c || is_direction_mark c

-- or a line feed that may not end a line
abbrev pub is_barred : Bool → ℕ → Bool
is_barred keeps c = is_hidden c || ((c == 10) && not keeps)

-- UTF-8, in which no character is barred
abbrev pub IsPlain : Bool → List ℕ → Type 0
IsPlain keeps bytes = IsUtf8 bytes × NoCharPasses (is_barred keeps) bytes

-- a digit of base 16
abbrev pub hex_digit : ℕ → ℕ
hex_digit n = if nat_lt n 10 then 48 + n else (87 + n)

-- `\x1b` for 27
abbrev pub escape : ℕ → List ℕ
escape byte = 92 ∷ 120 ∷ hex_digit (byte / 16) ∷ hex_digit (byte % 16) ∷ []
