-- Texts of fields, as a lenient reading takes them, and what ASCII has in place of other letters.
use Rattle.std.specs.Prelude.{ℕ, ◌-◌, ◌==◌, ◌||◌, List, [], ◌∷◌, ◌++◌, length, take, drop, codes}
use Rattle.std.specs.Prelude.{slice_index_or, ◌≡◌, ◌⊎◌, ◌≤◌, All, ◌&&◌, nat_le, if◌then◌else◌}
use Rattle.std.specs.Prelude.{nat_eq}
use Rattle.std.specs.List.{suffix_len, prefix_len, flat_map, starts_with}
use Rattle.std.specs.Str.{chars, is_utf8}
use Rattle.edf_time.specs.Civil.{IsVisible}
use Rattle.edf_field.specs.Text.{spaces, subfields}
use Rattle.std.specs.Borrow.{Bor}

-- Zeros and spaces at the end of a text fill its field.
abbrev pub unfilled : List ℕ → List ℕ
unfilled text = take (length text - suffix_len (λ b. (b == 0) || (b == 32)) text) text

-- A text stands in a field of this width: it is cut where it is longer, and filled with spaces.
abbrev pub fitted : ℕ → List ℕ → List ℕ
fitted width text = take width (text ++ spaces width)

-- The field has spaces for what fills it.
abbrev pub spaced : List ℕ → List ℕ
spaced text = fitted (length text) (unfilled text)

-- A number may stand at the right of its field, too.
abbrev pub numeral_text : List ℕ → List ℕ
numeral_text text = drop (prefix_len (λ b. b == 32) (unfilled text)) (unfilled text)

abbrev pub numeral : List ℕ → List ℕ
numeral text = fitted (length text) (numeral_text text)

abbrev pub first_subfield : List ℕ → List ℕ
first_subfield text = slice_index_or (subfields text) 0 []

-- These parts stand one after another, each behind this byte.
abbrev pub joined_by : ℕ → List (List ℕ) → List ℕ
joined_by b parts = flat_map (λ part. b ∷ part) parts

abbrev pub IsNoCode : List ℕ → Type 0
IsNoCode code = (code ≡ codes "X") ⊎ (code ≡ codes "x")

-- A code that can be given is 1 to 60 printable characters of ASCII without a space, and not X.
pub record IsCode (code : List ℕ) : Type 0 where
  pub some : 1 ≤ length code
  pub few : length code ≤ 60
  pub visible : All IsVisible code
  pub other : ¬ IsNoCode code

-- The characters from one code to another become a text.
abbrev pub letter_row : ℕ × ℕ × Bor (List ℕ) → ℕ × ℕ × List ℕ
letter_row r = (r.0, r.1, r.2.now)

-- Control bytes and the no-break space; signs of units; letters of Latin-1, Ä Ö Ü ä ö ü ß Æ æ Å å
-- Ø ø before the ranges in which they lie.
abbrev pub text_rows : List (ℕ × ℕ × List ℕ)
text_rows = (0, 31, codes " ") ∷ (127, 127, codes " ") ∷ (160, 160, codes " ")
    ∷ (181, 181, codes "u") ∷ (956, 956, codes "u") ∷ (176, 176, codes "deg")
    ∷ (186, 186, codes "deg") ∷ (937, 937, codes "Ohm") ∷ (8486, 8486, codes "Ohm")
    ∷ (178, 178, codes "2") ∷ (179, 179, codes "3") ∷ (177, 177, codes "+-")
    ∷ (196, 196, codes "Ae") ∷ (228, 228, codes "ae") ∷ (214, 214, codes "Oe")
    ∷ (246, 246, codes "oe") ∷ (220, 220, codes "Ue") ∷ (252, 252, codes "ue")
    ∷ (223, 223, codes "ss") ∷ (198, 198, codes "AE") ∷ (230, 230, codes "ae")
    ∷ (197, 197, codes "Aa") ∷ (229, 229, codes "aa") ∷ (216, 216, codes "Oe")
    ∷ (248, 248, codes "oe") ∷ (192, 195, codes "A") ∷ (224, 227, codes "a") ∷ (199, 199, codes "C")
    ∷ (231, 231, codes "c") ∷ (200, 203, codes "E") ∷ (232, 235, codes "e") ∷ (204, 207, codes "I")
    ∷ (236, 239, codes "i") ∷ (209, 209, codes "N") ∷ (241, 241, codes "n") ∷ (210, 213, codes "O")
    ∷ (242, 245, codes "o") ∷ (217, 219, codes "U") ∷ (249, 251, codes "u") ∷ (221, 221, codes "Y")
    ∷ (253, 253, codes "y") ∷ (255, 255, codes "y") ∷ []

-- In a dimension: the micro sign, the Greek letter, and æ, which the micro sign of DOS is in
-- Latin-1; degree signs; ohm signs; small 2 and 3. A dimension decides the scale, so no other is
-- guessed: for what it becomes there is no room.
abbrev pub dimension_rows : List (ℕ × ℕ × List ℕ)
dimension_rows = (181, 181, codes "u") ∷ (956, 956, codes "u") ∷ (230, 230, codes "u")
    ∷ (176, 176, codes "deg") ∷ (186, 186, codes "deg") ∷ (937, 937, codes "Ohm")
    ∷ (8486, 8486, codes "Ohm") ∷ (178, 178, codes "2") ∷ (179, 179, codes "3")
    ∷ (0, 1_114_111, codes "no reading") ∷ []

-- A dimension may begin with the micro sign of Shift-JIS: two bytes, as that of UTF-8 has.
abbrev pub micro_as_utf8 : List ℕ → List ℕ
micro_as_utf8 text =
    if starts_with nat_eq text (131 ∷ 202 ∷ []) then 194 ∷ (181 ∷ drop 2 text) else text

-- A character becomes the text of the first row that has it; a question mark where none has.
abbrev pub by_rows : List (ℕ × ℕ × List ℕ) → ℕ → List ℕ
by_rows [] c = codes "?"
by_rows (r ∷ rs) c = if nat_le r.0 c && nat_le c r.1 then r.2 else by_rows rs c

-- A printable character of ASCII stays.
abbrev pub letters : List (ℕ × ℕ × List ℕ) → ℕ → List ℕ
letters rows c = if nat_le 32 c && nat_le c 126 then c ∷ [] else by_rows rows c

-- ASCII spells the text so, in any length: the characters of its UTF-8 or, where it is none, each
-- byte as Latin-1 has it.
abbrev pub spelled_by : List (ℕ × ℕ × List ℕ) → List ℕ → List ℕ
spelled_by rows text = flat_map (letters rows) (if is_utf8 text then chars text else text)

abbrev pub spelling : List ℕ → List ℕ
spelling text = spelled_by text_rows text
