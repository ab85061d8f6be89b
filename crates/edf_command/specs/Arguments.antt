-- The words after the program's name, and the request that they parse to.
use Rattle.std.specs.Prelude.{◌≡◌, ◌⊎◌, ◌&&◌, ◌||◌, ◌==◌, ◌++◌, ℕ, false, Bool, true, not, List, []}
use Rattle.std.specs.Prelude.{◌∷◌, Option, Some, None, codes}
use Rattle.std.specs.Global.{Global}
use Rattle.std.specs.Prelude.{String, if◌then◌else◌, length, map, nat_lt, option_map, string_bytes}
use Rattle.std.specs.Char.{digit_value}
use Rattle.std.specs.List.{list_all}
use Rattle.std.specs.Str.{bytes_eq}
use Rattle.std.specs.Str.Parse.{digits_value}
use Rattle.edf_command.specs.declared.order.Order.{Order}
use Rattle.edf_command.specs.declared.order.Order.TheVariants as parsed

abbrev pub Text : Type 0
Text = List ℕ

-- a word is a value: it is `-` alone, or does not begin with `-`
abbrev pub is_value : Text → Bool
is_value [] = true
is_value (x ∷ rest) = not (x == 45) || length rest == 0

-- a request, with its values: the store's text, the files' texts in order, the place
pub data Request : Type 0 where
  take : Text → List Text → Request
  list : Text → Request
  export : Text → ℕ → Request
  convert : Text → Request

-- the text is digits with a value from 1 to 4,294,967,295
abbrev pub is_place : Text → Bool
is_place text = nat_lt 0 (length text) && (list_all (λ d. nat_lt (digit_value d) 10) text
    && (nat_lt 0 (digits_value 10 text) && nat_lt (digits_value 10 text) 4294967296))

-- the place that a text names
abbrev pub place_of : Text → Option ℕ
place_of text = if is_place text then Some (digits_value 10 text) else None

-- the request of the values after each word that may come first
abbrev pub request_of_take : List Text → Option Request
request_of_take (store ∷ file ∷ files) = Some (take store (file ∷ files))
request_of_take _ = None

abbrev pub request_of_list : List Text → Option Request
request_of_list (store ∷ []) = Some (list store)
request_of_list _ = None

abbrev pub request_of_export : List Text → Option Request
request_of_export (store ∷ place ∷ []) = option_map (export store) (place_of place)
request_of_export _ = None

abbrev pub request_of_convert : List Text → Option Request
request_of_convert (file ∷ []) = Some (convert file)
request_of_convert _ = None

-- the request of the words; no word at all asks to convert standard input
abbrev pub request : List Text → Option Request
request [] = Some (convert (codes "-"))
request (word ∷ values) = if bytes_eq word (codes "take") then request_of_take values
    else (if bytes_eq word (codes "list") then request_of_list values
    else (if bytes_eq word (codes "export") then request_of_export values
    else (if bytes_eq word (codes "convert") then request_of_convert values else None)))

-- the request of an order
abbrev pub meaning : Order → Request
meaning (parsed.Take store files) = take (string_bytes store) (map string_bytes files.items)
meaning (parsed.List store) = list (string_bytes store)
meaning (parsed.Export store place) = export (string_bytes store) place
meaning (parsed.Convert file) = convert (string_bytes file)

-- ---- help and the version

-- the word `help` comes first
abbrev pub begin_with_help : List Text → Bool
begin_with_help [] = false
begin_with_help (word ∷ _) = bytes_eq word (codes "help")

abbrev pub help_flags : List Text
help_flags = codes "--help" ∷ codes "-h" ∷ []

abbrev pub version_flags : List Text
version_flags = codes "--version" ∷ codes "-V" ∷ []

abbrev pub commands : List Text
commands = codes "take" ∷ codes "list" ∷ codes "export" ∷ codes "convert" ∷ []

abbrev pub IsOneOf : List Text → Text → Type 0
IsOneOf [] word = ⊥
IsOneOf (name ∷ names) word = (word ≡ name) ⊎ IsOneOf names word

abbrev pub BeginWithHelpFlag : List Text → Type 0
BeginWithHelpFlag [] = ⊥
BeginWithHelpFlag (word ∷ _) = IsOneOf help_flags word

-- a flag that asks for help or for the version comes first, or one for help comes after a command
abbrev pub BeginWithHelpOrVersion : List Text → Type 0
BeginWithHelpOrVersion [] = ⊥
BeginWithHelpOrVersion (word ∷ rest) = IsOneOf (help_flags ++ version_flags) word
    ⊎ (IsOneOf commands word × BeginWithHelpFlag rest)

-- ---- Rust's words

-- the bytes of the words
abbrev pub texts : List (String Global) → List Text
texts words = map string_bytes words

-- none is a flag
abbrev pub AreValues : List (String Global) → Type 0
AreValues words = list_all is_value (texts words) ≡ true

abbrev pub WordsParseTo : List (String Global) → Order → Type 0
WordsParseTo words parsed = request (texts words) ≡ Some (meaning parsed)

abbrev pub WordsParseToNothing : List (String Global) → Type 0
WordsParseToNothing words = request (texts words) ≡ None

-- none is a flag, and the first is not `help`
abbrev pub AskForNoHelp : List (String Global) → Type 0
AskForNoHelp words = AreValues words × (begin_with_help (texts words) ≡ false)

abbrev pub AskForHelp : List (String Global) → Type 0
AskForHelp words = BeginWithHelpOrVersion (texts words)
