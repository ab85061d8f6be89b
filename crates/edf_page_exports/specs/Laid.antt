-- What lies one after another in memory: what is given to a call, and what it answers.
use Rattle.std.specs.Prelude.{◌≡◌, ◌⊎◌, ℕ, ◌+◌, ◌-◌, ◌^◌, ◌≤◌, ◌<◌, min, List, ◌∷◌, ◌++◌, length}
use Rattle.std.specs.Prelude.{All, Some, map, take, drop}
use Rattle.std.specs.List.{flat_map}
use Rattle.std.specs.Str.{IsUtf8}
use Rattle.edf_page.specs.Night.{IsNight, pieces_of, stopped_line}
use Rattle.edf_page.specs.Programs.{RunsDone, CompareDone, IsMendRan, pieces_of_ran}
use Rattle.edf_page.specs.declared.night.GivenNight.{GivenNight}
use Rattle.edf_page.specs.declared.programs.Ran.{Ran}
use Rattle.edf_page.specs.declared.stopped.Stopped.{Stopped}
use Rattle.edf_page.specs.declared.stopped.Stopped.TheVariants.{Memory}
use Rattle.edfmend_command.specs.Words.{Values}
use Rattle.edf_page_exports.specs.Asked.{Asks, asked_by, values_of}

-- ---- what is given

-- the pieces one after another
abbrev pub laid : List (List ℕ) → List ℕ
laid pieces = flat_map (λ piece. piece) pieces

-- these bytes are just the pieces, which have these sizes; by a law there is one such list at most
pub record AreCut (bytes sizes : List ℕ) (pieces : List (List ℕ)) : Type 0 where
  pub all : bytes ≡ laid pieces
  pub sized : sizes ≡ map length pieces

-- and they are texts
pub record AreTexts (bytes sizes : List ℕ) (texts : List (List ℕ)) : Type 0 where
  pub cut : AreCut bytes sizes texts
  pub each : All IsUtf8 texts

-- ---- what is answered

module _ (out out' parts parts' : List ℕ) where
  -- the pieces lie at the front of the bytes, and how many they are and their sizes at the front of
  -- the numbers; what is behind is as it was
  pub record AreLaid (pieces : List (List ℕ)) : Type 0 where
    pub lie : out' ≡ laid pieces ++ drop (length (laid pieces)) out
    pub sized : parts' ≡ length pieces ∷ (map length pieces ++ drop (length pieces + 1) parts)

  -- they have no room, or their sizes have none; how many they are is told, and how many bytes they
  -- have, as far as that is a number of 64 bits
  pub record HaveNoRoom (pieces : List (List ℕ)) : Type 0 where
    pub less : (length out < length (laid pieces)) ⊎ (length parts < length pieces + 1)
    pub told : parts' ≡ length pieces ∷ min (length (laid pieces)) (2 ^ 64 - 1) ∷ drop 2 parts
    pub stays : out' ≡ out

  -- a line at the front says that for this reason nothing is given, as far as it has room, and how
  -- many bytes of it lie there is told; what is behind is as it was
  pub record TellsWhy (stopped : Stopped) : Type 0 where
    pub count : ℕ
    pub counted : count ≡ min (length (stopped_line stopped)) (length out)
    pub lie : out' ≡ take count (stopped_line stopped) ++ drop count out
    pub told : parts' ≡ count ∷ drop 1 parts

  -- nothing is written
  pub record Stays : Type 0 where
    pub bytes : out' ≡ out
    pub numbers : parts' ≡ parts

  -- The answers to a call from which these pieces may come: 0, they are laid down; 1, they have no
  -- room; 2, it stopped for such a reason; 3, it is no call, or has no room for two numbers. There
  -- is no other.
  abbrev pub IsAnswer : (IsCall : Type 0) → (List (List ℕ) → Type 0) → (Stopped → Type 0) → ℕ →
      Type 0
  IsAnswer IsCall Come MayStop answer =
      ((answer ≡ 0) × (2 ≤ length parts) × ((pieces : List (List ℕ)) × Come pieces × AreLaid
      pieces))
      ⊎ (((answer ≡ 1) × (2 ≤ length parts)
      × ((pieces : List (List ℕ)) × Come pieces × HaveNoRoom pieces))
      ⊎ (((answer ≡ 2) × (2 ≤ length parts)
      × ((stopped : Stopped) × MayStop stopped × TellsWhy stopped))
      ⊎ ((answer ≡ 3) × Stays × ((length parts < 2) ⊎ (¬ IsCall)))))

-- why nothing comes of files, and why nothing of a program
abbrev pub AnyStop : Stopped → Type 0
AnyStop stopped = Unit {0}

abbrev pub IsMemory : Stopped → Type 0
IsMemory stopped = stopped ≡ Memory

-- ---- files

-- files of these names, which have these bytes, lie there
pub record AreFiles (names name_sizes bytes sizes : List ℕ) (own_names files : List (List ℕ)) :
    Type 0 where
  pub named : AreTexts names name_sizes own_names
  pub cut : AreCut bytes sizes files
  pub each : length own_names ≡ length files

abbrev pub LieFiles : (names name_sizes bytes sizes : List ℕ) → Type 0
LieFiles names name_sizes bytes sizes = (own_names : List (List ℕ)) × (files : List (List ℕ))
    × AreFiles names name_sizes bytes sizes own_names files

-- the pieces of what comes of them
pub record ComeOfFiles (names name_sizes bytes sizes : List ℕ) (pieces : List (List ℕ)) : Type 0
  where
    pub own_names : List (List ℕ)
    pub files : List (List ℕ)
    pub are_files : AreFiles names name_sizes bytes sizes own_names files
    pub night : GivenNight
    pub is_night : IsNight own_names files night
    pub are_pieces : pieces ≡ pieces_of night

-- ---- what a program does

-- a number that asks for something, and texts
abbrev pub LieRuns : (which : ℕ) → (prefix name : List ℕ) → Type 0
LieRuns which prefix name = Asks which × IsUtf8 prefix × IsUtf8 name

-- the pieces of what `edfruns` does by this number with a file
pub record ComeOfRuns (which from to : ℕ) (prefix name bytes : List ℕ) (pieces : List (List ℕ)) :
    Type 0 where
  pub lie : LieRuns which prefix name
  pub ran : Ran
  pub is_ran : RunsDone name bytes (asked_by which name prefix from to) ran
  pub are_pieces : pieces ≡ pieces_of_ran ran

-- the pieces of what `edfruns compare` does with two files
pub record ComeOfCompare (first second : List ℕ) (pieces : List (List ℕ)) : Type 0 where
  pub ran : Ran
  pub is_ran : CompareDone first second ran
  pub are_pieces : pieces ≡ pieces_of_ran ran

-- values for `edfmend` lie there, and the name of its file is a text
pub record AreValues (texts sizes name : List ℕ) (values : Values) : Type 0 where
  pub each : List (List ℕ)
  pub are_texts : AreTexts texts sizes each
  pub named : IsUtf8 name
  pub are_values : values_of name each ≡ Some values

abbrev pub LieValues : (texts sizes name : List ℕ) → Type 0
LieValues texts sizes name = (values : Values) × AreValues texts sizes name values

-- the pieces of what it does by them with a file
pub record ComeOfValues (texts sizes name bytes : List ℕ) (pieces : List (List ℕ)) : Type 0 where
  pub values : Values
  pub are_values : AreValues texts sizes name values
  pub ran : Ran
  pub is_ran : IsMendRan values name bytes ran
  pub are_pieces : pieces ≡ pieces_of_ran ran
