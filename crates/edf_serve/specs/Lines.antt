-- The lines of an input, which line feeds end.
use Rattle.std.specs.Prelude.{◌≡◌, ℕ, ◌≤◌, cond, ◌==◌, List, [], ◌∷◌, ◌++◌, length, take}
use Rattle.std.specs.Prelude.{Option, Some, IfSome, option_map}
use Rattle.std.specs.List.{slice_split}
use Rattle.edf_fragment.specs.Failures.{saturating_increment}
use Rattle.edf_serve.specs.declared.lines.Next.{Next}
use Rattle.edf_serve.specs.declared.lines.Next.TheVariants.{Line, Ended, Failed}

-- all parts but the last, which is none where it is empty
abbrev pub without_empty_last : List (List ℕ) → List (List ℕ)
without_empty_last [] = []
without_empty_last ([] ∷ []) = []
without_empty_last ((byte ∷ bytes) ∷ []) = (byte ∷ bytes) ∷ []
without_empty_last (part ∷ next ∷ more) = part ∷ without_empty_last (next ∷ more)

-- the lines of these bytes, without their line feeds
abbrev pub lines_of : List ℕ → List (List ℕ)
lines_of bytes = without_empty_last (slice_split (λ b. b == 10) bytes)

-- these bytes up to and with the last line feed: a byte is among them that is one, or has one
-- behind
abbrev pub onto_lines : ℕ → List ℕ → List ℕ
onto_lines byte [] = cond (byte == 10) (byte ∷ []) []
onto_lines byte (next ∷ more) = byte ∷ next ∷ more

abbrev pub whole_lines : List ℕ → List ℕ
whole_lines [] = []
whole_lines (byte ∷ bytes) = onto_lines byte (whole_lines bytes)

-- what is to come of an input: the bytes that are left, where they are known; how many reads failed
-- so far; and the line that was given last
pub record Coming : Type 0 where
  pub left : Option (List ℕ)
  pub failed : ℕ
  pub line : List ℕ

-- the lines that are to come
abbrev pub lines_in : Coming → Option (List (List ℕ))
lines_in c = option_map lines_of c.left

-- The first of the lines that were to come was given, and the others are still to come. Of one of
-- more than 65,536 bytes a front of one more is given, and what is still to come is not said.
pub record GivesLine (before after : Coming) : Type 0 where
  pub first : IfSome (lines_in before) (λ lines. (whole : List ℕ) × (rest : List (List ℕ))
      × (lines ≡ whole ∷ rest) × (after.line ≡ take 65537 whole)
      × (length after.line ≤ 65536 → lines_in after ≡ Some rest))
  pub failed : after.failed ≡ before.failed

-- none was given, and so many reads failed by then: all that was to come is still
pub record GivesNone (before after : Coming) (failures : ℕ) : Type 0 where
  pub same : IfSome (lines_in before) (λ lines. lines_in after ≡ Some lines)
  pub failed : after.failed ≡ failures

-- Bytes that were gathered begin with this line, and this is the rest of them, whatever comes
-- behind. Of a longer one a front is given, and of its rest nothing is said.
abbrev pub BeginsWith : List ℕ → List ℕ → List ℕ → List ℕ → Type 0
BeginsWith gathered line rest later = (whole : List ℕ) × (others : List (List ℕ))
    × (lines_of (gathered ++ later) ≡ whole ∷ others) × (line ≡ take 65537 whole)
    × (length line ≤ 65536 → lines_of (rest ++ later) ≡ others)

-- the next line came; or there was none; or a read failed
abbrev pub IsNext : Coming → Coming → Next → Type 0
IsNext before after Line = GivesLine before after
IsNext before after Ended = GivesNone before after before.failed
    × IfSome (lines_in before) (λ lines. lines ≡ [])
IsNext before after Failed = GivesNone before after (saturating_increment before.failed)
