-- What private functions do.
use Rattle.std.specs.Prelude.{◌≡◌, List, ℕ, [], ◌∷◌, ◌++◌, Bool, true, false, Option, Some, None}
use Rattle.std.specs.Prelude.{IfSome}
use Rattle.std.specs.Io.KnownBytes.{Appends}
use Rattle.edf_runs.specs.Outline.{ReadsOutline}
use Rattle.edf_runs.specs.declared.outline.Outline.{Outline}
use Rattle.edf_mend.specs.Mends.{AsksNothing}
use Rattle.edf_mend.specs.declared.mending.Mended.{Mended}
use Rattle.edf_mend.specs.declared.wanted.Wanted.{Wanted}
use Rattle.edf_cli.specs.Made.{MadeFile, finished}
use Rattle.edfmend_command.specs.Run.{IsGood, IsToMend, IsMendedFile, IsNotMended, LeavesPart}
use Rattle.edfmend_command.specs.declared.mend_command.Stop.{Stop}
use Rattle.edfmend_command.specs.declared.planning.Plan.{Plan}
use Rattle.edfmend_command.specs.declared.planning.Plan.TheVariants.{Strict, Lenient}

-- A file is good by its plan.
abbrev pub is_good : Plan → Bool
is_good (Strict outline) = true
is_good (Lenient measured) = false

module _ (bytes : Option (List ℕ)) where
  -- A good file was read first.
  abbrev pub PlansGood : Outline → Type 0
  PlansGood outline = (rest : Option (List ℕ)) × ReadsOutline bytes rest outline

  -- Or the bytes are none.
  abbrev pub PlansStrictly : Option Outline → Type 0
  PlansStrictly (Some outline) = PlansGood outline
  PlansStrictly None = IfSome bytes (λ file. ¬ IsGood file)

  -- A first reading found this.
  abbrev pub Plans : Wanted → Plan → Type 0
  Plans w (Strict outline) = AsksNothing w × PlansGood outline
  Plans w (Lenient measured) = IsToMend bytes w

  -- In a second reading the mended file was written.
  pub record MendsAs (w : Wanted) (is_good : Bool) (before after : Option (List ℕ))
      (mended : Mended) : Type 0 where
    pub new : List ℕ
    pub is_mended : IsMendedFile bytes w is_good mended new
    pub wrote : Appends before after new

  module _ (w : Wanted) (before after : List MadeFile) (name : List ℕ) where
    -- It was written to a file that has its name now.
    pub record MakesFile (known is_good : Bool) (mended : Mended) : Type 0 where
      pub start : Option (List ℕ)
      pub empty : known ≡ true → start ≡ Some []
      pub held : Option (List ℕ)
      pub mends : MendsAs w is_good start held mended
      pub made : after ≡ before ++ (finished name held ∷ [])

    -- It was not, or not whole.
    pub record StopsMaking (stop : Stop) : Type 0 where
      pub stops : IsNotMended bytes w stop.fault
      pub leaves : LeavesPart before after name stop.is_left
