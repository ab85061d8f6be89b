-- What a command answers where a line says what became of it. The texts of lines are not told of
-- here.
use Rattle.std.specs.Prelude.{◌≡◌, ◌⊎◌}
use Rattle.edf_cli.specs.declared.status.Status.{Status}
use Rattle.edf_cli.specs.declared.status.Status.TheVariants.{Trouble}

-- The status is this one, or trouble where the line could not be printed.
abbrev pub Answers : Status → Status → Type 0
Answers intended status = (status ≡ intended) ⊎ (status ≡ Trouble)
