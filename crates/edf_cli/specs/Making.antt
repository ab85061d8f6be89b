-- A maker of files, before and after a call.
use Rattle.std.specs.Prelude.{◌≡◌, ℕ, List, Bool}
use Rattle.edf_cli.specs.Made.{MadeFile}
use Rattle.edf_cli.specs.There.{There}
use Rattle.edf_cli.specs.declared.new_files.NewFiles.{Ghosts}

pub record Making : Type 0 where
  pub known : Bool
  pub there : There
  pub before : List MadeFile
  pub failed_before : ℕ
  pub after : List MadeFile
  pub failed_after : ℕ

abbrev pub making : {P W : Type 0} → Ghosts P W → P → P → Making
making g old new = record {
  known = g.known old;
  there = g.there old;
  before = g.made old;
  failed_before = g.failed old;
  after = g.made new;
  failed_after = g.failed new;
}

-- no file was begun, and no call failed
abbrev pub MakesNothing : Making → Type 0
MakesNothing m = (m.after ≡ m.before) × (m.failed_after ≡ m.failed_before)
