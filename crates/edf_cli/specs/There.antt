-- The entries of a directory, where they are known.
use Rattle.std.specs.Prelude.{◌≡◌, ◌≢◌, ◌⊎◌, ℕ, List, Bool, true, false, Option, Some, None, IfSome}
use Rattle.std.specs.Prelude.{Result, Ok, Err}
use Rattle.edf_cli.specs.declared.new_files.FileStage.TheVariants.{Removed}
use Rattle.edf_cli.specs.declared.new_files.Unfinished.{Unfinished}
use Rattle.edf_cli.specs.declared.new_files.Unfinished.TheVariants.{IsThere, Failed}
use Rattle.edf_cli.specs.Made.{MadeFile}

-- the entry of a name: nothing, or something with these bytes, where they are known
abbrev pub Entry : Type 0
Entry = Option (Option (List ℕ))

abbrev pub There : Type 0
There = List ℕ → Option Entry

-- as far as is known, nothing has this name
abbrev pub IsVacant : There → List ℕ → Type 0
IsVacant there name = IfSome (there name) (λ entry. entry ≡ None)

-- as far as is known, something has this name
abbrev pub MayBeThere : There → List ℕ → Type 0
MayBeThere there name = IfSome (there name) (λ entry. entry ≢ None)

-- the entry becomes this one; an entry that was not known may stay so
abbrev pub Becomes : Option Entry → Option Entry → Entry → Type 0
Becomes None new now = (new ≡ None) ⊎ (new ≡ Some now)
Becomes (Some old) new now = new ≡ Some now

-- the entries of all names are unchanged
abbrev pub IsSame : There → There → Type 0
IsSame old new = (other : List ℕ) → new other ≡ old other

-- the entries of all other names are unchanged
abbrev pub IsSameBut : There → There → List ℕ → Type 0
IsSameBut old new name = (other : List ℕ) → other ≢ name → new other ≡ old other

-- a file whose writer held this got its name, which nothing had; or it did not, and nothing
-- changed: something may have the name, or it failed
abbrev pub IsNamed : There → There → List ℕ → Option (List ℕ) → Result ℕ Unfinished → Type 0
IsNamed old new name held (Ok bytes) = IsVacant old name
    × Becomes (old name) (new name) (Some held) × IsSameBut old new name
IsNamed old new name held (Err IsThere) = MayBeThere old name × IsSame old new
IsNamed old new name held (Err Failed) = IsSame old new

-- the file has its name
abbrev pub HasName : MadeFile → Type 0
HasName file = (file.whole ≡ true) × (file.stage ≢ Removed)

-- a file was removed or not: if it had its name and is gone, nothing has that name then, and else
-- nothing changed
pub record IsTakenAway (old new : There) (file : MadeFile) (is_gone : Bool) : Type 0 where
  pub others : IsSameBut old new file.name
  pub gone : HasName file → is_gone ≡ true → Becomes (old file.name) (new file.name) None
  pub unchanged : (¬ HasName file) ⊎ (is_gone ≡ false) → new file.name ≡ old file.name
