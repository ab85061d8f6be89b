-- A refused statement changes nothing, or rolls the transaction back.
use Rattle.std.specs.Prelude.{◌⊎◌}
use Rattle.sqlite.specs.State.{State, IsUnchanged, IsRolledBack}

-- the connection is as it was, or the transaction is rolled back
abbrev pub IsUnchangedOrRolledBack : State → State → Type 0
IsUnchangedOrRolledBack old new = IsUnchanged old new ⊎ IsRolledBack old new
