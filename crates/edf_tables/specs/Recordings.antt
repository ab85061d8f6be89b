-- The table `recording` has a row for each recording.
use Rattle.std.specs.Prelude.{◌≡◌, ℕ, ℤ, List, [], ◌∷◌, Option, Some, None, Contains, filter, map}
use Rattle.std.specs.declared.cmp.Ordering.TheVariants.{Less}
use Rattle.std.specs.Ordering.{is_eq}
use Rattle.sqlite.specs.declared.types.Value.TheVariants.{Int, Blob}
use Rattle.sqlite.specs.Order.{Row}
use Rattle.sqlite.specs.State.{State}
use Rattle.sqlite_value.specs.Order.{value_cmp}
use Rattle.sqlite_trees.specs.Tree.{IsAscending}
use Rattle.sqlite_keyed.specs.Lists.{sort_by}
use Rattle.edf_tables.specs.Columns.{stored_recordings, stored_id, stored_identity, identity_order}
use Rattle.edf_tables.specs.Schema.{HasBoth}

-- selects the rows with this identity
abbrev pub named : List ℕ → List Row → List Row
named identity rows = filter (λ row. is_eq (value_cmp (stored_identity row) (Blob identity))) rows

-- this is the id of one of the rows, or None where there are none
abbrev pub IsIdIn : List Row → Option ℤ → Type 0
IsIdIn rows None = rows ≡ []
IsIdIn rows (Some id) = Contains (map (λ row. stored_id row) rows) (Int id)

-- sorts the rows by their identities
abbrev pub by_identity : List Row → List Row
by_identity rows = sort_by identity_order rows

-- a query shows the id and the identity
abbrev pub shown_recording : Row → Row
shown_recording row = stored_id row ∷ stored_identity row ∷ []

-- the tables are there, and no two recordings have one identity
pub record AreNamedApart (s : State) : Type 0 where
  pub schema : HasBoth s.now.schema
  pub apart : IsAscending (λ a b. identity_order a b ≡ Less)
      (by_identity (stored_recordings s.now.trees))
