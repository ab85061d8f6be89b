-- What is known of a call's text, said of the text that is meant. Where they are two texts, the
-- equation fails at once: without it antt opens the reading of SQL to tell them apart.
use Rattle.std.proofs.Common.{◌≡◌, ℕ, List, Result, subst}
use Rattle.sqlite.specs.Order.{Row}
use Rattle.sqlite.specs.Schema.{Schema}
use Rattle.sqlite.specs.declared.error.Error.{Error}
use Rattle.sqlite.specs.Listing.{understood}
use Rattle.sqlite.specs.State.{State, Executes, Survives, CommitsBy, Shown}
use Rattle.sqlite.proofs.Callers.{IsPlain}

pub plain_of : (schema : Schema) (mine its : List ℕ) → IsPlain (understood schema mine) →
    mine ≡ its → IsPlain (understood schema its)
plain_of schema mine its h same = subst (λ (t : List ℕ). IsPlain (understood schema t)) same h

pub shown_of : (its mine : List ℕ) (params : Row) (old new : State) (rows : List Row) →
    Shown its params old new rows → its ≡ mine → Shown mine params old new rows
shown_of its mine params old new rows h same =
    subst (λ (t : List ℕ). Shown t params old new rows) same h

pub runs_of : (its mine : List ℕ) (params : Row) (old new : State) (r : Result ℕ Error) →
    Executes its params old new r → its ≡ mine → Executes mine params old new r
runs_of its mine params old new r h same =
    subst (λ (t : List ℕ). Executes t params old new r) same h

pub crash_of : (its mine : List ℕ) (params : Row) (old new : State) →
    Survives old new (CommitsBy its params old) → its ≡ mine →
    Survives old new (CommitsBy mine params old)
crash_of its mine params old new h same =
    subst (λ (t : List ℕ). Survives old new (CommitsBy t params old)) same h
