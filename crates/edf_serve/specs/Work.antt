-- What a session has at a moment, and what a command does to it before it is answered.
use Rattle.std.specs.Prelude.{◌≡◌, ◌↔◌, ℕ, true, List, Option, Some, None}
use Rattle.edf_fragment.specs.Call.{InputState}
use Rattle.edf_store.specs.Held.{StoreModel}
use Rattle.edf_intake.specs.Refusal.{Answer}
use Rattle.edf_cli.specs.Output.{OutputChange}
use Rattle.edf_cli.specs.declared.status.Status.{Status}
use Rattle.edf_cli.specs.declared.status.Status.TheVariants.{Trouble}
use Rattle.edf_serve.specs.Client.{Heard, Looks}
use Rattle.edf_serve.specs.Files.{Paths}
use Rattle.edf_serve.specs.declared.client.Client as client
use Rattle.edf_serve.specs.declared.files.Sources as sources
use Rattle.edf_serve.specs.declared.room.Outcome.{Outcome}
use Rattle.edf_serve.specs.declared.room.Outcome.TheVariants as outcome
use Rattle.edf_serve.specs.declared.room.Room.{Room}
use Rattle.edf_serve.specs.declared.standing.StoreFiles as standing
use Rattle.edf_serve.specs.declared.text.Text.{Text}

-- the store, paths, the lines of a command and why there are no more, what the client heard, how
-- often it was asked whether the store's files stand, and the worst status so far
pub record Point (S : Type 0) : Type 0 where
  pub store : StoreModel S
  pub paths : Paths
  pub out : Text
  pub why : Text
  pub heard : Heard
  pub looks : Looks
  pub worst : Status

abbrev pub point : {S I R C K : Type 0} → sources.Ghosts I R → client.Ghosts C →
    standing.Ghosts K → StoreModel S → Room I C K → Point S
point i c k store room = record {
  store = store;
  paths = i.paths room.sources;
  out = room.out;
  why = room.why;
  heard = c.heard room.client;
  looks = k.looks room.keeper;
  worst = room.worst;
}

-- a file that was submitted: its name, its path, how its input was found and left, and the answer
pub record Submission : Type 0 where
  pub name : List ℕ
  pub path : List ℕ
  pub from : InputState
  pub to : InputState
  pub answer : Answer

-- the work of a command: what it found and left, what it submitted, and what came of it
pub record Work (S : Type 0) : Type 0 where
  pub old : Point S
  pub new : Point S
  pub submission : Option Submission
  pub outcome : Outcome

-- what was written to a text
abbrev pub grown : Text → Text → OutputChange
grown old new = record {
  before = Some old.bytes.items;
  failed_before = old.failures;
  after = Some new.bytes.items;
  failed_after = new.failures;
}

-- a command that submits nothing went so, and the session is to end just with trouble
abbrev pub WentAs : Outcome → Status → Type 0
WentAs (outcome.Told told is_stopped) status = (told ≡ status)
    × ((is_stopped ≡ true) ↔ (status ≡ Trouble))
WentAs (outcome.Accepted name receipt) status = ⊥

module _ {S : Type 0} (w : Work S) where
  -- it submits nothing, and goes so
  abbrev pub EndsAs : (Status → Type 0) → Type 0
  EndsAs P = (w.submission ≡ None) × ((status : Status) × WentAs w.outcome status × P status)

  -- and it does nothing but write a line
  abbrev pub OnlyWrites : (OutputChange → Status → Type 0) → Type 0
  OnlyWrites P = (w.new ≡ record w.old { out = w.new.out })
      × EndsAs (P (grown w.old.out w.new.out))
