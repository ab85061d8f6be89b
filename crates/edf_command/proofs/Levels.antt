-- What the words of one level come to, by where its walk ends and what fails.
use Rattle.std.proofs.Common.{◌≡◌, ℕ, Bool, true, false, refl, ap, ap₂, List, [], ◌∷◌, Some, None}
use Rattle.std.specs.List.{slice_index_or}
use Rattle.clap.specs.Walk.{Held, Row, Text, Walk, arg_by_index, idle, finished, nothing_held}
use Rattle.clap.specs.Walk.{positional, settled, walk, to_positional, value, walk_from}
use Rattle.clap.specs.Kinds.{Kinds, or_else}
use Rattle.clap.specs.Faults.{check_fault, defaults_fault, settle_fault, is_simple_and_free}
use Rattle.clap.specs.Faults.{level_fault, step_fault, walk_fault}
use Rattle.clap.specs.Simple.{Shape, built, help_shape}
use Rattle.clap.specs.declared.parser.matches.ValueSource.TheVariants.{CommandLine}
use Rattle.clap.specs.declared.builder.value_parser.Reading.TheVariants.{AsWritten}
use Rattle.edf_command.specs.Inside.Commands.{edfstore_app}
use Rattle.edf_command.specs.Arguments.{is_value}
use Rattle.edf_command.proofs.Values.{at, idle_faults, idle_walks, more_faults, more_walks}

-- the program, as `clap` builds it
abbrev pub top : Shape
top = (built edfstore_app).top

-- it is a command of which `clap` states what it finds
pub simple : is_simple_and_free edfstore_app ≡ true
simple = refl

-- what a level fails by, given what is below it, where its walk ends and what its words fail by
abbrev pub level_by : Shape → Bool → Kinds → Walk → Kinds → Kinds
level_by s has_subcommand below w fault = or_else fault
    (or_else below (or_else (settle_fault s.rules s.args_override_self w.held)
    (or_else (defaults_fault (settled s.rules w.held).rows s.rules)
    (check_fault s (finished s.rules w.held) has_subcommand))))

-- the same of a level with none below
abbrev pub leaf_fault : Shape → List Text → Kinds
leaf_fault s words = level_fault s [] nothing_held words false []

pub leaf_by : (s : Shape) (words : List Text) (w : Walk) (fault : Kinds) →
    walk s.rules [] nothing_held words ≡ w → walk_fault s [] (walk_from nothing_held) words ≡ fault
    → leaf_fault s words ≡ level_by s false [] w fault
leaf_by s words w fault w_is f_is = ap₂ (level_by s false []) w_is f_is

-- one more value
pub fault_step : (s : Shape) (h : Held) (position : ℕ) (w : Text) (rest : List Text) →
    is_value w ≡ true
    → walk_fault s [] (at h idle position) (w ∷ rest)
    ≡ or_else (step_fault s position h value)
    (walk_fault s [] (to_positional s.rules (arg_by_index s.rules position) w
    (at h idle position) h) rest)
unfolding walk_fault
fault_step s h position w rest v =
    ap₂ or_else (idle_faults s h position w v)
    (ap (λ k. walk_fault s [] k rest) (idle_walks s.rules h position w v))

pub more_step : (s : Shape) (h : Held) (position : ℕ) (w : Text) (rest : List Text) →
    is_value w ≡ true
    → walk_fault s [] (at h positional position) (w ∷ rest)
    ≡ or_else (step_fault s position h value)
    (walk_fault s [] (to_positional s.rules (arg_by_index s.rules position) w
    (at h positional position) h) rest)
unfolding walk_fault
more_step s h position w rest v =
    ap₂ or_else (more_faults s h position w v)
    (ap (λ k. walk_fault s [] k rest) (more_walks s.rules h position w v))

-- ---- the words' levels

-- the words in order: take, list, export, convert
abbrev pub sub : ℕ → Shape
sub i = slice_index_or (built edfstore_app).subs i help_shape

-- the values of a name
abbrev pub given : Text → List Text → Row
given id values = record {
  id = id;
  values = values;
  count = None;
  source = Some CommandLine;
  reading = AsWritten;
}

-- the values that are read, of which the last may go on
abbrev pub pending : List Row → Text → List Text → Held
pending rows id values = record { rows = rows; pending = Some (id, values); skip = 0 }
