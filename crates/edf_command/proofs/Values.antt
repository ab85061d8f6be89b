-- A word that is a value, and one step of `clap` at it.
use Rattle.std.proofs.Common.{◌≡◌, ◌&&◌, ℕ, Bool, true, false, not, refl, sym, arith, List, [], ◌∷◌}
use Rattle.std.proofs.Common.{length, Some, None, true≢false, ne_eqb}
use Rattle.std.specs.Str.{bytes_eq}
use Rattle.clap.specs.Lexer.{long_of, long_of_rest, short_of, short_of_rest, strip_byte}
use Rattle.clap.specs.Walk.{Held, Rule, Text, Waiting, Walk, arg_by_index, idle, positional}
use Rattle.clap.specs.Walk.{to_positional, value, walked}
use Rattle.std.proofs.Common.{cond}
use Rattle.std.specs.Prelude.{◌||◌, ◌==◌, option_and_then}
use Rattle.clap.specs.Faults.{step_fault, turn_fault}
use Rattle.clap.specs.Simple.{Shape}
use Rattle.edf_command.specs.Arguments.{is_value}

-- ---- tests that hold

pub and_left : (a b : Bool) → (a && b) ≡ true → a ≡ true
and_left true b e = refl
and_left false b e = e

pub and_right : (a b : Bool) → (a && b) ≡ true → b ≡ true
and_right true b e = e
and_right false b e = absurd (true≢false (sym e))

not_true : (b : Bool) → not b ≡ true → b ≡ false
not_true true e = sym e
not_true false e = refl

-- ---- a word that is a value

-- it begins no option, long or short, and does not end the options
pub record IsValue (w : Text) : Type 0 where
  pub long : long_of w ≡ None
  pub short : short_of w ≡ None
  pub dashes : bytes_eq w (45 ∷ 45 ∷ []) ≡ false

-- one byte begins none, and neither does a first byte other than a hyphen
one_byte : (x : ℕ) → IsValue (x ∷ [])
one_byte x = record { long = long (x == 45); short = short (x == 45); dashes = dashes (x == 45) }
  where
    long : (b : Bool) → option_and_then long_of_rest
        (option_and_then (strip_byte 45) (cond b (Some []) None)) ≡ None
    long true = refl
    long false = refl

    short : (b : Bool) → option_and_then short_of_rest (cond b (Some []) None) ≡ None
    short true = refl
    short false = refl

    dashes : (b : Bool) → (b && false) ≡ false
    dashes true = refl
    dashes false = refl

other_first : (x y : ℕ) (rest : Text) → (x == 45) ≡ false → IsValue (x ∷ y ∷ rest)
other_first x y rest e = record { long = rw e refl; short = rw e refl; dashes = rw e refl }

or_left : (a : Bool) → (a || false) ≡ true → a ≡ true
or_left true e = refl
or_left false e = e

pub is_value_is : (w : Text) → is_value w ≡ true → IsValue w
is_value_is [] e = record { long = refl; short = refl; dashes = refl }
is_value_is (x ∷ []) e = one_byte x
is_value_is (x ∷ y ∷ rest) e =
    let two : (length (y ∷ rest) == 0) ≡ false =
    ne_eqb (length (y ∷ rest)) 0 (λ z. absurd (omega (arith, z))) in
    let other : not (x == 45) ≡ true = or_left _ (rw two at e) in
    other_first x y rest (not_true _ other)

-- ---- one step of `clap` at such a word

-- no word has been met, and the values before were positional ones
abbrev pub at : Held → Waiting → ℕ → Walk
at h waiting position = record {
  held = h;
  waiting = waiting;
  position = position;
  is_trailing =
      false;
  stopped = None;
}

-- the word is the value at that position, where each position takes one
pub idle_walks : (c : List Rule) (h : Held) (position : ℕ) (w : Text) → is_value w ≡ true
    → walked c [] (at h idle position) w ≡ to_positional c (arg_by_index c position) w
    (at h idle position) h
unfolding walked
idle_walks c h position w e = let v = is_value_is w e in rw (v.dashes, v.long, v.short) refl

-- the same where the position before takes many
pub more_walks : (c : List Rule) (h : Held) (position : ℕ) (w : Text) → is_value w ≡ true
    → walked c [] (at h positional position) w ≡ to_positional c (arg_by_index c position) w
    (at h positional position) h
unfolding walked
more_walks c h position w e = let v = is_value_is w e in rw (v.dashes, v.long, v.short) refl

-- and what fails is what the position refuses
pub idle_faults : (s : Shape) (h : Held) (position : ℕ) (w : Text) → is_value w ≡ true →
    turn_fault s [] (at h idle position) w ≡ step_fault s position h value
idle_faults s h position w e = let v = is_value_is w e in rw (v.dashes, v.long, v.short) refl

pub more_faults : (s : Shape) (h : Held) (position : ℕ) (w : Text) → is_value w ≡ true →
    turn_fault s [] (at h positional position) w ≡ step_fault s position h value
more_faults s h position w e = let v = is_value_is w e in rw (v.dashes, v.long, v.short) refl
