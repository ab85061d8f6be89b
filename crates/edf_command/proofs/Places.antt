-- The places that texts name.
use Rattle.std.proofs.Common.{◌≡◌, ◌<◌, ◌&&◌, ℕ, Bool, true, false, refl, ap, ap₂, List, [], ◌∷◌}
use Rattle.std.proofs.Common.{length, Some, None, Ok, Err, arith, slice_index, ne_eqb, ◌^◌, lt-ltb}
use Rattle.std.proofs.Common.{ltb-true, nat_lt}
use Rattle.std.specs.Char.{digit_value}
use Rattle.std.specs.List.{list_all}
use Rattle.std.specs.Str.Parse.{AllDigits, IsNumeral, ParsesUnsigned, digits_value}
use Rattle.std.specs.Str.Parse.{without_leading_plus}
use Rattle.std.specs.declared.num.ParseIntError.{ParseIntError}
use Rattle.edf_command.specs.Arguments.{is_place, place_of}
use Rattle.edf_command.proofs.Values.{and_left, and_right}

digits_pass : (t : List ℕ) → AllDigits 10 t → list_all (λ d. nat_lt (digit_value d) 10) t ≡ true
digits_pass [] h = refl
digits_pass (d ∷ ds) h = ap₂ ◌&&◌ (lt-ltb (digit_value d) 10 h.0) (digits_pass ds h.1)

pass_digits : (t : List ℕ) → list_all (λ d. nat_lt (digit_value d) 10) t ≡ true → AllDigits 10 t
pass_digits [] h = tt
pass_digits (d ∷ ds) h = (
  ltb-true (digit_value d) 10 (and_left _ _ h),
  pass_digits ds (and_right _ _ h),
)

-- the text begins with no plus
abbrev pub has_no_plus : List ℕ → Type 0
has_no_plus t = without_leading_plus t ≡ t

pub some_place : (t : List ℕ) (n : ℕ) → has_no_plus t →
    ParsesUnsigned {E = ParseIntError} 32 10 t (Ok n) → (n ≡ 0 → ⊥) → Some n ≡ place_of t
some_place t n same h positive =
    let g : (IsNumeral 10 t × (digits_value 10 t < 2 ^ 32)) × (n ≡ digits_value 10 t) =
    rw same at h in
    let is : is_place t ≡ true = rw (
      lt-ltb 0 (length t) g.0.0.0,
      digits_pass t g.0.0.1,
      lt-ltb 0 (digits_value 10 t) (omega (arith, g.1, positive)),
      lt-ltb (digits_value 10 t) 4294967296 g.0.1,
    ) refl in
    rw is (ap Some g.1)

pub no_place : (t : List ℕ) (e : ParseIntError) → has_no_plus t → ParsesUnsigned 32 10 t (Err e) →
    None ≡ place_of t
no_place t e same h = go (is_place t) refl
  where
    go : (b : Bool) → is_place t ≡ b → None ≡ place_of t
    go false is = rw is refl
    go true is =
        let some : 0 < length t = ltb-true 0 (length t)
        (and_left (nat_lt 0 (length t)) (list_all (λ d. nat_lt (digit_value d) 10) t &&
        (nat_lt 0 (digits_value 10 t) && nat_lt (digits_value 10 t) 4294967296)) is) in
        let rest = and_right (nat_lt 0 (length t))
        (list_all (λ d. nat_lt (digit_value d) 10) t &&
        (nat_lt 0 (digits_value 10 t) && nat_lt (digits_value 10 t) 4294967296)) is in
        let digits = and_left (list_all (λ d. nat_lt (digit_value d) 10) t)
        (nat_lt 0 (digits_value 10 t) && nat_lt (digits_value 10 t) 4294967296) rest in
        let range = and_right (list_all (λ d. nat_lt (digit_value d) 10) t)
        (nat_lt 0 (digits_value 10 t) && nat_lt (digits_value 10 t) 4294967296) rest in
        let most : digits_value 10 t < 4294967296 =
        ltb-true (digits_value 10 t) 4294967296
        (and_right (nat_lt 0 (digits_value 10 t)) (nat_lt (digits_value 10 t) 4294967296)
        range) in
        absurd ((rw same at h) ((some, pass_digits t digits), most))

pub no_plus : (t : List ℕ) → (slice_index t 0 ≡ 43 → ⊥) → has_no_plus t
no_plus t h = rw (ne_eqb (slice_index t 0) 43 h) refl

pub empty_no_plus : (t : List ℕ) → length t ≡ 0 → has_no_plus t
empty_no_plus [] e = refl
empty_no_plus (x ∷ xs) e = absurd (omega (arith, e))
