-- A text is a number by the digits at its front exactly where the grammar has it.
use Rattle.std.proofs.Common.{◌≡◌, ℕ, suc, ◌+◌, ◌-◌, ◌*◌, ◌^◌, ◌≤◌, ◌<◌, ◌==◌, List, [], ◌∷◌, ◌++◌}
use Rattle.std.proofs.Common.{length, get_or, Bool, true, false, arith, refl, sym, ap, subst, ◌∙◌}
use Rattle.std.proofs.Common.{Option, Some, None}
use Rattle.std.proofs.lemmas.Bool.{eqb-true}
use Rattle.std.proofs.lemmas.Bool.Decides.{nat_tests}
use Rattle.std.proofs.lemmas.List.{take-append-drop}
use Rattle.std.proofs.lemmas.List.Folds.{length-prefix_len}
use Rattle.std.proofs.lemmas.List.Elements.{All-replicate}
use Rattle.std.specs.Prelude.{IsTrue, replicate, ℤ}
use Rattle.std.specs.Option.{unwrap_or}
use Rattle.std.specs.Char.{is_ascii_digit}
use Rattle.std.specs.Str.Parse.{digits_value}
use Rattle.edf_field.specs.Number.{AreSpaces, after_digits, after_fraction, digits, digits_len}
use Rattle.edf_field.specs.Number.{fraction, unsigned, signed, IsWhole, whole_value, IsSigned}
use Rattle.edf_field.specs.Number.{signed_value, IsPhysical, fraction_len, unscaled, scaled}
use Rattle.edf_field.specs.Grammar.{AreDigits, point_text, sign_text, filled, with_sign}
use Rattle.edf_field.specs.Grammar.{IsNumberText, IsWholeText, IsSignedText, IsPhysicalText}
use Rattle.edf_field.proofs.Grammar.{front, after, unsigned-is, spaces-are, tail-off, read-as}
use Rattle.edf_field.proofs.Numbers.{front-digits}
use Rattle.edf_field.proofs.Decimals.{value-filled}

by-index : (ds : List ℕ) → ((k : ℕ) → k < length ds → IsTrue (is_ascii_digit (get_or ds k 0))) →
    AreDigits ds
by-index [] at = tt
by-index (d ∷ ds) at = (at 0 (omega arith), by-index ds (λ k lt. at (suc k) (omega arith)))

-- a text is the digits at its front and what follows them
front-are : (text : List ℕ) → AreDigits (digits text)
front-are text = by-index (digits text) (front-digits text)

split : (text : List ℕ) → text ≡ digits text ++ after_digits text
split text = sym (take-append-drop (digits_len text) text)

front-len : (text : List ℕ) → length (digits text) ≡ digits_len text
front-len text = length-prefix_len is_ascii_digit text

-- its sign, and what follows it
record SignOf (text : List ℕ) : Type 0 where
  sign : Option Bool
  parts : text ≡ sign_text sign ++ unsigned text
  minus : (get_or text 0 0 == 45) ≡ unwrap_or sign false

sign-by : (b : ℕ) (bs : List ℕ) (plus minus : Bool) → (b == 43) ≡ plus → (b == 45) ≡ minus →
    SignOf (b ∷ bs)
sign-by b bs true minus p m = subst (λ (x : ℕ). SignOf (x ∷ bs)) (sym (eqb-true b 43 p))
    (record { sign = Some false; parts = refl; minus = refl })
sign-by b bs false true p m = subst (λ (x : ℕ). SignOf (x ∷ bs)) (sym (eqb-true b 45 m))
    (record { sign = Some true; parts = refl; minus = refl })
sign-by b bs false false p m = record { sign = None; parts = rw (p, m) refl; minus = m }

sign-of : (text : List ℕ) → SignOf text
sign-of [] = record { sign = None; parts = refl; minus = refl }
sign-of (b ∷ bs) = sign-by b bs (b == 43) (b == 45) refl refl

-- its dot with the digits after it, and what follows them
record PointOf (text : List ℕ) : Type 0 where
  point : Option (List ℕ)
  parts : text ≡ point_text point ++ after_fraction text
  part : fraction text ≡ unwrap_or point []
  digits_in : AreDigits (unwrap_or point [])

point-by : (b : ℕ) (bs : List ℕ) (dot : Bool) → (b == 46) ≡ dot → PointOf (b ∷ bs)
point-by b bs true e = subst (λ (x : ℕ). PointOf (x ∷ bs)) (sym (eqb-true b 46 e))
    (record {
      point = Some (digits bs);
      parts = ap (λ (x : List ℕ). 46 ∷ x) (split bs);
      part = refl;
      digits_in = front-are bs;
    })
point-by b bs false e = record { point = None; parts = rw e refl; part = rw e refl; digits_in = tt }

point-of : (text : List ℕ) → PointOf text
point-of [] = record { point = None; parts = refl; part = refl; digits_in = tt }
point-of (b ∷ bs) = point-by b bs (b == 46) refl

are-spaces : (n : ℕ) → AreSpaces (replicate n 32)
are-spaces n = All-replicate (λ (x : ℕ). x ≡ 32) n 32 refl

-- digits and spaces: a whole number
whole-read : (text ds : List ℕ) (n : ℕ) → text ≡ ds ++ replicate n 32 → 0 < length ds →
    AreDigits ds → IsWhole text × (whole_value text ≡ digits_value 10 ds)
whole-read text ds n e some all =
    let off = tail-off None n in
    let w : digits text ≡ ds = ap digits e ∙ front ds (replicate n 32) all off in
    let b : after_digits text ≡ replicate n 32 = ap after_digits e
    ∙ after ds (replicate n 32) all off in (
      (omega (arith, front-len text, ap length w), subst AreSpaces (sym b) (are-spaces n)),
      ap (digits_value 10) w,
    )

whole-spelled : (text : List ℕ) → IsWhole text → text ≡ digits text
    ++ replicate (length (after_digits text)) 32
whole-spelled text w = split text ∙ ap (λ (x : List ℕ). digits text
    ++ x) (spaces-are (after_digits text) (length (after_digits text)) refl w.1)

pub whole-texts : (text : List ℕ) (n : ℕ) →
    (IsWhole text × (n ≡ whole_value text) → IsWholeText text n)
    × (IsWholeText text n → IsWhole text × (n ≡ whole_value text))
whole-texts text n = (
  λ (w, v). (
    digits text,
    record {
      some = omega (arith, front-len text, w.0);
      whole_digits = front-are text;
      part_digits = tt;
      spaces = length (after_digits text);
      spelling = whole-spelled text w;
    },
    v,
  ),
  λ (ds, t, v). let r = whole-read text ds t.spaces t.spelling t.some t.whole_digits in
      (r.0, v ∙ sym r.1),
)

minus-is : (sign : Option Bool) (d : ℕ) (more : List ℕ) → IsTrue (is_ascii_digit d) →
    (get_or (sign_text sign ++ (d ∷ more)) 0 0 == 45) ≡ unwrap_or sign false
minus-is None d more h = grind (arith, nat_tests)
minus-is (Some true) d more h = refl
minus-is (Some false) d more h = refl

signed-to : (text : List ℕ) (z : ℤ) → IsSigned text × (z ≡ signed_value text) → IsSignedText text z
signed-to text z (w, v) =
    let s = sign-of text in
    let u : List ℕ = unsigned text in (
      s.sign,
      digits u,
      record {
        some = omega (arith, front-len u, w.0);
        whole_digits = front-are u;
        part_digits = tt;
        spaces = length (after_digits u);
        spelling = s.parts ∙ ap (λ (x : List ℕ). sign_text s.sign ++ x) (whole-spelled u w);
      },
      v ∙ ap (λ (b : Bool). signed b (whole_value u)) s.minus,
    )

signed-from : (text : List ℕ) (z : ℤ) → IsSignedText text z → IsSigned text
    × (z ≡ signed_value text)
signed-from text z (sign, [], t, v) = absurd (omega (arith, t.some))
signed-from text z (sign, d ∷ ds, t, v) =
    let tail : List ℕ = replicate t.spaces 32 in
    let u : unsigned text ≡ d ∷ ds ++ tail = ap unsigned t.spelling
    ∙ unsigned-is sign d ds tail t.whole_digits.0 in
    let r = whole-read (unsigned text) (d ∷ ds) t.spaces u t.some t.whole_digits in
    let m : (get_or text 0 0 == 45) ≡ unwrap_or sign false =
    ap (λ (x : List ℕ). get_or x 0 0 == 45) t.spelling
    ∙ minus-is sign d (ds ++ tail) t.whole_digits.0 in (
      r.0,
      v ∙ sym (ap (λ (b : Bool). signed b (whole_value (unsigned text))) m
          ∙ ap (signed (unwrap_or sign false)) r.1),
    )

pub signed-texts : (text : List ℕ) (z : ℤ) →
    (IsSigned text × (z ≡ signed_value text) → IsSignedText text z)
    × (IsSignedText text z → IsSigned text × (z ≡ signed_value text))
signed-texts text z = (signed-to text z, signed-from text z)

scaled-is : (text whole part : List ℕ) (sign : Option Bool) (at : ℕ) →
    (get_or text 0 0 == 45) ≡ unwrap_or sign false → fraction_len text ≡ length part
    → unscaled text ≡ digits_value 10 whole * 10 ^ length part + digits_value 10 part →
    scaled text (at - fraction_len text) ≡ with_sign sign
    (digits_value 10 (filled whole part at))
scaled-is text whole part sign at minus few is =
    ap (λ (b : Bool). signed b (unscaled text * 10 ^ (at - fraction_len text))) minus
    ∙ ap (λ (n : ℕ). with_sign sign (n * 10 ^ (at - fraction_len text))) is
    ∙ ap (λ (n : ℕ). with_sign sign
    ((digits_value 10 whole * 10 ^ length part + digits_value 10 part) * 10 ^ (at - n))) few
    ∙ ap (with_sign sign) (sym (value-filled whole part at))

physical-to : (text : List ℕ) (at : ℕ) (z : ℤ) → IsPhysical text × (fraction_len text ≤ at)
    × (z ≡ scaled text (at - fraction_len text)) → IsPhysicalText text at z
physical-to text at z (p, le, v) =
    let s = sign-of text in
    let u : List ℕ = unsigned text in
    let f = point-of (after_digits u) in
    let few : fraction_len text ≡ length (unwrap_or f.point []) = ap length f.part in
    record {
      sign = s.sign;
      whole = digits u;
      point = f.point;
      number = record {
        some = omega (arith, front-len u, p.0);
        whole_digits = front-are u;
        part_digits = f.digits_in;
        spaces = length (after_fraction (after_digits u));
        spelling = s.parts ∙ ap (λ (x : List ℕ). sign_text s.sign ++ x) (split u
            ∙ ap (λ (x : List ℕ). digits u ++ x)
            (f.parts ∙ ap (λ (x : List ℕ). point_text f.point
            ++ x) (spaces-are (after_fraction (after_digits u))
            (length (after_fraction (after_digits u))) refl p.1)));
      };
      places_in = omega (arith, few, le);
      value = v ∙ scaled-is text (digits u) (unwrap_or f.point []) s.sign at s.minus few
          (ap (λ (x : List ℕ). digits_value 10 (digits u) * 10 ^ length x + digits_value 10 x)
          f.part);
    }

-- a physical value's reading by its parts
pub record IsReadAs (text whole part : List ℕ) (sign : Option Bool) : Type 0 where
  pub physical : IsPhysical text
  pub minus : (get_or text 0 0 == 45) ≡ unwrap_or sign false
  pub few : fraction_len text ≡ length part
  pub value : unscaled text ≡ digits_value 10 whole * 10 ^ length part + digits_value 10 part

pub physical-read : (text whole : List ℕ) (sign : Option Bool) (point : Option (List ℕ)) →
    IsNumberText text sign whole point → IsReadAs text whole (unwrap_or point []) sign
physical-read text [] sign point t = absurd (omega (arith, t.some))
physical-read text (d ∷ ds) sign point t =
    let r = read-as sign d ds point t.spaces t.whole_digits t.part_digits in
    record {
      physical = subst IsPhysical (sym t.spelling) r.is_physical;
      minus = ap (λ (x : List ℕ). get_or x 0 0 == 45) t.spelling
          ∙ minus-is sign d (ds ++ (point_text point ++ replicate t.spaces 32)) t.whole_digits.0;
      few = ap fraction_len t.spelling ∙ r.places_are;
      value = ap unscaled t.spelling ∙ r.size_is;
    }

pub physical-from : (text : List ℕ) (at : ℕ) (z : ℤ) → IsPhysicalText text at z → IsPhysical text
    × (fraction_len text ≤ at) × (z ≡ scaled text (at - fraction_len text))
physical-from text at z p =
    let r = physical-read text p.whole p.sign p.point p.number in (
      r.physical,
      omega (arith, r.few, p.places_in),
      p.value
          ∙ sym (scaled-is text p.whole (unwrap_or p.point []) p.sign at r.minus r.few r.value),
    )

pub physical-texts : (text : List ℕ) (at : ℕ) (z : ℤ) →
    (IsPhysical text × (fraction_len text ≤ at) × (z ≡ scaled text (at - fraction_len text)) →
    IsPhysicalText text at z)
    × (IsPhysicalText text at z → IsPhysical text × (fraction_len text ≤ at)
    × (z ≡ scaled text (at - fraction_len text)))
physical-texts text at z = (physical-to text at z, physical-from text at z)
