-- No byte of what is written opens or closes a tag or a value.
use Rattle.std.proofs.Common.{◌≡◌, ℕ, ◌==◌, ◌&&◌, Bool, true, false, List, [], ◌∷◌, length, take}
use Rattle.std.proofs.Common.{codes, refl, arith, rules, nat_le, nat_lt, All, if◌then◌else◌}
use Rattle.std.specs.List.{flat_map}
use Rattle.std.proofs.lemmas.Bool.Decides.{nat_tests}
use Rattle.std.proofs.lemmas.List.Elements.{All-append, All-nil, All-cons, All-from_recursion}
use Rattle.edf_picture.specs.Markup.{piece, cut_mark, escaped_text, IsPlain}

picked : (test : Bool) (x y : List ℕ) → (test ≡ true → All IsPlain x) →
    (test ≡ false → All IsPlain y) → All IsPlain (if test then x else y)
picked true x y f g = f refl
picked false x y f g = g refl

itself : (byte : ℕ) → (byte == 60) ≡ false → (byte == 62) ≡ false → (byte == 34) ≡ false →
    (byte == 39) ≡ false
    → (nat_le 32 byte && nat_le byte 126) ≡ true → IsPlain byte
itself byte a b c d e = grind (arith, nat_tests)

pub plain-piece : (byte : ℕ) → All IsPlain (piece byte)
plain-piece byte =
    picked (byte == 38) _ _ (λ _. All-from_recursion IsPlain (codes "&amp;") (search rules)) (λ _.
    picked (byte == 60) _ _ (λ _. All-from_recursion IsPlain (codes "&lt;") (search rules)) (λ a.
    picked (byte == 62) _ _ (λ _. All-from_recursion IsPlain (codes "&gt;") (search rules)) (λ b.
    picked (byte == 34) _ _ (λ _. All-from_recursion IsPlain (codes "&quot;") (search rules)) (λ c.
    picked (byte == 39) _ _ (λ _. All-from_recursion IsPlain (codes "&#39;") (search rules)) (λ d.
    picked (nat_le 32 byte && nat_le byte 126) _ _
    (λ e. All-cons IsPlain byte [] (itself byte a b c d e) (All-nil IsPlain))
    (λ _. All-nil IsPlain))))))

pub plain-pieces : (bytes : List ℕ) → All IsPlain (flat_map piece bytes)
plain-pieces [] = All-nil IsPlain
plain-pieces (x ∷ xs) = All-append IsPlain (piece x) (flat_map piece xs) (plain-piece x)
    (plain-pieces xs)

pub plain-mark : (limit : ℕ) (text : List ℕ) → All IsPlain (cut_mark limit text)
plain-mark limit text = picked (nat_lt limit (length text)) _ _
    (λ _. All-from_recursion IsPlain (codes "...") (search rules)) (λ _. All-nil IsPlain)

pub plain-escaped : (limit : ℕ) (text : List ℕ) → All IsPlain (escaped_text limit text)
plain-escaped limit text = All-append IsPlain (flat_map piece (take limit text))
    (cut_mark limit text) (plain-pieces (take limit text)) (plain-mark limit text)
