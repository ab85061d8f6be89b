-- No byte of a readable text opens or closes a tag or a value.
use Rattle.std.proofs.Common.{◌≡◌, ◌<◌, ◌≤◌, ℕ, ◌==◌, ◌||◌, Bool, true, false, List, [], ◌∷◌}
use Rattle.std.proofs.Common.{length, take, get_or, refl, inl, inr, sym, arith, nat_le, nat_lt, All}
use Rattle.std.proofs.Common.{if◌then◌else◌, append-nil}
use Rattle.std.specs.Char.{encode_utf8}
use Rattle.std.specs.List.{flat_map}
use Rattle.std.proofs.lemmas.Bool.Decides.{nat_tests}
use Rattle.std.proofs.lemmas.List.Elements.{All-append, All-nil, All-weaker, All-from_get_or}
use Rattle.std.proofs.lemmas.Str.{inside_one}
use Rattle.edf_picture.specs.Markup.{piece, cut_mark, IsPlain}
use Rattle.edf_picture.specs.Readable.{glyph, readable_text, IsReadable}
use Rattle.edf_picture.proofs.Plain.{plain-piece, plain-mark}

picked : (test : Bool) (x y : List ℕ) → (test ≡ true → All IsReadable x) →
    (test ≡ false → All IsReadable y) → All IsReadable (if test then x else y)
picked true x y f g = f refl
picked false x y f g = g refl

plain-readable : (bytes : List ℕ) → All IsPlain bytes → All IsReadable bytes
plain-readable bytes all = All-weaker IsPlain IsReadable (λ byte p. inl p) bytes all

low-byte : (byte : ℕ) → nat_lt byte 128 ≡ true → byte < 128
low-byte byte low = grind (arith, nat_tests)

at-least : (byte c : ℕ) (test : Bool) → nat_lt byte 128 ≡ test → nat_le 160 c ≡ true →
    (byte < 128 → c ≡ byte) → 128 ≤ byte
at-least byte c true low high same = let e = same (low-byte byte low) in grind (arith, nat_tests)
at-least byte c false low high same = grind (arith, nat_tests)

high-byte : (c : ℕ) (k : ℕ) → nat_le 160 c ≡ true → k < length (encode_utf8 c) →
    IsReadable (get_or (encode_utf8 c) k 0)
high-byte c k high within =
    let byte = get_or (encode_utf8 c) k 0 in
    inr (at-least byte c (nat_lt byte 128) refl high
    (inside_one c [] (encode_utf8 c) k (sym (append-nil (encode_utf8 c))) within))

pub readable-glyph : (character : ℕ) → All IsReadable (glyph character)
readable-glyph character =
    picked (character == 9 || (character == 10 || character == 13)) _ _
    (λ _. plain-readable (32 ∷ []) (plain-piece 32)) (λ _.
    picked (nat_le character 126) _ _ (λ _. plain-readable (piece character)
    (plain-piece character)) (λ _.
    picked (character == 65534 || character == 65535) _ _ (λ _. All-nil IsReadable) (λ _.
    picked (nat_le 160 character) _ _
    (λ high. All-from_get_or IsReadable (encode_utf8 character) 0
    (λ k within. high-byte character k high within))
    (λ _. All-nil IsReadable))))

pub readable-glyphs : (characters : List ℕ) → All IsReadable (flat_map glyph characters)
readable-glyphs [] = All-nil IsReadable
readable-glyphs (x ∷ xs) = All-append IsReadable (glyph x) (flat_map glyph xs) (readable-glyph x)
    (readable-glyphs xs)

pub readable-all : (limit : ℕ) (characters : List ℕ) →
    All IsReadable (readable_text limit characters)
readable-all limit characters = All-append IsReadable (flat_map glyph (take limit characters))
    (cut_mark limit characters) (readable-glyphs (take limit characters))
    (plain-readable (cut_mark limit characters) (plain-mark limit characters))
