-- Keys and their bytes.
use Rattle.std.proofs.Common.{◌≡◌, ℕ, zero, suc, ◌+◌, ◌-◌, ◌*◌, ◌/◌, ◌≤◌, ◌⊎◌, true, false, Bool}
use Rattle.std.proofs.Common.{List, [], ◌∷◌, ◌++◌, length, get_or, take, drop, arith, refl, sym, ap}
use Rattle.std.proofs.Common.{◌∙◌, append_assoc, length-append, inl, inr}
use Rattle.std.proofs.lemmas.List.{take_at, drop_at, get_or_at, take-append-drop, drop-drop}
use Rattle.std.proofs.lemmas.List.{length-drop, drop_more, drop-take, take-take, nil_from_length}
use Rattle.std.proofs.lemmas.List.Elements.{All-head, All-tail}
use Rattle.std.specs.Prelude.{All, cond, ◌==◌}
use Rattle.std.specs.List.{flat_map}
use Rattle.edf_header.specs.Key.{IsSized, Key, dated_bytes, key_at, key_bytes}
use Rattle.edf_field.specs.Number.{field}
use Rattle.edf_header.specs.Identity.{IsShaped}
use Rattle.edf_header.specs.Signal.{rows}
use Rattle.edf_field.specs.Text.{spaces}
use Rattle.edf_header.proofs.Strides.{cut, length-parts}

-- rows joined and cut again, and the other way round
pub rows-back : (ss : List (List ℕ)) → All (λ s. length s ≡ 256) ss →
    rows (length ss) (flat_map (λ s. s) ss) ≡ ss
rows-back [] each = refl
rows-back (s ∷ ss) each =
    let e : length s ≡ 256 = All-head (λ (s : List ℕ). length s ≡ 256) s ss each in
    ap (λ (l : List ℕ). l ∷ rows (length ss) (drop 256 (s ++ flat_map (λ s. s) ss)))
    (take_at s (flat_map (λ s. s) ss) 256 e)
    ∙ ap (λ (l : List ℕ). s ∷ rows (length ss) l) (drop_at s (flat_map (λ s. s) ss) 256 e)
    ∙ ap (λ (l : List (List ℕ)). s ∷ l)
    (rows-back ss (All-tail (λ (s : List ℕ). length s ≡ 256) s ss each))

pub joined-back : (n : ℕ) (bytes : List ℕ) → length bytes ≡ 256 * n →
    flat_map (λ s. s) (rows n bytes) ≡ bytes
joined-back zero bytes len = sym (nil_from_length bytes (omega arith))
joined-back (suc n) bytes len =
    ap (λ (l : List ℕ). take 256 bytes ++ l)
    (joined-back n (drop 256 bytes) (omega (arith, length-drop 256 bytes)))
    ∙ take-append-drop 256 bytes

-- two fields side by side
two-fields : (bytes : List ℕ) (at m n : ℕ) → field bytes at m
    ++ field bytes (at + m) n ≡ field bytes at (m + n)
two-fields bytes at m n =
    let xs : List ℕ = drop at bytes in
    let small : m ≤ m + n = omega arith in
    rw (
      ← drop-drop m at bytes,
      ← drop-take m n xs,
      ← take-take m (m + n) xs small,
    ) (take-append-drop m (take (m + n) xs))

-- a field between what comes before it and what comes after
pub field-at : (a b c bytes : List ℕ) (at len : ℕ) → bytes ≡ a ++ (b ++ c) → length a ≡ at →
    length b ≡ len → field bytes at len ≡ b
field-at a b c bytes at len is la lb =
    rw is (ap (take len) (drop_at a (b ++ c) at la) ∙ take_at b c len lb)

-- the three parts that are at the same offsets in all keys, m being the 70 bytes after the patient
record Parts (p d : List ℕ) (ss : List (List ℕ)) (bytes : List ℕ) : Type 0 where
  patient : field bytes 0 80 ≡ p
  duration : field bytes 150 8 ≡ d
  signals : rows ((length bytes - 158) / 256) (drop 158 bytes) ≡ ss

parts-at : (p m d : List ℕ) (ss : List (List ℕ)) (bytes : List ℕ) → bytes ≡ p
    ++ (m ++ (d ++ flat_map (λ s. s) ss))
    → length p ≡ 80 → length m ≡ 70 → length d ≡ 8 → All (λ s. length s ≡ 256) ss →
    Parts p d ss bytes
parts-at p m d ss bytes is lp lm ld each =
    let tail : List ℕ = flat_map (λ (s : List ℕ). s) ss in
    let ls : length tail ≡ length ss * 256 = length-parts (λ (s : List ℕ). s) 256 ss each in
    let len : length bytes ≡ 158 + 256 * length ss =
    omega (
      arith,
      ap length is,
      length-append p (m ++ (d ++ tail)),
      length-append m (d ++ tail),
      length-append d tail,
    ) in
    let n : (length bytes - 158) / 256 ≡ length ss = omega arith in
    let e : drop 158 bytes ≡ tail =
    ap (drop 158) (is ∙ sym (append_assoc p m (d ++ tail)) ∙ sym (append_assoc (p ++ m) d tail))
    ∙ drop_at ((p ++ m) ++ d) tail 158 (omega (
      arith,
      length-append (p ++ m) d,
      length-append p m,
    )) in
    record {
      patient = rw is (take_at p (m ++ (d ++ tail)) 80 lp);
      duration = field-at (p ++ m) d tail bytes 150 8 (is ∙ sym (append_assoc p m (d ++ tail)))
          (omega (arith, length-append p m)) ld;
      signals = ap (λ (k : ℕ). rows k (drop 158 bytes)) n ∙ ap (rows (length ss)) e
          ∙ rows-back ss each;
    }

-- a key reads back from its bytes, by its parts
parts-back : (dated : Bool) (p a d : List ℕ) (ss : List (List ℕ)) (bytes : List ℕ) → bytes ≡ p
    ++ (dated_bytes dated a ++ (d ++ flat_map (λ s. s) ss))
    → length p ≡ 80 → length a ≡ cond dated 59 69 → length d ≡ 8 → All (λ s. length s ≡ 256) ss
    → key_at bytes ≡ record { patient = p; dated = dated; after = a; duration = d; signals = ss }
parts-back true p a d ss bytes is lp la ld each =
    let rest : List ℕ = d ++ flat_map (λ (s : List ℕ). s) ss in
    let k = parts-at p (68 ∷ (a ++ spaces 10)) d ss bytes is lp
    (omega (arith, length-append a (spaces 10))) ld each in
    let mark : get_or bytes 80 0 ≡ 68 = rw is (get_or_at p 68 ((a ++ spaces 10) ++ rest) 0 80 lp) in
    let after : field bytes 81 59 ≡ a =
    field-at (p ++ 68 ∷ []) a (spaces 10 ++ rest) bytes 81 59 (is
    ∙ sym (append_assoc p (68 ∷ []) (a ++ (spaces 10 ++ rest))
    ∙ ap (λ (l : List ℕ). p ++ 68 ∷ l) (sym (append_assoc a (spaces 10) rest))))
    (omega (arith, length-append p (68 ∷ []))) la in
    let dated-is : (get_or bytes 80 0 == 68) ≡ true = rw mark refl in
    let after-is : field bytes 81 (cond (get_or bytes 80 0 == 68) 59 69) ≡ a = rw mark after in
    λ i. record {
      patient = k.patient i;
      dated = dated-is i;
      after = after-is i;
      duration =
          k.duration i;
      signals = k.signals i;
    }
parts-back false p a d ss bytes is lp la ld each =
    let rest : List ℕ = d ++ flat_map (λ (s : List ℕ). s) ss in
    let k = parts-at p (88 ∷ a) d ss bytes is lp (omega arith) ld each in
    let mark : get_or bytes 80 0 ≡ 88 = rw is (get_or_at p 88 (a ++ rest) 0 80 lp) in
    let after : field bytes 81 69 ≡ a =
    field-at (p ++ 88 ∷ []) a rest bytes 81 69 (is ∙ sym (append_assoc p (88 ∷ []) (a ++ rest)))
    (omega (arith, length-append p (88 ∷ []))) la in
    let dated-is : (get_or bytes 80 0 == 68) ≡ false = rw mark refl in
    let after-is : field bytes 81 (cond (get_or bytes 80 0 == 68) 59 69) ≡ a = rw mark after in
    λ i. record {
      patient = k.patient i;
      dated = dated-is i;
      after = after-is i;
      duration =
          k.duration i;
      signals = k.signals i;
    }

pub key-back : (k : Key) → IsSized k → key_at (key_bytes k) ≡ k
key-back k s = parts-back k.dated k.patient k.after k.duration k.signals (key_bytes k) refl
    s.patient s.after s.duration s.signals

-- the bytes after the patient, of both kinds
front-back : (bytes : List ℕ) (n : ℕ) → length bytes ≡ 158 + 256 * n →
    ((get_or bytes 80 0 ≡ 68) × (field bytes 140 10 ≡ spaces 10)) ⊎ (get_or bytes 80 0 ≡ 88)
    → dated_bytes (get_or bytes 80 0 == 68)
    (field bytes 81 (cond (get_or bytes 80 0 == 68) 59 69)) ≡ field bytes 80 70
front-back bytes n len kind =
    let first : drop 80 bytes ≡ get_or bytes 80 0 ∷ drop 81 bytes =
    drop_more bytes 80 0 (omega arith) in
    elim kind [
      | inl d ↦
          let split : field bytes 81 59 ++ field bytes 140 10 ≡ take 69 (drop 81 bytes) =
          two-fields bytes 81 59 10 in
          rw (d.0, first, d.0) (ap (λ (l : List ℕ). 68 ∷ (field bytes 81 59 ++ l)) (sym d.1)
          ∙ ap (λ (l : List ℕ). 68 ∷ l) split)
      | inr x ↦ rw (x, first, x) refl
    ]

pub bytes-back : (bytes : List ℕ) → IsShaped bytes → key_bytes (key_at bytes) ≡ bytes
bytes-back bytes s =
    let count : (length bytes - 158) / 256 ≡ s.signals = omega (arith, s.len) in
    let m = front-back bytes s.signals s.len s.dated in
    let tail : flat_map (λ (x : List ℕ). x)
    (rows ((length bytes - 158) / 256) (drop 158 bytes)) ≡ drop 158 bytes =
    rw count (joined-back s.signals (drop 158 bytes)
    (omega (arith, s.len, length-drop 158 bytes))) in
    ap (λ (l : List ℕ). field bytes 0 80
    ++ (l ++ (field bytes 150 8 ++ flat_map (λ (x : List ℕ). x)
    (rows ((length bytes - 158) / 256) (drop 158 bytes))))) m
    ∙ ap (λ (l : List ℕ). field bytes 0 80 ++ (field bytes 80 70 ++ (field bytes 150 8 ++ l))) tail
    ∙ ap (λ (l : List ℕ). field bytes 0 80 ++ (field bytes 80 70 ++ l)) (cut bytes 150 8)
    ∙ ap (λ (l : List ℕ). field bytes 0 80 ++ l) (cut bytes 80 70)
    ∙ cut bytes 0 80
