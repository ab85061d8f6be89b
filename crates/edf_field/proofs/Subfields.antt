-- The subfields of a text, one after another.
use Rattle.std.proofs.Common.{◌≡◌, ℕ, ◌+◌, ◌<◌, Bool, true, false, not, eqb, cond, List, [], ◌∷◌}
use Rattle.std.proofs.Common.{◌++◌, length, get_or, take, drop, arith, one-add, add-zero, refl, sym}
use Rattle.std.proofs.Common.{ap, ◌∙◌, filter, inl, inr}
use Rattle.std.specs.Prelude.{nat_lt}
use Rattle.std.specs.List.{prefix_len, slice_split, All}
use Rattle.std.proofs.lemmas.Bool.{cases_lt, lt-ltb, false≢true}
use Rattle.std.proofs.lemmas.List.{length-drop, length-take, take-append-drop, take_all}
use Rattle.std.proofs.lemmas.List.{get_or-drop, drop_all, drop_more, get_or-take}
use Rattle.std.proofs.lemmas.List.Sums.{prefix_len-le-length, prefix_len_passes, prefix_len_stops}
use Rattle.std.proofs.lemmas.List.Splits.{slice_split_none, slice_split_at, slice_split-cons_yes}
use Rattle.edf_field.specs.Number.{unpadded_len}
use Rattle.edf_field.specs.Text.{subfields}

abbrev pub spaces_len : List ℕ → ℕ
spaces_len text = prefix_len (λ b. eqb b 32) text

skip : (x : ℕ) (xs : List ℕ) (b : Bool) → eqb x 32 ≡ b →
    subfields xs ≡ subfields (drop (spaces_len xs) xs) →
    subfields (x ∷ xs) ≡ subfields (drop (spaces_len (x ∷ xs)) (x ∷ xs))
skip x xs true e more = rw (e, one-add) more
skip x xs false e more = ap (λ (n : ℕ). subfields (drop n (x ∷ xs)))
    (sym (ap (λ (b : Bool). cond b (1 + spaces_len xs) 0) e))

-- spaces at the front are in no subfield
pub skip-spaces : (text : List ℕ) → subfields text ≡ subfields (drop (spaces_len text) text)
skip-spaces [] = refl
skip-spaces (x ∷ xs) = skip x xs (eqb x 32) refl (skip-spaces xs)

kept : (part : List ℕ) (parts : List (List ℕ)) → 0 < length part →
    filter (λ p. nat_lt 0 (length p)) (part ∷ parts) ≡ part ∷ filter (λ p. nat_lt 0 (length p))
    parts
kept part parts some = rw (lt-ltb 0 (length part) some) refl

alone : (front : List ℕ) → 0 < length front → All (λ x. eqb x 32 ≡ false) front →
    subfields front ≡ front ∷ []
alone front some all = ap (filter (λ p. nat_lt 0 (length p)))
    (slice_split_none (λ b. eqb b 32) front all) ∙ kept front [] some

followed : (front : List ℕ) (y : ℕ) (ys : List ℕ) → 0 < length front →
    All (λ x. eqb x 32 ≡ false) front → eqb y 32 ≡ true →
    subfields (front ++ y ∷ ys) ≡ front ∷ subfields (y ∷ ys)
followed front y ys some all e =
    ap (filter (λ p. nat_lt 0 (length p))) (slice_split_at (λ b. eqb b 32) front y ys all e)
    ∙ kept front (slice_split (λ b. eqb b 32) ys) some
    ∙ ap (λ (parts : List (List ℕ)). front ∷ parts)
    (ap (filter (λ p. nat_lt 0 (length p))) (sym (slice_split-cons_yes (λ b. eqb b 32) y ys e)))

not-space : (b : Bool) → not b ≡ true → b ≡ false
not-space true e = cc
not-space false e = refl

is-space : (b : Bool) → not b ≡ false → b ≡ true
is-space true e = refl
is-space false e = cc

front-all : (text : List ℕ) → All (λ x. eqb x 32 ≡ false) (take (unpadded_len text) text)
front-all text k d lt =
    let low : k < unpadded_len text = omega (arith, length-take (unpadded_len text) text) in
    not-space (eqb (get_or (take (unpadded_len text) text) k d) 32)
    (rw (get_or-take (unpadded_len text) text k d low)
    (prefix_len_passes (λ b. not (eqb b 32)) text k d low))

-- the front that has no space is the first subfield
pub first-front : (text : List ℕ) → 0 < unpadded_len text →
    subfields text ≡ take (unpadded_len text) text ∷ subfields (drop (unpadded_len text) text)
first-front text some =
    let n = unpadded_len text in
    let le = prefix_len-le-length (λ b. not (eqb b 32)) text in
    let long : 0 < length (take n text) = omega (arith, length-take n text) in
    elim (cases_lt n (length text)) [
      | inl lt ↦
          let e : take n text ++ (get_or text n 0 ∷ drop (n + 1) text) ≡ text =
          ap (λ (l : List ℕ). take n text ++ l) (sym (drop_more text n 0 lt))
          ∙ take-append-drop n text in
          ap subfields (sym e) ∙ followed (take n text) (get_or text n 0) (drop (n + 1) text) long
          (front-all text) (is-space (eqb (get_or text n 0) 32)
          (prefix_len_stops (λ b. not (eqb b 32)) text 0 lt))
          ∙ ap (λ (l : List ℕ). take n text ∷ subfields l) (sym (drop_more text n 0 lt))
      | inr past ↦
          let e : take n text ≡ text = take_all n text past in
          ap subfields (sym e) ∙ alone (take n text) long (front-all text)
          ∙ ap (λ (l : List ℕ). take n text ∷ subfields l) (sym (drop_all n text past))
    ]

-- after the spaces at the front comes something at once, or nothing at all
pub front-some : (text : List ℕ) → 0 < length (drop (spaces_len text) text) →
    0 < unpadded_len (drop (spaces_len text) text)
front-some text some =
    let n = spaces_len text in
    let t = drop n text in
    let lt : n < length text = omega (arith, length-drop n text) in
    let here : eqb (get_or t 0 0) 32 ≡ false =
    ap (λ (k : ℕ). eqb k 32) (get_or-drop n text 0 0
    ∙ ap (λ (k : ℕ). get_or text k 0) (add-zero n))
    ∙ prefix_len_stops (λ b. eqb b 32) text 0 lt in
    elim (cases_lt 0 (unpadded_len t)) [
      | inl more ↦ more
      | inr none ↦
          let zero_len : unpadded_len t ≡ 0 = omega arith in
          let stops : unpadded_len t < length t = omega arith in
          let there : eqb (get_or t 0 0) 32 ≡ true =
          ap (λ (k : ℕ). eqb (get_or t k 0) 32) (sym zero_len)
          ∙ is-space (eqb (get_or t (unpadded_len t) 0) 32)
          (prefix_len_stops (λ b. not (eqb b 32)) t 0 stops) in
          absurd (false≢true (sym here ∙ there))
    ]
