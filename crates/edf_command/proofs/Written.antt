-- Lists of lines, one line more.
use Rattle.std.proofs.Common.{◌≡◌, ℕ, zero, suc, ◌+◌, ◌<◌, ◌≤◌, List, [], ◌∷◌, ◌++◌, length, take}
use Rattle.std.proofs.Common.{drop, get_or, map, refl, sym, ap, ◌∙◌, append_assoc, arith, add-one}
use Rattle.std.proofs.Common.{add-zero}
use Rattle.std.specs.List.{flat_map, zip}
use Rattle.std.proofs.lemmas.List.{take_all, append-nil}
use Rattle.std.specs.Global.{Global}
use Rattle.std.specs.Prelude.{String, string_bytes, min}
use Rattle.std.proofs.lemmas.List.{get_or-map, length-map}
use Rattle.std.proofs.lemmas.Slice.Zip.{length-zip, get_or-zip}
use Rattle.edf_intake.specs.Refusal.{Answer}
use Rattle.edf_header.specs.Key.{Key}
use Rattle.edf_holdings.specs.Holdings.{Holdings}
use Rattle.edf_cli.proofs.Parts.{lines-more, lines-split}
use Rattle.edf_command.specs.Lines.{list_line, list_lines, first_list_lines, take_line}
use Rattle.edf_command.specs.Lines.{first_take_lines}

module _ (spell : ℕ → List ℕ) (h : Holdings) where
  abbrev line_of : ℕ → Key → List ℕ
  line_of place k = list_line spell place k (h k)

  listed-suc : (keys : List Key) (place i : ℕ) (d : Key) → i < length keys
      → list_lines spell h place (take (suc i) keys) ≡ list_lines spell h place (take i keys)
      ++ line_of (place + i) (get_or keys i d)
  listed-suc [] place i d lt = absurd (omega (arith, lt))
  listed-suc (k ∷ ks) place zero d lt =
      append-nil (line_of place k) ∙ ap (λ (n : ℕ). line_of n k) (sym (add-zero place))
  listed-suc (k ∷ ks) place (suc i) d lt =
      let e : (place + 1) + i ≡ place + suc i = omega arith in
      ap (λ (l : List ℕ). line_of place k ++ l) (listed-suc ks (place + 1) i d (omega (arith, lt)))
      ∙ sym (append_assoc (line_of place k) (list_lines spell h (place + 1) (take i ks))
      (line_of ((place + 1) + i) (get_or ks i d)))
      ∙ ap (λ (n : ℕ). (line_of place k ++ list_lines spell h (place + 1) (take i ks))
      ++ line_of n (get_or ks i d)) e

  pub listed-more : (keys : List Key) (place i : ℕ) (d : Key) → i < length keys
      → list_lines spell h place (take (i + 1) keys) ≡ list_lines spell h place (take i keys)
      ++ line_of (place + i) (get_or keys i d)
  listed-more keys place i d lt = ap (λ (n : ℕ). list_lines spell h place (take n keys)) (add-one i)
      ∙ listed-suc keys place i d lt

  pub listed-split : (keys : List Key) (place i : ℕ) (d : Key) → i < length keys
      → (rest : List ℕ) × (list_lines spell h place keys ≡ list_lines spell h place (take i keys)
      ++ (line_of (place + i) (get_or keys i d) ++ rest))
  listed-split [] place i d lt = absurd (omega (arith, lt))
  listed-split (k ∷ ks) place zero d lt = (
    list_lines spell h (place + 1) ks,
    ap (λ (n : ℕ). line_of n k ++ list_lines spell h (place + 1) ks) (sym (add-zero place)),
  )
  listed-split (k ∷ ks) place (suc i) d lt =
      let then = listed-split ks (place + 1) i d (omega (arith, lt)) in
      let e : (place + 1) + i ≡ place + suc i = omega arith in (
        then.0,
        ap (λ (l : List ℕ). line_of place k ++ l) then.1
            ∙ sym (append_assoc (line_of place k) (list_lines spell h (place + 1) (take i ks))
            (line_of ((place + 1) + i) (get_or ks i d) ++ then.0))
            ∙ ap (λ (n : ℕ). (line_of place k ++ list_lines spell h (place + 1) (take i ks))
            ++ (line_of n (get_or ks i d) ++ then.0)) e,
      )

-- ---- files beside their answers

zip-take : {X Y : Type 0} (n : ℕ) (xs : List X) (ys : List Y) →
    zip xs (take n ys) ≡ take n (zip xs ys)
zip-take zero [] ys = refl
zip-take zero (x ∷ xs) ys = refl
zip-take (suc n) [] ys = refl
zip-take (suc n) (x ∷ xs) [] = refl
zip-take (suc n) (x ∷ xs) (y ∷ ys) = ap (λ l. (x, y) ∷ l) (zip-take n xs ys)

module _ (spell : ℕ → List ℕ) (files : List (String Global)) (answers : List Answer) where
  abbrev pub pairs : List (List ℕ × Answer)
  pairs = zip (map string_bytes files) answers

  abbrev pub pair_line : List ℕ × Answer → List ℕ
  pair_line p = take_line spell p.0 p.1

  -- the lines of the first n answers, and of all
  pub first-pairs : (n : ℕ) → first_take_lines spell (map string_bytes files) answers n ≡ flat_map
      pair_line (take n pairs)
  first-pairs n = ap (flat_map pair_line) (zip-take n (map string_bytes files) answers)

  pub all-pairs : first_take_lines spell (map string_bytes files) answers
      (length answers) ≡ flat_map pair_line pairs
  all-pairs = ap (λ (l : List Answer). flat_map pair_line (zip (map string_bytes files) l))
      (take_all (length answers) answers (omega arith))

  pub length-pairs : (n : ℕ) → n ≡ min (length files) (length answers) → length pairs ≤ n
  length-pairs n e = omega (
    arith,
    length-zip (map string_bytes files) answers,
    length-map files (string_bytes {Z = Global}),
    e,
  )

  module _ (n : ℕ) (file : String Global) (answer : Answer) (name : List ℕ)
      (in_files : n < length files) (in_answers : n < length answers)
      (is_file : file ≡ get_or files n file) (is_answer : answer ≡ get_or answers n answer)
      (is_name : name ≡ string_bytes file) where
    there : n < length pairs
    there = omega (
      arith,
      length-zip (map string_bytes files) answers,
      length-map files (string_bytes {Z = Global}),
    )

    at-pair : get_or pairs n (string_bytes file, answer) ≡ (name, answer)
    at-pair =
        get_or-zip (map string_bytes files) answers n (
          string_bytes file,
          answer,
        ) (omega (arith, length-map files (string_bytes {Z = Global}))) in_answers
        ∙ ap (λ (x : List ℕ). (x, get_or answers n answer))
        (get_or-map string_bytes files n file (string_bytes file) in_files
        ∙ sym (ap string_bytes is_file) ∙ sym is_name)
        ∙ ap (λ (a : Answer). (name, a)) (sym is_answer)

    pub taken-more : flat_map pair_line (take (n + 1) pairs) ≡ flat_map pair_line (take n pairs)
        ++ take_line spell name answer
    taken-more = lines-more pair_line pairs n (string_bytes file, answer) there
        ∙ ap (λ (p : List ℕ × Answer). flat_map pair_line (take n pairs) ++ pair_line p) at-pair

    pub taken-split : flat_map pair_line pairs ≡ flat_map pair_line (take n pairs)
        ++ (take_line spell name answer ++ flat_map pair_line (drop (n + 1) pairs))
    taken-split = lines-split pair_line pairs n (string_bytes file, answer) there
        ∙ ap (λ (p : List ℕ × Answer). flat_map pair_line (take n pairs)
        ++ (pair_line p ++ flat_map pair_line (drop (n + 1) pairs))) at-pair

    pub first-split : first_take_lines spell (map string_bytes files) answers (length answers)
        ≡ first_take_lines spell (map string_bytes files) answers n
        ++ (take_line spell name answer ++ flat_map pair_line (drop (n + 1) pairs))
    first-split = all-pairs ∙ taken-split
        ∙ ap (λ (l : List ℕ). l ++ (take_line spell name answer
        ++ flat_map pair_line (drop (n + 1) pairs))) (sym (first-pairs n))

-- ---- recordings from the first place on

module _ (spell : ℕ → List ℕ) (h : Holdings) (keys : List Key) (i : ℕ) (k : Key)
    (within : i < length keys) (is : k ≡ get_or keys i k) where
  next-line : list_line spell (1 + i) (get_or keys i k) (h (get_or keys i k)) ≡ list_line spell
      (i + 1) k (h k)
  next-line =
      let e : 1 + i ≡ i + 1 = omega arith in
      ap (λ (n : ℕ). list_line spell n (get_or keys i k) (h (get_or keys i k))) e
      ∙ ap (λ (q : Key). list_line spell (i + 1) q (h q)) (sym is)

  pub listed-next : list_lines spell h 1 (take (i + 1) keys) ≡ list_lines spell h 1 (take i keys)
      ++ list_line spell (i + 1) k (h k)
  listed-next = listed-more spell h keys 1 i k within
      ∙ ap (λ (l : List ℕ). list_lines spell h 1 (take i keys) ++ l) next-line

  pub listed-past : (rest : List ℕ)
      × (first_list_lines spell h keys (length keys) ≡ list_lines spell h 1 (take i keys)
      ++ (list_line spell (i + 1) k (h k) ++ rest))
  listed-past =
      let it = listed-split spell h keys 1 i k within in (
        it.0,
        ap (list_lines spell h 1) (take_all (length keys) keys (omega arith)) ∙ it.1
            ∙ ap (λ (l : List ℕ). list_lines spell h 1 (take i keys) ++ (l ++ it.0)) next-line,
      )
