-- Seven texts are values.
use Rattle.std.proofs.Common.{◌≡◌, ℕ, ◌<◌, ◌≤◌, List, [], ◌∷◌, length, map, get_or, refl, arith}
use Rattle.std.proofs.Common.{Bor}
use Rattle.std.proofs.Common.{Bool, Option, Some, ap, sym, ◌∙◌, ◌==◌}
use Rattle.std.specs.Prelude.{is_none, not}
use Rattle.std.proofs.lemmas.Bool.{ne_eqb}
use Rattle.edfmend_command.specs.Words.{Values}
use Rattle.edf_page_exports.specs.Asked.{value_of, values_of}

-- values by their fields
abbrev built : List ℕ → (out patient set hidden date time : Option (List ℕ)) → Bool → Bool → Values
built name out patient set hidden date time dry all = record {
  input = name;
  output = out;
  dry = dry;
  patient = patient;
  set_patient = set;
  deidentify = hidden;
  startdate = date;
  starttime = time;
  all = all;
}

abbrev pub text : List (Bor (List ℕ)) → ℕ → Bor (List ℕ) → List ℕ
text texts at d = (get_or texts at d).now

pub of-seven : (name : List ℕ) (texts : List (Bor (List ℕ))) (d : Bor (List ℕ)) →
    7 ≤ length texts → length texts < 8 → values_of name (map (λ t. t.now) texts)
    ≡ Some (built name (value_of (text texts 0 d))
    (value_of (text texts 1 d)) (value_of (text texts 2 d))
    (value_of (text texts 3 d)) (value_of (text texts 4 d))
    (value_of (text texts 5 d)) (is_none (value_of (text texts 0 d)))
    (not (is_none (value_of (text texts 6 d)))))
of-seven name [] d least most = absurd (omega (arith, least))
of-seven name (t ∷ []) d least most = absurd (omega (arith, least))
of-seven name (t ∷ u ∷ []) d least most = absurd (omega (arith, least))
of-seven name (t ∷ u ∷ v ∷ []) d least most = absurd (omega (arith, least))
of-seven name (t ∷ u ∷ v ∷ w ∷ []) d least most = absurd (omega (arith, least))
of-seven name (t ∷ u ∷ v ∷ w ∷ x ∷ []) d least most = absurd (omega (arith, least))
of-seven name (t ∷ u ∷ v ∷ w ∷ x ∷ y ∷ []) d least most = absurd (omega (arith, least))
of-seven name (t ∷ u ∷ v ∷ w ∷ x ∷ y ∷ z ∷ []) d least most = refl
of-seven name (t ∷ u ∷ v ∷ w ∷ x ∷ y ∷ z ∷ more ∷ rest) d least most = absurd (omega (arith, most))

empty : (bytes : List ℕ) → (length bytes == 0) ≡ is_none (value_of bytes)
empty [] = refl
empty (b ∷ bytes) = ne_eqb (length (b ∷ bytes)) 0 (λ is. omega (arith, is))

pub made-values : (name : List ℕ) (texts : List (Bor (List ℕ))) (d : Bor (List ℕ)) →
    7 ≤ length texts → length texts < 8 →
    (out patient set hidden date time : Option (List ℕ)) (dry none : Bool) →
    out ≡ value_of (text texts 0 d) →
    patient ≡ value_of (text texts 1 d) →
    set ≡ value_of (text texts 2 d) →
    hidden ≡ value_of (text texts 3 d) →
    date ≡ value_of (text texts 4 d) →
    time ≡ value_of (text texts 5 d) →
    dry ≡ (length (text texts 0 d) == 0) →
    none ≡ (length (text texts 6 d) == 0) →
    Some (built name out patient set hidden date time dry (not none))
    ≡ values_of name (map (λ t. t.now) texts)
made-values name texts d least most out patient set hidden date time dry none e0 e1 e2 e3 e4 e5 e f
    =
    rw (e0, e1, e2, e3, e4, e5, e, f, empty (text texts 0 d), empty (text texts 6 d))
    (sym (of-seven name texts d least most))
