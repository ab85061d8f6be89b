-- One after another, the texts of a TAL, and the TALs of a block.
use Rattle.std.proofs.Common.{◌≡◌, ℕ, ◌+◌, ◌≤◌, List, [], ◌∷◌, ◌++◌, length, arith, sym}
use Rattle.std.proofs.Common.{ap, ◌∙◌, append_assoc}
use Rattle.std.specs.Prelude.{IsUtf8}
use Rattle.std.specs.List.{AllByRecursion}
use Rattle.std.proofs.lemmas.List.{append-nil, length-append}
use Rattle.edf_tal.specs.Tal.{terminated}
use Rattle.edf_tal.specs.Inside.Scan.{Lacks}

-- the texts so far
pub record HasChecked (texts rest : List ℕ) (count : ℕ) : Type 0 where
  pub list : List (List ℕ)
  pub parts : texts ≡ terminated list ++ rest
  pub good : AllByRecursion (λ x. Lacks 20 x × IsUtf8 x) list
  pub count_is : count ≡ length list

ended-append : (xs : List (List ℕ)) (x : List ℕ) →
    terminated (xs ++ x ∷ []) ≡ terminated xs ++ (x ++ 20 ∷ [])
ended-append [] x = append-nil (x ++ 20 ∷ [])
ended-append (y ∷ xs) x = ap (λ (w : List ℕ). (y ++ 20 ∷ []) ++ w) (ended-append xs x)
    ∙ sym (append_assoc (y ++ 20 ∷ []) (terminated xs) (x ++ 20 ∷ []))

pub all-more : {A : Type 0} (P : A → Type 0) (xs : List A) (x : A) → AllByRecursion P xs → P x →
    AllByRecursion P (xs ++ x ∷ [])
all-more P [] x a p = (p, tt)
all-more P (y ∷ xs) x a p = (a.0, all-more P xs x a.1 p)

pub checked-more : (texts rest text more : List ℕ) (count : ℕ) → HasChecked texts rest count →
    Lacks 20 text → rest ≡ text ++ 20 ∷ more → IsUtf8 text → HasChecked texts more (count + 1)
checked-more texts rest text more count h lacks e u = record {
  list = h.list ++ text ∷ [];
  parts = h.parts ∙ ap (λ (w : List ℕ). terminated h.list ++ w) e
      ∙ sym (ap (λ (w : List ℕ). w ++ more) (ended-append h.list text)
      ∙ append_assoc (terminated h.list) (text ++ 20 ∷ []) more
      ∙ ap (λ (w : List ℕ). terminated h.list ++ w) (append_assoc text (20 ∷ []) more));
  good = all-more (λ x. Lacks 20 x × IsUtf8 x) h.list text h.good (lacks, u);
  count_is = let c : count ≡ length h.list = h.count_is in
      omega (arith, length-append h.list (text ∷ []));
}

length-ended : (xs : List (List ℕ)) → length xs ≤ length (terminated xs)
length-ended [] = omega arith
length-ended (x ∷ xs) = omega (
  arith,
  length-ended xs,
  length-append (x ++ 20 ∷ []) (terminated xs),
  length-append x (20 ∷ []),
)

pub checked-room : (texts rest : List ℕ) (count : ℕ) → HasChecked texts rest count →
    count + length rest ≤ length texts
checked-room texts rest count h =
    let c : count ≡ length h.list = h.count_is in
    omega (arith, ap length h.parts, length-append (terminated h.list) rest, length-ended h.list)
