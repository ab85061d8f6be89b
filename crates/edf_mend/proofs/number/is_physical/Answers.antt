use Rattle.std.proofs.Common.{◌≡◌, ◌≢◌, ℕ, ◌*◌, ◌^◌, ℤ, pos, Bool, true, false, IsTrue, refl, sym}
use Rattle.std.proofs.Common.{◌∙◌, arith, rules, codes, List, subst}
use Rattle.std.proofs.lemmas.Bool.{false≢true}
use Rattle.edf_field.specs.Number.{IsPhysical, scaled, fraction_len, DifferAsNumbers}
use Rattle.edf_field.proofs.Decimals.{power}
use Rattle.edf_mend.proofs.number.is_physical.Goals as goal

-- no number is both 0 and 1
neither : (x : ℤ) (k : ℕ) → ((x ≢ pos (0 * 10 ^ k)) → ⊥) → ((x ≢ pos (1 * 10 ^ k)) → ⊥) → ⊥
neither x k zero one = zero (λ a. one (λ b.
    let e : pos (0 * 10 ^ k) ≡ pos (1 * 10 ^ k) = sym a ∙ b in
    let n : 0 * 10 ^ k ≡ 1 * 10 ^ k = cc in
    omega (arith, n, power k)))

second : (b : Bool) (P O D : Type 0) → (IsTrue b → P × O × D) × (P × O × D → IsTrue b) → O →
    ((D → ⊥) → ⊥) → P → IsTrue b
second true P O D both o never p = refl
second false P O D both o never p = absurd (never (λ d. false≢true (both.1 (p, o, d))))

pub returns-else-physical_values_differ : goal.returns-else-physical_values_differ
returns-else-physical_values_differ c =
    let f = c.args.field.now in
    let one = c.physical_values_differ-else-physical_values_differ in
    let is-zero : IsPhysical (codes "0") = search rules in
    let is-one : IsPhysical (codes "1") = search rules in
    let a = c.as_slice.result.now in
    let b = c.as_slice-else-physical_values_differ.result.now in
    let a-is : a ≡ codes "0" = c.as_slice.ensures in
    let b-is : b ≡ codes "1" = c.as_slice-else-physical_values_differ.ensures in (
      λ t. (one.ensures.0 t).0,
      λ p. second one.result (IsPhysical f) (IsPhysical b) (DifferAsNumbers f b) one.ensures
          (subst (λ (l : List ℕ). IsPhysical l) (sym b-is) is-one)
          (λ no. neither (scaled f 0) (fraction_len f) (λ d. false≢true
          (sym c.if-physical_values_differ.false ∙ c.physical_values_differ.ensures.1 (
            p,
            subst (λ (l : List ℕ). IsPhysical l) (sym a-is) is-zero,
            subst (λ (l : List ℕ). DifferAsNumbers f l) (sym a-is) d,
          ))) (λ d. no (subst (λ (l : List ℕ). DifferAsNumbers f l) (sym b-is) d))) p,
    )
