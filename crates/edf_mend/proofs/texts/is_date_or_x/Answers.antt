use Rattle.std.proofs.Common.{◌≡◌, Bool, ℕ, List, ℤ, Option, Some, None, IsTrue, inr, ⊎_elim, rules}
use Rattle.std.proofs.Common.{◌∙◌, sym}
use Rattle.std.specs.Prelude.{MatchOption, is_some, codes}
use Rattle.std.proofs.lemmas.Bool.{false≢true}
use Rattle.edf_time.specs.Civil.{IsIdDate}
use Rattle.edf_field.specs.Text.{IsBirthdate}
use Rattle.edf_mend.proofs.texts.is_date_or_x.Goals as goal

decided : (text : List ℕ) (r : Option ℤ) (b : Bool) → (text ≡ codes "X" → ⊥) →
    MatchOption r ((day : ℤ) → ¬ IsIdDate text day) (IsIdDate text) → b ≡ is_some r
    → (IsTrue b → IsBirthdate text) × (IsBirthdate text → IsTrue b)
decided text None b other none is = (
  λ e. absurd (false≢true (sym is ∙ e)),
  λ t. ⊎_elim (λ x. absurd (other x)) (λ d. absurd (none d.0 d.1)) t,
)
decided text (Some day) b other found is = (λ e. inr (day, found), λ t. is)

pub returns-else-eq : goal.returns-else-eq
returns-else-eq c = decided c.args.text.now c.id_date.result c.is_some.result (search rules)
    c.id_date.ensures c.is_some.ensures
