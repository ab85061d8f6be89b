use Rattle.std.proofs.Common.{◌≡◌, arith, sym, ◌∙◌, subst, take, drop, IsTrue, ◌↔◌, Bool}
use Rattle.std.proofs.lemmas.Bool.{eqb-true}
use Rattle.std.proofs.lemmas.Slice.Eq.{bytes_eq-Decides}
use Rattle.edf_time.specs.Civil.{IsYearlessText}
use Rattle.edf_time.proofs.FieldTexts.{lettered, lettered-reads}
use Rattle.edf_time.proofs.YearlessTexts.{answers-yearless}
use Rattle.edf_time.proofs.start.is_yearless.Goals as goal
use Rattle.edf_time.proofs.start.is_yearless.Goals.{After-is_some, then-text-eq46, else-text-eq46}

is_text : (c : After-is_some) → c.args.text.now ≡ lettered c.in-Some.day c.in-Some-pair.month
is_text c =
    elim c.if-text-eq46.branch [
      | then-text-eq46 w ↦
          lettered-reads c.args.text.now c.in-Some.day c.in-Some-pair.month w.if-text-eq46.true
          c.in-Some.ensures.1 c.in-Some-pair.ensures.1 (omega arith)
          ((bytes_eq-Decides (take 3 (drop 5 c.args.text.now)) w.as_slice.result.now).0
          (sym w.eq.ensures ∙ sym w.value-is ∙ c.if-eq.true) ∙ w.as_slice.ensures)
      | else-text-eq46 w ↦
          absurd (w.if-text-eq46.false (eqb-true _ 46 (sym w.value-is ∙ c.if-eq.true)))
    ]

pub returns-then-eq : goal.returns-then-eq
returns-then-eq c =
    subst (λ (r : Bool). IsTrue r ↔ IsYearlessText c.args.text.now) (sym c.is_some.ensures)
    (answers-yearless c.args.text.now c.in-Some-pair.month c.in-Some.day c.day_number.result
    c.in-Some-pair.ensures.0 c.in-Some.ensures.0 (is_text c) c.day_number.ensures)
