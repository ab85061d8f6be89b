use Rattle.std.proofs.Common.{Bool, sym, subst}
use Rattle.std.specs.Prelude.{IsTrue, ◌↔◌}
use Rattle.std.specs.Bool.{MatchBool}
use Rattle.edfmend_command.specs.Words.{IsDateWord, IsTimeWord}
use Rattle.edfmend_command.proofs.Starts.{date-word, time-word}
use Rattle.edfmend_command.proofs.arguments.is_start.Goals as goal

pub returns-then-is_date : goal.returns-then-is_date
returns-then-is_date c =
    let text = c.args.text.now in
    subst (λ (b : Bool). MatchBool b (IsTrue c.is_ok.result ↔ IsDateWord text)
    (IsTrue c.is_ok.result ↔ IsTimeWord text)) (sym c.if-is_date.true)
    (subst (λ (r : Bool). IsTrue r ↔ IsDateWord text) (sym c.is_ok.ensures.value)
    (date-word text c.start_of.result c.start_of.ensures))

pub returns-else-is_date : goal.returns-else-is_date
returns-else-is_date c =
    let text = c.args.text.now in
    let r = c.is_ok-else-is_date.result in
    subst (λ (b : Bool). MatchBool b (IsTrue r ↔ IsDateWord text) (IsTrue r ↔ IsTimeWord text))
    (sym c.if-is_date.false)
    (subst (λ (x : Bool). IsTrue x ↔ IsTimeWord text) (sym c.is_ok-else-is_date.ensures.value)
    (time-word text c.start_of-else-is_date.result c.start_of-else-is_date.ensures))
