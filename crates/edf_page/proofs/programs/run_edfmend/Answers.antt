use Rattle.std.proofs.Common.{inl, inr, sym, subst}
use Rattle.std.proofs.lemmas.Result.{IfOk-weaker}
use Rattle.edfmend_command.specs.Run.{meaning}
use Rattle.edfmend_command.specs.Words.{IsNothing}
use Rattle.edf_page.proofs.programs.run_edfmend.Goals as goal

pub returns-in-Ok : goal.returns-in-Ok
returns-in-Ok c = IfOk-weaker c.mend_of.result _ _
    (λ ran done. inl (meaning c.in-Ok.command, c.in-Ok.ensures.mean, done)) c.mend_of.ensures

pub returns-in-Err-Usage : goal.returns-in-Err-Usage
returns-in-Err-Usage c =
    let none = c.in-Err-Usage.ensures.nothing
    (subst IsNothing (sym c.in-Err-Usage.field-0-is) tt) in
    IfOk-weaker c.refusal_of.result _ _ (λ ran tells. inr (c.in-Err-Usage.text, none, tells))
    c.refusal_of.ensures
