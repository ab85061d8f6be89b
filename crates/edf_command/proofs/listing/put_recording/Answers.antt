use Rattle.std.proofs.Common.{Option, subst}
use Rattle.std.proofs.lemmas.Result.{IfOk-weaker}
use Rattle.edf_store.specs.Summaries.{IsSummary}
use Rattle.edf_store.specs.declared.summaries.Summary.{Summary}
use Rattle.edf_command.specs.Lines.{list_line}
use Rattle.edf_command.proofs.listing.put_recording.Goals as goal

pub returns-in-Some-clause-put : goal.returns-in-Some-clause-put
returns-in-Some-clause-put g c clean h spell holds some is =
    let k = c.args.identity.now in
    let IsOne : Option Summary → Type 0 = λ o. IsSummary (h k) o in
    let one = subst IsOne c.in-Some.is (c.in_ok-summary.ensures.summary clean h holds) in
    c.put_line.ensures.put (list_line spell c.args.place k (h k))
    (IfOk-weaker c.list_line.result _ _ (λ r line. line spell (h k) is one) c.list_line.ensures)

pub returns-in-None-clause-refused : goal.returns-in-None-clause-refused
returns-in-None-clause-refused g c clean h holds some =
    let k = c.args.identity.now in
    let IsOne : Option Summary → Type 0 = λ o. IsSummary (h k) o in
    absurd (some (subst IsOne c.in-None.is (c.in_ok-summary.ensures.summary clean h holds)))
