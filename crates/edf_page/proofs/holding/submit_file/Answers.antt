use Rattle.std.proofs.Common.{List, ℕ, Bor, Some, ap, sym, subst}
use Rattle.std.proofs.lemmas.Result.{IfOk-weaker}
use Rattle.edf_fragment.specs.Call.{InputState}
use Rattle.edf_intake.specs.Refusal.{Answer}
use Rattle.edf_page.specs.Inside.{Submits}
use Rattle.edf_page.proofs.Taken.{submits-one}
use Rattle.edf_page.proofs.holding.submit_file.Goals as goal

pub returns : goal.returns
returns c = IfOk-weaker c.of_file.result _ _
    (λ answer same. subst (λ (a : Answer). Submits c.args.store.now c.submit.new.store
    c.args.bytes.now a) (sym same.0) (submits-one c.args.store.now c.submit.new.store _ _
    c.args.bytes.now c.submit.result
    (ap (λ (b : Bor (List ℕ)). Some b.now) c.new-reader.ensures.inner) (record {
      submitted = c.submit.ensures.submitted;
      ended = c.submit.ensures.ended;
      busy = λ is.
          let it = c.submit.ensures.busy is in (
            ap {B = InputState} (λ r. record { remaining = Some r.inner.now; failed = r.count })
                it.0,
            it.1,
          );
    }) c.submit.ensures.cap same.1)) c.of_file.ensures
