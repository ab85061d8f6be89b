use Rattle.std.proofs.Common.{List, ℕ, sym, subst, refl}
use Rattle.edf_serve.specs.Client.{GetsAnswer, status_line}
use Rattle.edf_serve.specs.Exchange.{IsAfterTold}
use Rattle.edf_serve.specs.Lines.{whole_lines}
use Rattle.edf_serve.proofs.After.{sent}
use Rattle.edf_serve.proofs.Whole.{both-whole}
use Rattle.edf_serve.proofs.answering.tell_all.Goals as goal

pub answer-is_out-requires : goal.answer-is_out-requires
answer-is_out-requires g c = c.after_told-goes.ensures.idle

pub returns : goal.returns
returns g c x line =
    let out = c.args.room.now.out.bytes.items in
    let why = c.args.room.now.why.bytes.items in
    let goes = c.after_told-goes.result in
    let Went : List ℕ → Type 0 = λ text. GetsAnswer (g.C.Client.heard c.args.room.now.client)
    (g.C.Client.heard c.answer-is_out.new.self) text c.answer-is_out.result in
    record {
      status = goes.status;
      goes = goes.after;
      tells = record {
        whole = both-whole out why;
        is_out = c.answer-is_out.result;
        went = subst Went (sent c.lines-out.result.now c.lines-why.result.now (whole_lines out)
            (whole_lines why) (status_line goes.status) c.lines-out.ensures c.lines-why.ensures)
            c.answer-is_out.ensures;
        answered = c.if_out.ensures;
      };
      after = subst (λ (l : List ℕ). IsAfterTold g.S.Store c.args.store.now l c.args.told
          c.args.is_stopped goes.status goes.after) (sym line) c.after_told-goes.ensures.after;
      same = refl;
    }
