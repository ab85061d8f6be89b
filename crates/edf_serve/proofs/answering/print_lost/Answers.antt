use Rattle.std.proofs.Common.{List, ℕ, None, ap, subst}
use Rattle.edf_store.specs.Fault.{number, store_fault_name}
use Rattle.edf_store.specs.declared.fault.StoreFault.TheVariants.{Store}
use Rattle.edf_cli.specs.declared.status.Status.TheVariants.{Trouble}
use Rattle.edf_serve.specs.Client.{GetsAnswer, Looks, status_line}
use Rattle.edf_serve.specs.Lines.{whole_lines}
use Rattle.edf_serve.specs.Work.{Point, grown, point}
use Rattle.edf_serve.proofs.After.{sent, as-trouble}
use Rattle.edf_serve.proofs.Whole.{both-whole}
use Rattle.edf_serve.proofs.answering.print_lost.Goals as goal

pub returns : goal.returns
returns g c x looks asked =
    let room = record c.args.room.now {
      out = c.print_refused.new.err;
      client = c.answer-is_out.new.self;
    } in
    let b : Point g.row.S.Denot = point g.I.Sources g.C.Client g.K.StoreFiles
    c.args.store.now room in
    let out = room.out.bytes.items in
    let why = room.why.bytes.items in
    let Went : List ℕ → Type 0 = λ text. GetsAnswer (g.C.Client.heard c.args.room.now.client)
    (g.C.Client.heard c.answer-is_out.new.self) text c.answer-is_out.result in
    record {
      said = as-trouble (grown c.args.room.now.out room.out) c.args.name.now c.number.result
          (number (Store None)) c.name.result.now
          (store_fault_name (Store None)) c.print_refused.result
          c.number.ensures c.name.ensures c.print_refused.ensures;
      tells = record {
        whole = both-whole out why;
        is_out = c.answer-is_out.result;
        went = subst Went (sent c.lines-out.result.now c.lines-why.result.now (whole_lines out)
            (whole_lines why) (status_line Trouble) c.lines-out.ensures c.lines-why.ensures)
            c.answer-is_out.ensures;
        answered = c.if_out.ensures;
      };
      same = ap (λ (l : Looks). record b { looks = l }) asked;
    }
