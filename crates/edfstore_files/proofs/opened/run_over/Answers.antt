use Rattle.std.proofs.Common.{◌≡◌, ◌↔◌, ◌∙◌, IsTrue, inl, inr, ℕ, refl, sym, subst}
use Rattle.sqlite.specs.Schema.{Schema}
use Rattle.sqlite.specs.Files.{over_files}
use Rattle.edf_tables.specs.Schema.{AreOurs}
use Rattle.edf_store.specs.Open.{IsReturned}
use Rattle.edf_command.specs.Arguments.{meaning}
use Rattle.edf_cli.specs.Output.{output_change}
use Rattle.edf_cli.proofs.Puts.{nothing-gets}
use Rattle.edfstore_files.specs.ProgramRun.{IsNoticed, ProgramRun, Refuses, run_of}
use Rattle.edfstore_files.proofs.Doing.{turned}
use Rattle.edfstore_files.proofs.Ending.{ran_back, is_refused, none_failed}
use Rattle.edfstore_files.proofs.Working.{Works, Returns}
use Rattle.edfstore_files.proofs.opened.run_over.Goals as goal

pub returns-in-Ok-clause-ran : goal.returns-in-Ok-clause-ran
returns-in-Ok-clause-ran g c start opening =
    let was = c.args.outputs.now in
    let out = output_change g.O.Output was.out c.run-status.new.out in
    let mid = output_change g.F.Output was.err c.run-status.new.err in
    let asked = meaning c.args.command.now in
    let bytes = g.I.Inputs.bytes c.args.inputs.now in
    let before = g.I.Inputs.opened c.args.inputs.now in
    let after = g.I.Inputs.opened c.run-status.new.inputs in
    let r : ProgramRun g.D.Disk = run_of g.D.Disk c.args.cap start
    (asked, bytes, before, after, out) (output_change g.F.Output was.err c.close.new.err)
    (IsNoticed (g.W.Watch.noticed was.watch) (g.W.Watch.noticed c.opened.new.self))
    (c.run-status.new.inputs ≡ c.args.inputs.now) in
    let t = turned bytes before after out mid asked c.in-Ok.store c.run-status.new.store
    c.run-status.result c.run-status.ensures.done c.run-status.ensures.opened
    c.run-status.ensures.cap in
    let works : Works r c.args.conn mid c.run-status.result = record {
      old = c.in-Ok.store;
      new = c.run-status.new.store;
      turns = t.turns;
      cap_is = c.in-Ok.ensures.cap ∙ c.records.ensures.value;
      opened = c.in-Ok.ensures.opened;
      noticed = c.opened.ensures;
      does = t.does;
      takes = t.takes;
      live = c.in-Ok.ensures.live;
    } in
    inl (ran_back g.met.D.Disk.seen_may_stay r c.close.result c.args.conn
    (λ clean. (opening.1 clean).0) (λ clean. (opening.1 clean).1)
    c.run-status.result mid.after mid.failed_after works c.into_connection-back.result
    c.into_connection-back.ensures.value c.close.ensures.printed c.into_connection-back.ensures.live
    c.close.ensures.released
    (λ closed. c.close.ensures.copied closed.1 closed.0)
    (λ lets. c.close.ensures.closed lets.1 lets.0))

pub returns-in-Ok-clause-closed : goal.returns-in-Ok-clause-closed
returns-in-Ok-clause-closed g c never =
    none_failed _ c.close.result.failure c.run-status.result c.close.result.status
    c.close.ensures.printed never

pub returns-in-Err-clause-ran : goal.returns-in-Err-clause-ran
returns-in-Err-clause-ran g c start opening =
    let was = c.args.outputs.now in
    let inputs = c.args.inputs.now in
    let names = g.I.Inputs.opened inputs in
    let out = output_change g.O.Output was.out was.out in
    let r : ProgramRun g.D.Disk = run_of g.D.Disk c.args.cap start
    (meaning c.args.command.now, g.I.Inputs.bytes inputs, names, names, out)
    (output_change g.F.Output was.err c.refuse.new.err)
    (IsNoticed (g.W.Watch.noticed was.watch) (g.W.Watch.noticed c.refuse.new.watch))
    (inputs ≡ inputs) in
    let ours = c.is_ours-has_our_tables.result in
    let refuses : Refuses r c.in-Err.fault ours c.refuse.result = record {
      line = c.refuse.ensures.said;
      noticed = c.refuse.ensures.noticed;
      untouched = (refl, nothing-gets out.before out.failed_before);
    } in
    let it : Returns r c.args.conn c.in-Err.back c.leave.result.status = record {
      fault = c.in-Err.fault;
      back = subst (λ (n : ℕ). IsReturned over_files c.args.conn n c.in-Err.fault c.in-Err.back)
          c.records.ensures.value c.in-Err.ensures.given_back;
      ours = c.is_ours-has_our_tables.result;
      ours_is = subst (λ (s : Schema). IsTrue c.is_ours-has_our_tables.result ↔ AreOurs s)
          c.schema.ensures.value c.is_ours-has_our_tables.ensures;
      refuses = subst (Refuses r c.in-Err.fault c.is_ours-has_our_tables.result)
          (sym c.leave.ensures.as_was.0) refuses;
    } in
    inr (is_refused g.met.D.Disk.seen_may_stay r c.leave.result c.args.conn
    (λ clean. (opening.1 clean).0) (λ clean. (opening.1 clean).1) c.in-Err.back it
    c.leave.ensures.as_was.1 c.leave.ensures.released c.leave.ensures.each)
