use Rattle.std.proofs.Common.{◌≡◌, ◌↔◌, ◌∙◌, IsTrue, inl, inr, ℕ, refl, sym, subst}
use Rattle.std.specs.Option.{option_map}
use Rattle.sqlite.specs.Schema.{Schema}
use Rattle.sqlite_store.specs.declared.store.FileStore.{FileStore}
use Rattle.sqlite.specs.Files.{over_files}
use Rattle.edf_tables.specs.Schema.{AreOurs}
use Rattle.edf_store.specs.Held.{StoreModel}
use Rattle.edf_store.specs.Open.{IsReturned}
use Rattle.edf_cli.specs.Output.{output_change}
use Rattle.edf_cli.proofs.Puts.{nothing-gets}
use Rattle.edfstore_files.specs.ProgramRun.{IsNoticed, ProgramRun, Refuses}
use Rattle.edfstore_files.proofs.Ending.{ran_back, is_refused, none_failed}
use Rattle.edfstore_files.proofs.Working.{Works, Returns}
use Rattle.edf_serve.specs.Session.{Moment}
use Rattle.edf_serve.specs.SessionRun.{session_run}
use Rattle.edf_serve.specs.Work.{point}
use Rattle.edf_serve.proofs.over.serve_over.Goals as goal

pub returns-in-Ok-clause-ran : goal.returns-in-Ok-clause-ran
returns-in-Ok-clause-ran g c start opening =
    let stays = g.met.D.Disk.seen_may_stay in
    let mid = output_change g.F.Output c.args.err.now c.args.err.now in
    let r : ProgramRun g.D.Disk = session_run g.D.Disk c.args.cap start
    (option_map (λ f. f.now) c.args.folder)
    (λ store. record {
      at = point g.I.Sources g.C.Client g.K.StoreFiles store c.args.room.now;
      coming = c.args.lines.now;
    })
    (λ store. record {
      at = point g.I.Sources g.C.Client g.K.StoreFiles store c.serve.new.room;
      coming = c.serve.new.lines;
    })
    (output_change g.F.Output c.args.err.now c.close.new.err)
    (IsNoticed (g.W.Watch.noticed c.args.watch.now) (g.W.Watch.noticed c.opened.new.self))
    ((c.serve.new.room ≡ c.args.room.now) × (c.serve.new.lines ≡ c.args.lines.now)) in
    let whole = c.serve.ensures in
    let sent = whole.submitted.submitted in
    let worst = c.serve.new.room.worst in
    let works : Works r c.args.conn mid worst = record {
      old = c.in-Ok.store;
      new = c.serve.new.store;
      turns = sent.turns;
      cap_is = c.in-Ok.ensures.cap ∙ c.records.ensures.value;
      opened = c.in-Ok.ensures.opened;
      noticed = c.opened.ensures;
      does = (
        c.serve.result,
        (whole, (sent.froms_are, sent.tos_are, sent.answers_are)),
        refl,
        nothing-gets mid.before mid.failed_before,
      );
      takes = record {
        cap = whole.submitted.cap;
        each = sent.each;
        replies_are = sent.replies_are;
        holdings = sent.holdings;
        others = sent.others;
        crash = sent.crash;
      };
      live = c.in-Ok.ensures.live;
    } in
    inl (ran_back stays r c.close.result c.args.conn
    (λ clean. (opening.1 clean).0) (λ clean. (opening.1 clean).1)
    worst mid.after mid.failed_after works c.into_connection-back.result
    c.into_connection-back.ensures.value c.close.ensures.printed c.into_connection-back.ensures.live
    c.close.ensures.released
    (λ closed. c.close.ensures.copied closed.1 closed.0)
    (λ lets. c.close.ensures.closed lets.1 lets.0))

pub returns-in-Ok-clause-closed : goal.returns-in-Ok-clause-closed
returns-in-Ok-clause-closed g c never =
    none_failed _ c.close.result.failure c.serve.new.room.worst c.close.result.status
    c.close.ensures.printed never

pub returns-in-Err-clause-ran : goal.returns-in-Err-clause-ran
returns-in-Err-clause-ran g c start opening =
    let Now : StoreModel (FileStore _ g.D.Disk) → Moment (FileStore _ g.D.Disk) =
    λ store. record {
      at = point g.I.Sources g.C.Client g.K.StoreFiles store c.args.room.now;
      coming = c.args.lines.now;
    } in
    let r : ProgramRun g.D.Disk = session_run g.D.Disk c.args.cap start
    (option_map (λ f. f.now) c.args.folder) Now Now
    (output_change g.F.Output c.args.err.now c.refuse.new.err)
    (IsNoticed (g.W.Watch.noticed c.args.watch.now) (g.W.Watch.noticed c.refuse.new.watch))
    ((c.args.room.now ≡ c.args.room.now) × (c.args.lines.now ≡ c.args.lines.now)) in
    let ours = c.is_ours-has_our_tables.result in
    let left = c.leave in
    let refuses : Refuses r c.in-Err.fault ours c.refuse.result = record {
      line = c.refuse.ensures.said;
      noticed = c.refuse.ensures.noticed;
      untouched = (refl, refl);
    } in
    let back : Returns r c.args.conn c.in-Err.back left.result.status = record {
      fault = c.in-Err.fault;
      back = subst (λ (n : ℕ). IsReturned over_files c.args.conn n c.in-Err.fault c.in-Err.back)
          c.records.ensures.value c.in-Err.ensures.given_back;
      ours = ours;
      ours_is = subst (λ (s : Schema). IsTrue ours ↔ AreOurs s)
          c.schema.ensures.value c.is_ours-has_our_tables.ensures;
      refuses = subst (Refuses r c.in-Err.fault ours) (sym left.ensures.as_was.0) refuses;
    } in
    inr (is_refused g.met.D.Disk.seen_may_stay r left.result c.args.conn
    (λ clean. (opening.1 clean).0) (λ clean. (opening.1 clean).1) c.in-Err.back back
    left.ensures.as_was.1 left.ensures.released left.ensures.each)
