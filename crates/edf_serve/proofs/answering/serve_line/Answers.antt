use Rattle.std.proofs.Common.{◌≡◌, ◌∙◌, true, false, refl, sym, ap, subst, inl, inr, rules}
use Rattle.std.specs.Option.{option_map}
use Rattle.edf_serve.specs.Client.{Looks, looked}
use Rattle.edf_serve.specs.Exchange.{Exchange, IsAnswered}
use Rattle.edf_serve.specs.Line.{asked_by}
use Rattle.edf_serve.specs.Work.{Point, Work, point}
use Rattle.edf_serve.proofs.Accepting.{may-be_told}
use Rattle.edf_serve.proofs.After.{accepted-whole}
use Rattle.edf_serve.proofs.answering.serve_line.Goals as goal

pub stand-requires : goal.stand-requires
stand-requires g c = (may-be_told g.S.Store _ _ _ _ _ _ _ _ c.in-Accepted.is
    c.work.ensures.worked.1).accepted

pub accept-is_out-requires-clause-idle : goal.accept-is_out-requires-clause-idle
accept-is_out-requires-clause-idle g c = (may-be_told g.S.Store _ _ _ _ _ _ _ _ c.in-Accepted.is
    c.work.ensures.worked.1).idle

pub accept-is_out-requires-clause-accepted : goal.accept-is_out-requires-clause-accepted
accept-is_out-requires-clause-accepted g c = (may-be_told g.S.Store _ _ _ _ _ _ _ _ c.in-Accepted.is
    c.work.ensures.worked.1).accepted

pub returns-in-Told : goal.returns-in-Told
returns-in-Told g c =
    let cleared = record c.args.room.now { out = c.clear.new.self; why = c.clear-2.new.self } in
    let w : Work g.row.S.Denot = record {
      old = point g.I.Sources g.C.Client g.K.StoreFiles c.args.store.now cleared;
      new = point g.I.Sources g.C.Client g.K.StoreFiles c.work.new.store c.work.new.room;
      submission = c.work.ensures.worked.0;
      outcome = c.work.result;
    } in
    let x : Exchange g.row.S.Denot = record {
      line = c.args.line.now;
      asked = option_map asked_by c.parse_line.result;
      work = w;
      answered = c.tell_all.result;
    } in
    let b : Point g.row.S.Denot = point g.I.Sources g.C.Client g.K.StoreFiles
    c.work.new.store c.tell_all.new.room in (
      x,
      refl,
      refl,
      record {
        read = c.parse_line.ensures;
        begins = refl;
        blank = (c.clear.ensures.empty, c.clear-2.ensures.empty);
        unfailed = (c.clear.ensures.counted, c.clear-2.ensures.counted);
        worked = c.work.ensures.worked.1;
        answered = subst (IsAnswered g.S.Store x b) (sym c.in-Told.is)
            (c.tell_all.ensures x refl);
        cap = c.work.ensures.cap;
      },
    )

pub returns-then-not-stand : goal.returns-then-not-stand
returns-then-not-stand g c =
    let cleared = record c.args.room.now { out = c.clear.new.self; why = c.clear-2.new.self } in
    let w : Work g.row.S.Denot = record {
      old = point g.I.Sources g.C.Client g.K.StoreFiles c.args.store.now cleared;
      new = point g.I.Sources g.C.Client g.K.StoreFiles c.work.new.store c.work.new.room;
      submission = c.work.ensures.worked.0;
      outcome = c.work.result;
    } in
    let x : Exchange g.row.S.Denot = record {
      line = c.args.line.now;
      asked = option_map asked_by c.parse_line.result;
      work = w;
      answered = c.print_lost.result;
    } in
    let b : Point g.row.S.Denot = point g.I.Sources g.C.Client g.K.StoreFiles
    c.work.new.store c.print_lost.new.room in
    let looks = g.K.StoreFiles.looks c.work.new.room.keeper in
    let no : c.stand.result ≡ false = c.if-not-stand.true in (
      x,
      refl,
      refl,
      record {
        read = c.parse_line.ensures;
        begins = refl;
        blank = (c.clear.ensures.empty, c.clear-2.ensures.empty);
        unfailed = (c.clear.ensures.counted, c.clear-2.ensures.counted);
        worked = c.work.ensures.worked.1;
        answered = subst (IsAnswered g.S.Store x b) (sym c.in-Accepted.is)
            (inr (c.print_lost.ensures x looks (c.stand.ensures ∙ ap (looked looks) no)));
        cap = c.work.ensures.cap;
      },
    )

pub returns-else-not-stand : goal.returns-else-not-stand
returns-else-not-stand g c =
    let cleared = record c.args.room.now { out = c.clear.new.self; why = c.clear-2.new.self } in
    let w : Work g.row.S.Denot = record {
      old = point g.I.Sources g.C.Client g.K.StoreFiles c.args.store.now cleared;
      new = point g.I.Sources g.C.Client g.K.StoreFiles c.work.new.store c.work.new.room;
      submission = c.work.ensures.worked.0;
      outcome = c.work.result;
    } in
    let name = c.in-Accepted.name.now in
    let receipt = c.in-Accepted.receipt in
    let x : Exchange g.row.S.Denot = record {
      line = c.args.line.now;
      asked = option_map asked_by c.parse_line.result;
      work = w;
      answered = c.if_out.result;
    } in
    let b : Point g.row.S.Denot = point g.I.Sources g.C.Client g.K.StoreFiles
    c.work.new.store (record c.work.new.room {
      client = c.accept-is_out.new.self;
      keeper = c.stand.new.self;
    }) in
    let looks = g.K.StoreFiles.looks c.work.new.room.keeper in
    let yes : c.stand.result ≡ true = search rules in (
      x,
      refl,
      refl,
      record {
        read = c.parse_line.ensures;
        begins = refl;
        blank = (c.clear.ensures.empty, c.clear-2.ensures.empty);
        unfailed = (c.clear.ensures.counted, c.clear-2.ensures.counted);
        worked = c.work.ensures.worked.1;
        answered = subst (IsAnswered g.S.Store x b) (sym c.in-Accepted.is) (inl (record {
          tells = record {
            whole = accepted-whole name receipt.new receipt.known;
            is_out = c.accept-is_out.result;
            went = c.accept-is_out.ensures;
            answered = c.if_out.ensures;
          };
          same = ap (λ (l : Looks). record b { looks = l })
              (c.stand.ensures ∙ ap (looked looks) yes);
        }));
        cap = c.work.ensures.cap;
      },
    )
