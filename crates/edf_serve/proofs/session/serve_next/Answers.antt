use Rattle.std.proofs.Common.{◌∙◌, Some, None, refl, ap, subst, sym}
use Rattle.edf_serve.specs.Lines.{IsNext}
use Rattle.edf_cli.specs.Status.{worse}
use Rattle.edf_serve.specs.Work.{point}
use Rattle.edf_serve.specs.declared.answering.Answered.{Answered}
use Rattle.edf_serve.specs.declared.answering.End.TheVariants as end
use Rattle.edf_serve.proofs.session.serve_next.Goals as goal

pub returns-in-Ended : goal.returns-in-Ended
returns-in-Ended g c = (
  None,
  (
    end.Ended,
    refl,
    subst (IsNext c.args.lines.now c.next.new.self) c.in-Ended.is c.next.ensures,
    refl,
  ),
)

pub returns-in-Failed : goal.returns-in-Failed
returns-in-Failed g c = (
  None,
  (
    end.Unread,
    refl,
    subst (IsNext c.args.lines.now c.next.new.self) c.in-Failed.is
        c.next.ensures,
    refl,
  ),
)

pub returns : goal.returns
returns g c =
    let ens = c.serve_line-answered.ensures in
    let x = ens.0 in
    let p = point g.I.Sources g.C.Client g.K.StoreFiles c.serve_line-answered.new.store
    c.serve_line-answered.new.room in (
      Some x,
      (
        record {
          came = (
            subst (IsNext c.args.lines.now c.next.new.self) c.in-Line.is c.next.ensures,
            ens.1 ∙ c.line.ensures,
          );
          point = p;
          served = ens.3;
          worst = ap (λ w. record p { worst = w }) (c.worse-room.ensures
              ∙ ap (λ (a : Answered). worse p.worst a.status) (sym ens.2));
        },
        ap (λ (a : Answered). a.after) ens.2,
      ),
    )
