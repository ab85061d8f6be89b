use Rattle.std.proofs.Common.{Some, Ok, Err, refl, ap, inl}
use Rattle.edf_fragment.specs.Call.{input_state}
use Rattle.edf_cli.proofs.Puts.{nothing-gets}
use Rattle.edf_serve.specs.Files.{Paths}
use Rattle.edf_serve.specs.Work.{Point, Submission, point}
use Rattle.edf_serve.proofs.taking.submit_file.Goals as goal

pub returns-in-Ok-submit-clause-taken : goal.returns-in-Ok-submit-clause-taken
returns-in-Ok-submit-clause-taken g c =
    let it : Submission = record {
      name = c.args.name.now;
      path = c.args.path.now;
      from = input_state g.I.Reader.Input c.in-Ok.reader;
      to = input_state g.I.Reader.Input c.submit.new.input;
      answer = Ok c.in-Ok-submit.receipt;
    } in
    let left : Point g.row.S.Denot = point g.I.Sources g.C.Client g.K.StoreFiles
    c.submit.new.store (record c.args.room.now { sources = c.open.new.self }) in (
      Some it,
      inl (record {
        it = it;
        is_it = (refl, refl, refl);
        given = c.in-Ok.ensures.reader;
        submitted = c.in-Ok-submit.ensures.submitted;
        ended = c.in-Ok-submit.ensures.ended;
        said = (
          refl,
          refl,
          nothing-gets (Some c.args.room.now.out.bytes.items) c.args.room.now.out.failures,
        );
        same = ap (λ (p : Paths). record left { paths = p }) c.in-Ok.ensures.opened;
      }),
    )

pub returns-in-Ok-clause-taken : goal.returns-in-Ok-clause-taken
returns-in-Ok-clause-taken g c =
    let it : Submission = record {
      name = c.args.name.now;
      path = c.args.path.now;
      from = input_state g.I.Reader.Input c.in-Ok.reader;
      to = input_state g.I.Reader.Input c.submit.new.input;
      answer = Err c.in-Err-submit.refusal;
    } in
    let left : Point g.row.S.Denot = point g.I.Sources g.C.Client g.K.StoreFiles
    c.submit.new.store (record c.args.room.now {
      sources = c.open.new.self;
      out = c.print_refusal-status.new.out;
    }) in (
      Some it,
      inl (record {
        it = it;
        is_it = (refl, refl, refl);
        given = c.in-Ok.ensures.reader;
        submitted = c.in-Err-submit.ensures.submitted;
        ended = c.in-Err-submit.ensures.ended;
        said = (c.print_refusal-status.ensures, c.is_stopped-is_stopped.ensures);
        same = ap (λ (p : Paths). record left { paths = p }) c.in-Ok.ensures.opened;
      }),
    )
