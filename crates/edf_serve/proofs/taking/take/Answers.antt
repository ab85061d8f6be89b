use Rattle.std.proofs.Common.{inl, inr, subst}
use Rattle.std.specs.Option.{option_map}
use Rattle.std.specs.String.{string_bytes}
use Rattle.edf_serve.specs.Files.{IsPlace}
use Rattle.edf_serve.specs.Taking.{SubmitsFile}
use Rattle.edf_serve.specs.Work.{Work, point}
use Rattle.edf_serve.proofs.taking.take.Goals as goal

pub returns-in-Ok-Some-clause-taken : goal.returns-in-Ok-Some-clause-taken
returns-in-Ok-Some-clause-taken g c =
    let s = c.submit_file.ensures.taken in
    let w : Work g.row.S.Denot = record {
      old = point g.I.Sources g.C.Client g.K.StoreFiles c.args.store.now c.args.room.now;
      new = point g.I.Sources g.C.Client g.K.StoreFiles c.submit_file.new.store
          c.submit_file.new.room;
      submission = s.0;
      outcome = c.submit_file.result;
    } in
    let name = c.args.name.now in
    let folder = option_map (λ f. f.now) c.args.folder in (
      s.0,
      elim s.1 [
        | inl file ↦ inl (
          string_bytes c.in-Ok-Some.path,
          subst (λ o. IsPlace w.old.paths folder name (option_map string_bytes o))
              c.in-Ok-Some.field-0-is c.in-Ok-Some.ensures,
          subst (SubmitsFile g.S.Store w name) c.as_str.ensures.value file,
        )
        | inr none ↦ inr (
          none.0,
          (none.1.0, (none.1.1.0, none.1.1.1, inr none.1.1.2)),
        )
      ],
    )
