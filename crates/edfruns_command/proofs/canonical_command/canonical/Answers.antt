use Rattle.std.proofs.Common.{List, ℕ, ◌∙◌, subst, inl, inr}
use Rattle.std.specs.Prelude.{Option}
use Rattle.edf_cli.specs.Output.{output_change}
use Rattle.edf_cli.proofs.Puts.{nothing-gets}
use Rattle.edf_cli.proofs.Undone.{trouble-undone}
use Rattle.edf_runs.specs.Outline.{IsOutline}
use Rattle.edfruns_command.specs.Canonical.{WritesFile, StopsAgain, TellsOutside, arranged}
use Rattle.edfruns_command.proofs.Answered.{opened-again, opened-first, opened-twice}
use Rattle.edfruns_command.proofs.Answered.{opened-refused}
use Rattle.edfruns_command.proofs.Answered.{file-undone, refused}
use Rattle.edfruns_command.proofs.CanonicalOut.{has-records, crowded-undone, too-crowded}
use Rattle.edfruns_command.proofs.canonical_command.canonical.Goals as goal

pub returns-in-Err-clause-written : goal.returns-in-Err-clause-written
returns-in-Err-clause-written g c = inr (inr (inr (refused
    (output_change g.O.Output c.args.out.now c.args.out.now)
    (output_change g.F.Output c.args.err.now c.refuse.new.err)
    (g.I.Inputs.bytes c.args.inputs.now c.args.file.now) c.args.file.now c.in-Err.fault
    c.refuse.result
    (nothing-gets (g.O.Output.contents c.args.out.now) (g.O.Output.failures c.args.out.now))
    c.in-Err.ensures.answer c.refuse.ensures)))

pub returns-in-Err-clause-opened : goal.returns-in-Err-clause-opened
returns-in-Err-clause-opened g c = opened-refused _ _ _ _ c.in-Err.ensures.opened
    (file-undone _ _ _ _ c.refuse.ensures)

pub returns-in-Err-arrange-clause-written : goal.returns-in-Err-arrange-clause-written
returns-in-Err-arrange-clause-written g c =
    let bytes = g.I.Inputs.bytes c.args.inputs.now c.args.file.now in
    let one = c.in-Ok.ensures.answer in
    let k = one.1.layout.key in
    too-crowded (output_change g.O.Output c.args.out.now c.args.out.now)
    (output_change g.F.Output c.args.err.now c.refuse_crowded.new.err) bytes c.args.file.now
    c.args.is_by_onset c.refuse_crowded.result k one.1.records
    (has-records bytes one.0 c.in-Ok.outline one.1)
    (nothing-gets (g.O.Output.contents c.args.out.now) (g.O.Output.failures c.args.out.now))
    c.in-Err-arrange.fault (c.in-Err-arrange.ensures k one.1.records one.1.is_outline)
    c.refuse_crowded.ensures

pub returns-in-Err-arrange-clause-opened : goal.returns-in-Err-arrange-clause-opened
returns-in-Err-arrange-clause-opened g c = opened-first _ _ _ _ c.in-Ok.ensures.opened
    (crowded-undone _ _ _ _ c.refuse_crowded.ensures)

pub returns-in-Ok-write_again-clause-written : goal.returns-in-Ok-write_again-clause-written
returns-in-Ok-write_again-clause-written g c =
    let bytes = g.I.Inputs.bytes c.args.inputs.now c.args.file.now in
    let one = c.in-Ok.ensures.answer in
    let k = one.1.layout.key in
    let ones = arranged c.args.is_by_onset one.1.records in
    let is : IsOutline k ones c.in-Ok-arrange.outline =
    c.in-Ok-arrange.ensures k one.1.records one.1.is_outline in
    inl (record {
      key = k;
      records = one.1.records;
      has = has-records bytes one.0 c.in-Ok.outline one.1;
      writes = subst (λ (b : Option (List ℕ)). WritesFile
          (output_change g.O.Output c.args.out.now c.write_again.new.out) b k ones)
          (c.in-Ok.ensures.same c.args.file.now) (c.in-Ok-write_again.ensures.answer k ones is);
      said = subst (λ (n : ℕ). TellsOutside
          (output_change g.F.Output c.args.err.now c.tell_outside.new.err) c.args.file.now n
          c.tell_outside.result) (c.told_outside-outside.ensures k one.1.records one.1.is_outline)
          c.tell_outside.ensures;
    })

pub returns-in-Ok-write_again-clause-opened : goal.returns-in-Ok-write_again-clause-opened
returns-in-Ok-write_again-clause-opened g c =
    opened-twice _ _ _ _ _ c.in-Ok.ensures.opened c.in-Ok-write_again.ensures.opened

pub returns-in-Ok-write_again-clause-same : goal.returns-in-Ok-write_again-clause-same
returns-in-Ok-write_again-clause-same g c =
    λ name. c.in-Ok-write_again.ensures.same name ∙ c.in-Ok.ensures.same name

pub returns-clause-written : goal.returns-clause-written
returns-clause-written g c =
    let bytes = g.I.Inputs.bytes c.args.inputs.now c.args.file.now in
    let one = c.in-Ok.ensures.answer in
    let k = one.1.layout.key in
    let ones = arranged c.args.is_by_onset one.1.records in
    let is : IsOutline k ones c.in-Ok-arrange.outline =
    c.in-Ok-arrange.ensures k one.1.records one.1.is_outline in
    inr (inl (record {
      key = k;
      records = one.1.records;
      has = has-records bytes one.0 c.in-Ok.outline one.1;
      why = c.in-Err-write_again.fault;
      stops = subst (λ (b : Option (List ℕ)). StopsAgain
          (output_change g.O.Output c.args.out.now c.write_again.new.out) b k ones
          c.in-Err-write_again.fault) (c.in-Ok.ensures.same c.args.file.now)
          (c.in-Err-write_again.ensures.answer k ones is);
      said = c.refuse_canonical.ensures;
    }))

pub returns-clause-opened : goal.returns-clause-opened
returns-clause-opened g c = opened-again _ _ _ _ _ c.in-Ok.ensures.opened
    c.in-Err-write_again.ensures.opened (trouble-undone _ _ _ c.refuse_canonical.ensures)
