use Rattle.std.proofs.Common.{ℕ, List, ◌∙◌, refl, subst, map, string_bytes, inl, inr}
use Rattle.std.specs.Prelude.{Option}
use Rattle.std.proofs.lemmas.List.{length-map}
use Rattle.std.proofs.lemmas.Result.{err_from_is_err_and}
use Rattle.edf_header.specs.Header.{Layout}
use Rattle.edf_fragment.specs.Reading.{ReadsHeader}
use Rattle.edf_cli.specs.Making.{making}
use Rattle.edf_cli.proofs.Opened.{opened-once}
use Rattle.edfruns_command.specs.InsideSplit.{IsAtEnd}
use Rattle.edfruns_command.proofs.MakingFiles.{all-first}
use Rattle.edfruns_command.proofs.Splits.{makes-runs}
use Rattle.edfruns_command.proofs.making.make_files.Goals as goal

pub returns-in_default-clause-answer : goal.returns-in_default-clause-answer
returns-in_default-clause-answer g c = inl (refl, refl)

pub returns-in-Err-clause-answer : goal.returns-in-Err-clause-answer
returns-in-Err-clause-answer g c = inl (refl, refl)

pub returns-in_err-make_each-clause-answer : goal.returns-in_err-make_each-clause-answer
returns-in_err-make_each-clause-answer g c =
    let p = err_from_is_err_and c.from_residual.result c.from_residual.ensures.1 in
    let l = c.in-Ok-reopen_listed.fragment.header in
    let start = g.I.Reader.Input.remaining c.reopen_listed.new.input in
    rw p.1 (inr (
      l,
      start,
      subst (λ (b : Option (List ℕ)). ReadsHeader b start l) c.in-Ok.ensures.reader
          c.in-Ok-reopen_listed.ensures.answer.0,
      c.in-Ok-reopen_listed.ensures.answer.2,
      c.in_err-make_each.ensures.answer,
    ))

pub returns-in_err-make_each-clause-opened : goal.returns-in_err-make_each-clause-opened
returns-in_err-make_each-clause-opened g c =
    let p = err_from_is_err_and c.from_residual.result c.from_residual.ensures.1 in
    rw p.1 (opened-once _ _ _ c.in-Ok.ensures.names)

pub returns-in-Ok-expect_end-clause-answer : goal.returns-in-Ok-expect_end-clause-answer
returns-in-Ok-expect_end-clause-answer g c =
    let m = making g.P.NewFiles c.args.outputs.now c.make_each.new.outputs in
    let bytes = g.I.Inputs.bytes c.args.inputs.now c.args.file.now in
    let l = c.in-Ok-reopen_listed.fragment.header in
    let start = g.I.Reader.Input.remaining c.reopen_listed.new.input in
    let left = g.I.Reader.Input.remaining c.make_each.new.reader in
    let rest = g.I.Reader.Input.remaining c.expect_end.new.input in
    let mid = c.make_each.new.fragment.progress in
    let to = c.expect_end.new.fragment.progress in
    let named = c.args.named.now in
    makes-runs m bytes named.listing.now (map string_bytes named.names.now) l start mid to left rest
    (subst (λ (b : Option (List ℕ)). ReadsHeader b start l) c.in-Ok.ensures.reader
    c.in-Ok-reopen_listed.ensures.answer.0) c.in-Ok-reopen_listed.ensures.answer.2
    c.in_ok-make_each.ensures.answer
    (subst (λ (x : Layout). IsAtEnd x mid to left rest) c.in_ok-make_each.ensures.header
    c.in-Ok-expect_end.ensures)

pub returns-clause-answer : goal.returns-clause-answer
returns-clause-answer g c =
    let m = making g.P.NewFiles c.args.outputs.now c.make_each.new.outputs in
    let l = c.in-Ok-reopen_listed.fragment.header in
    let start = g.I.Reader.Input.remaining c.reopen_listed.new.input in
    let left = g.I.Reader.Input.remaining c.make_each.new.reader in
    let mid = c.make_each.new.fragment.progress in
    let named = c.args.named.now in
    let names = named.names.now in
    inr (
      l,
      start,
      subst (λ (b : Option (List ℕ)). ReadsHeader b start l) c.in-Ok.ensures.reader
          c.in-Ok-reopen_listed.ensures.answer.0,
      c.in-Ok-reopen_listed.ensures.answer.2,
      all-first m (map string_bytes names) l mid start left named.listing.now.runs.items
          (length-map names string_bytes ∙ c.requires.names) c.in_ok-make_each.ensures.answer,
    )

pub returns-clause-opened : goal.returns-clause-opened
returns-clause-opened g c = opened-once _ _ _ c.in-Ok.ensures.names
