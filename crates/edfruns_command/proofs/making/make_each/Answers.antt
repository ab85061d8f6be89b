use Rattle.std.proofs.Common.{◌≡◌, ◌<◌, ◌+◌, ℕ, List, ◌∙◌, ap, subst, refl, arith, length, get_or}
use Rattle.std.proofs.Common.{map, string_bytes}
use Rattle.std.proofs.lemmas.List.{length-map}
use Rattle.std.proofs.lemmas.Result.{err_from_is_err_and}
use Rattle.edf_header.specs.Header.{Layout}
use Rattle.edf_runs.specs.declared.run.Run.{Run}
use Rattle.edf_cli.specs.Making.{making}
use Rattle.edfruns_command.specs.InsideSplit.{LacksFile, MakesFile}
use Rattle.edfruns_command.proofs.MakingFiles.{all-made, first-made, makes-more, makes-no-more}
use Rattle.edfruns_command.proofs.MakingFiles.{none-made, then}
use Rattle.edfruns_command.proofs.Walking.{mapped}
use Rattle.edfruns_command.proofs.making.make_each.Goals as goal

pub loop-at-init : goal.loop-at-init
loop-at-init g c = record {
  header = refl;
  known = refl;
  at_most = omega arith;
  so_far = none-made (making g.P.NewFiles c.args.outputs.now c.args.outputs.now)
      (map string_bytes c.args.named.now.names.now) c.args.fragment.now.header
      c.args.fragment.now.progress (g.R.Input.remaining c.args.reader.now)
      c.args.named.now.listing.now.runs.items c.requires.first refl refl;
}

pub returns-in_err-written-clause-answer : goal.returns-in_err-written-clause-answer
returns-in_err-written-clause-answer g c =
    let p = err_from_is_err_and c.from_residual.result c.from_residual.ensures.1 in
    let l = c.args.fragment.now.header in
    let a = making g.P.NewFiles c.args.outputs.now c.loop-at.outputs in
    let b = making g.P.NewFiles c.loop-at.outputs c.make_file.new.outputs in
    let all = c.args.named.now.names.now in
    let names = map string_bytes all in
    let runs = c.args.named.now.listing.now.runs.items in
    let at = c.loop-at.at in
    let name = string_bytes c.index-names-at.result in
    let run = c.run-item.result in
    let same = c.deref-run-items.ensures.value in
    let count = ap (λ (rs : List Run). length rs) same in
    let lt : at < length runs = omega (arith, c.loop-at-test.true, count) in
    let is_run : run ≡ get_or runs at run = c.run-item.is
    ∙ ap (λ (rs : List Run). get_or rs at run) same in
    let within : at < length all = omega (arith, lt, c.requires.names) in
    let named : at < length names = omega (arith, within, length-map all string_bytes) in
    let is = mapped all at c.index-names-at.result within c.index-names-at.is string_bytes in
    let lacks : LacksFile b name = subst (LacksFile b) c.as_str-name.ensures.value
    c.in_err-written.ensures.answer in
    rw p.1 (makes-no-more a b c.loop-at.invariant.known refl refl names l
    c.loop-at.fragment.progress (g.R.Input.remaining c.args.reader.now)
    (g.R.Input.remaining c.loop-at.reader) runs at run name lt is_run named is
    c.loop-at.invariant.so_far lacks)

pub returns-in_err-write_line-clause-answer : goal.returns-in_err-write_line-clause-answer
returns-in_err-write_line-clause-answer g c =
    let p = err_from_is_err_and c.from_residual-in_err-write_line.result
    c.from_residual-in_err-write_line.ensures.1 in
    let l = c.args.fragment.now.header in
    let a = making g.P.NewFiles c.args.outputs.now c.loop-at.outputs in
    let b = making g.P.NewFiles c.loop-at.outputs c.make_file.new.outputs in
    let all = c.args.named.now.names.now in
    let names = map string_bytes all in
    let runs = c.args.named.now.listing.now.runs.items in
    let at = c.loop-at.at in
    let name = string_bytes c.index-names-at.result in
    let run = c.run-item.result in
    let same = c.deref-run-items.ensures.value in
    let count = ap (λ (rs : List Run). length rs) same in
    let lt : at < length runs = omega (arith, c.loop-at-test.true, count) in
    let is_run : run ≡ get_or runs at run = c.run-item.is
    ∙ ap (λ (rs : List Run). get_or rs at run) same in
    let within : at < length all = omega (arith, lt, c.requires.names) in
    let named : at < length names = omega (arith, within, length-map all string_bytes) in
    let is = mapped all at c.index-names-at.result within c.index-names-at.is string_bytes in
    let mid = c.loop-at.fragment.progress in
    let to = c.make_file.new.fragment.progress in
    let input = g.R.Input.remaining c.args.reader.now in
    let middle = g.R.Input.remaining c.loop-at.reader in
    let rest = g.R.Input.remaining c.make_file.new.reader in
    let makes : MakesFile b name l mid to middle rest run =
    subst (λ (x : Layout). MakesFile b name x mid to middle rest run)
    c.loop-at.invariant.header (subst (λ (n : List ℕ). MakesFile b n c.loop-at.fragment.header mid
    to middle rest run) c.as_str-name.ensures.value c.in_ok-written.ensures.answer) in
    rw p.1 (first-made (then a b) names l to input rest runs (at + 1)
    (omega (arith, lt))
    (makes-more a b c.loop-at.invariant.known refl refl names l mid input middle runs at run name lt
    is_run named is c.loop-at.invariant.so_far to rest makes))

pub loop-at-preserved : goal.loop-at-preserved
loop-at-preserved g c =
    let l = c.args.fragment.now.header in
    let a = making g.P.NewFiles c.args.outputs.now c.loop-at.outputs in
    let b = making g.P.NewFiles c.loop-at.outputs c.make_file.new.outputs in
    let all = c.args.named.now.names.now in
    let names = map string_bytes all in
    let runs = c.args.named.now.listing.now.runs.items in
    let at = c.loop-at.at in
    let name = string_bytes c.index-names-at.result in
    let run = c.run-item.result in
    let same = c.deref-run-items.ensures.value in
    let count = ap (λ (rs : List Run). length rs) same in
    let lt : at < length runs = omega (arith, c.loop-at-test.true, count) in
    let is_run : run ≡ get_or runs at run = c.run-item.is
    ∙ ap (λ (rs : List Run). get_or rs at run) same in
    let within : at < length all = omega (arith, lt, c.requires.names) in
    let named : at < length names = omega (arith, within, length-map all string_bytes) in
    let is = mapped all at c.index-names-at.result within c.index-names-at.is string_bytes in
    let mid = c.loop-at.fragment.progress in
    let to = c.make_file.new.fragment.progress in
    let input = g.R.Input.remaining c.args.reader.now in
    let middle = g.R.Input.remaining c.loop-at.reader in
    let rest = g.R.Input.remaining c.make_file.new.reader in
    let makes : MakesFile b name l mid to middle rest run =
    subst (λ (x : Layout). MakesFile b name x mid to middle rest run)
    c.loop-at.invariant.header (subst (λ (n : List ℕ). MakesFile b n c.loop-at.fragment.header mid
    to middle rest run) c.as_str-name.ensures.value c.in_ok-written.ensures.answer) in
    record {
      header = c.in_ok-written.ensures.header ∙ c.loop-at.invariant.header;
      known = c.in_ok-written.ensures.known ∙ c.loop-at.invariant.known;
      at_most = omega (arith, lt);
      so_far = makes-more a b c.loop-at.invariant.known refl refl names l mid input middle runs at
          run name lt is_run named is c.loop-at.invariant.so_far to
          rest makes;
    }

pub returns-clause-answer : goal.returns-clause-answer
returns-clause-answer g c =
    let names = c.args.named.now.names.now in
    let runs = c.args.named.now.listing.now.runs.items in
    all-made (making g.P.NewFiles c.args.outputs.now c.loop-at.outputs) (map string_bytes names)
    c.args.fragment.now.header c.loop-at.fragment.progress
    (g.R.Input.remaining c.args.reader.now) (g.R.Input.remaining c.loop-at.reader) runs c.loop-at.at
    (length-map names string_bytes ∙ c.requires.names) (omega (
      arith,
      c.loop-at-test.false,
      ap (λ (rs : List Run). length rs) c.deref-run-items.ensures.value,
    ))
    c.loop-at.invariant.so_far
