use Rattle.std.proofs.Common.{◌≡◌, ◌∙◌, ℕ, List, [], inl, inr, refl, ap, sym, subst, arith}
use Rattle.std.proofs.Common.{length, map, string_bytes, All}
use Rattle.std.specs.Prelude.{Contains, Option}
use Rattle.std.proofs.lemmas.List.{length-map, length-take-le, take-map}
use Rattle.edf_cli.specs.Output.{output_change}
use Rattle.edf_cli.specs.Making.{Making, making}
use Rattle.edf_cli.specs.There.{IsVacant, MayBeThere}
use Rattle.edf_cli.specs.Text.{memory_line, there_line}
use Rattle.edf_cli.proofs.Undone.{refused-undone, trouble-undone}
use Rattle.edf_runs.specs.declared.run.Run.{Run}
use Rattle.edfruns_command.specs.InsideSplit.{MakesRuns, StopsMaking}
use Rattle.edfruns_command.specs.Lines.{undated_line}
use Rattle.edfruns_command.specs.Naming.{run_names, asked_names}
use Rattle.edfruns_command.proofs.Answered.{file-undone, opened-again, opened-first, opened-refused}
use Rattle.edfruns_command.proofs.Answered.{opened-twice}
use Rattle.edfruns_command.proofs.Splits.{as-before, front-names, names-count, none-for-trouble}
use Rattle.edfruns_command.proofs.Splits.{none-of-file, none-refused, over, some-behind}
use Rattle.edfruns_command.proofs.Splits.{splits-file}
use Rattle.edfruns_command.proofs.Splits.{stopped}
use Rattle.edfruns_command.proofs.split_command.split.Goals as goal

pub returns-in-Err-clause-split : goal.returns-in-Err-clause-split
returns-in-Err-clause-split g c =
    none-of-file (making g.P.NewFiles c.args.outputs.now c.args.outputs.now)
    (output_change g.F.Output c.args.err.now c.refuse.new.err)
    (g.I.Inputs.bytes c.args.inputs.now c.args.file.now) c.args.prefix.now c.refuse.result
    (refl, refl) c.args.file.now c.in-Err.fault c.in-Err.ensures.answer c.refuse.ensures

pub returns-in-Err-clause-opened : goal.returns-in-Err-clause-opened
returns-in-Err-clause-opened g c = opened-refused _ _ _ _ c.in-Err.ensures.opened
    (file-undone _ _ _ _ c.refuse.ensures)

pub returns-in_default-clause-split : goal.returns-in_default-clause-split
returns-in_default-clause-split g c =
    none-for-trouble (making g.P.NewFiles c.args.outputs.now c.args.outputs.now)
    (output_change g.F.Output c.args.err.now c.print_memory.new.err)
    (g.I.Inputs.bytes c.args.inputs.now c.args.file.now) c.args.prefix.now c.print_memory.result
    (refl, refl) (memory_line c.args.file.now) (some-behind c.args.file.now 32 _)
    c.print_memory.ensures

pub returns-in_default-clause-opened : goal.returns-in_default-clause-opened
returns-in_default-clause-opened g c = opened-first _ _ _ _ c.in-Ok.ensures.opened
    (trouble-undone _ _ _ c.print_memory.ensures)

pub returns-in-Some-clause-split : goal.returns-in-Some-clause-split
returns-in-Some-clause-split g c =
    none-refused (making g.P.NewFiles c.args.outputs.now c.args.outputs.now)
    (output_change g.F.Output c.args.err.now c.tell_undated.new.err)
    (g.I.Inputs.bytes c.args.inputs.now c.args.file.now) c.args.prefix.now c.tell_undated.result
    (refl, refl) (undated_line c.in-Some.number) (some-behind [] 114 _)
    (inr (c.in-Ok.listing, c.in-Ok.ensures.answer, inl c.in-Some.ensures)) c.tell_undated.ensures

pub returns-in-Some-clause-opened : goal.returns-in-Some-clause-opened
returns-in-Some-clause-opened g c = opened-first _ _ _ _ c.in-Ok.ensures.opened
    (refused-undone _ _ _ c.tell_undated.ensures)

pub returns-in-Some-taken_name-clause-split : goal.returns-in-Some-taken_name-clause-split
returns-in-Some-taken_name-clause-split g c =
    let name = c.in-Some-taken_name.name.now in
    let there = g.P.NewFiles.there c.args.outputs.now in
    let taken = subst (λ (ns : List (List ℕ)). Contains ns name × MayBeThere there name)
    (ap (map string_bytes) c.deref.ensures.value ∙ c.in-Ok-asked_names.ensures
    ∙ ap (λ (rs : List Run). asked_names c.args.prefix.now (length rs))
    c.as_slice-count.ensures.value)
    c.in-Some-taken_name.ensures.answer in
    none-refused (making g.P.NewFiles c.args.outputs.now c.taken_name.new.outputs)
    (output_change g.F.Output c.args.err.now c.print_name_taken.new.err)
    (g.I.Inputs.bytes c.args.inputs.now c.args.file.now) c.args.prefix.now
    c.print_name_taken.result
    (c.in-Some-taken_name.ensures.made, c.in-Some-taken_name.ensures.failed) (there_line name)
    (some-behind name 32 _)
    (inr (c.in-Ok.listing, c.in-Ok.ensures.answer, inr (name, taken.0, taken.1)))
    c.print_name_taken.ensures

pub returns-in-Some-taken_name-clause-opened : goal.returns-in-Some-taken_name-clause-opened
returns-in-Some-taken_name-clause-opened g c = opened-first _ _ _ _ c.in-Ok.ensures.opened
    (refused-undone _ _ _ c.print_name_taken.ensures)

pub front_of-names-requires : goal.front_of-names-requires
front_of-names-requires g c =
    let asked = c.in-Ok-asked_names.asked.items in
    let runs = c.in-Ok.listing.runs.items in
    let count = c.as_slice-count.ensures.value in
    omega (
      arith,
      ap (λ (rs : List Run). length rs) count,
      ap (λ (ns : List _). length ns) c.deref-2.ensures.value,
      names-count c.args.prefix.now (length runs) (map string_bytes asked)
          (c.in-Ok-asked_names.ensures
          ∙ ap (λ (rs : List Run). asked_names c.args.prefix.now (length rs)) count),
      length-map asked string_bytes,
    )

pub make_files-requires-clause-names : goal.make_files-requires-clause-names
make_files-requires-clause-names g c =
    let asked = c.in-Ok-asked_names.asked.items in
    let runs = c.in-Ok.listing.runs.items in
    let count = c.as_slice-count.ensures.value in
    ap (λ (ns : List _). length ns) c.front_of-names.ensures
    ∙ length-take-le (length c.as_slice-count.result.now) c.deref-2.result.now (omega (
      arith,
      ap (λ (rs : List Run). length rs) count,
      ap (λ (ns : List _). length ns) c.deref-2.ensures.value,
      names-count c.args.prefix.now (length runs) (map string_bytes asked)
          (c.in-Ok-asked_names.ensures
          ∙ ap (λ (rs : List Run). asked_names c.args.prefix.now (length rs)) count),
      length-map asked string_bytes,
    ))
    ∙ ap (λ (rs : List Run). length rs) count

pub returns-in-Ok-make_files-clause-split : goal.returns-in-Ok-make_files-clause-split
returns-in-Ok-make_files-clause-split g c =
    let prefix = c.args.prefix.now in
    let listing = c.in-Ok.listing in
    let n = length listing.runs.items in
    let bytes = g.I.Inputs.bytes c.args.inputs.now c.args.file.now in
    let m = making g.P.NewFiles c.args.outputs.now c.make_files.new.outputs in
    let later = making g.P.NewFiles c.taken_name.new.outputs c.make_files.new.outputs in
    let same : ◌≡◌ {A = Making} later m = as-before later m c.in_default-taken_name.ensures.known
    c.in_default-taken_name.ensures.there c.in_default-taken_name.ensures.made
    c.in_default-taken_name.ensures.failed refl refl in
    let are : map string_bytes c.in-Ok-asked_names.asked.items ≡ asked_names prefix n =
    c.in-Ok-asked_names.ensures
    ∙ ap (λ (rs : List Run). asked_names prefix (length rs)) c.as_slice-count.ensures.value in
    let k = length c.as_slice-count.result.now in
    let names : map string_bytes c.front_of-names.result.now ≡ run_names prefix n =
    ap (map string_bytes) c.front_of-names.ensures
    ∙ sym (take-map string_bytes k c.deref-2.result.now)
    ∙ front-names prefix n k (map string_bytes c.deref-2.result.now)
    (ap (λ (rs : List Run). length rs) c.as_slice-count.ensures.value)
    (ap (map string_bytes) c.deref-2.ensures.value ∙ are) in
    let all : MakesRuns m bytes listing (run_names prefix n) =
    over (λ (x : Making) (bs : Option (List ℕ)) (ns : List (List ℕ)). MakesRuns x bs listing ns)
    later m (g.I.Inputs.bytes c.listing_of.new.inputs c.args.file.now) bytes
    (map string_bytes c.front_of-names.result.now) (run_names prefix n) same
    (c.in-Ok.ensures.same c.args.file.now) names c.in-Ok-make_files.ensures.answer in (
      (
        listing,
        record {
          has = c.in-Ok.ensures.answer;
          dated = c.in_default-undated_run.ensures;
          free = subst (λ (ns : List (List ℕ)).
              All (IsVacant (g.P.NewFiles.there c.args.outputs.now)) ns)
              (ap (map string_bytes) c.deref.ensures.value ∙ are)
              c.in_default-taken_name.ensures.answer;
        },
        splits-file m bytes prefix listing c.in-Ok.ensures.answer all,
      ),
      inl refl,
    )

pub returns-in-Ok-make_files-clause-opened : goal.returns-in-Ok-make_files-clause-opened
returns-in-Ok-make_files-clause-opened g c = opened-twice _ _ _ _ _ c.in-Ok.ensures.opened
    c.in-Ok-make_files.ensures.opened

pub returns-clause-split : goal.returns-clause-split
returns-clause-split g c =
    let prefix = c.args.prefix.now in
    let listing = c.in-Ok.listing in
    let n = length listing.runs.items in
    let bytes = g.I.Inputs.bytes c.args.inputs.now c.args.file.now in
    let m = making g.P.NewFiles c.args.outputs.now c.make_files.new.outputs in
    let later = making g.P.NewFiles c.taken_name.new.outputs c.make_files.new.outputs in
    let same : ◌≡◌ {A = Making} later m = as-before later m c.in_default-taken_name.ensures.known
    c.in_default-taken_name.ensures.there c.in_default-taken_name.ensures.made
    c.in_default-taken_name.ensures.failed refl refl in
    let are : map string_bytes c.in-Ok-asked_names.asked.items ≡ asked_names prefix n =
    c.in-Ok-asked_names.ensures
    ∙ ap (λ (rs : List Run). asked_names prefix (length rs)) c.as_slice-count.ensures.value in
    let k = length c.as_slice-count.result.now in
    let names : map string_bytes c.front_of-names.result.now ≡ run_names prefix n =
    ap (map string_bytes) c.front_of-names.ensures
    ∙ sym (take-map string_bytes k c.deref-2.result.now)
    ∙ front-names prefix n k (map string_bytes c.deref-2.result.now)
    (ap (λ (rs : List Run). length rs) c.as_slice-count.ensures.value)
    (ap (map string_bytes) c.deref-2.ensures.value ∙ are) in
    let stops : StopsMaking m bytes listing (run_names prefix n) =
    over (λ (x : Making) (bs : Option (List ℕ)) (ns : List (List ℕ)). StopsMaking x bs listing ns)
    later m (g.I.Inputs.bytes c.listing_of.new.inputs c.args.file.now) bytes
    (map string_bytes c.front_of-names.result.now) (run_names prefix n) same
    (c.in-Ok.ensures.same c.args.file.now) names c.in-Err-make_files.ensures.answer in (
      stopped m bytes prefix listing c.print_stop.result (record {
        has = c.in-Ok.ensures.answer;
        dated = c.in_default-undated_run.ensures;
        free = subst (λ (ns : List (List ℕ)).
            All (IsVacant (g.P.NewFiles.there c.args.outputs.now)) ns)
            (ap (map string_bytes) c.deref.ensures.value ∙ are)
            c.in_default-taken_name.ensures.answer;
      }) c.print_stop.ensures.status stops,
      inr c.print_stop.ensures.said,
    )

pub returns-clause-opened : goal.returns-clause-opened
returns-clause-opened g c = opened-again _ _ _ _ _ c.in-Ok.ensures.opened
    c.in-Err-make_files.ensures.opened
    (λ done. let trouble = c.print_stop.ensures.status in cc)
