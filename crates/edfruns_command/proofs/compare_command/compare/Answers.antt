use Rattle.std.proofs.Common.{List, ℕ, inl, inr, ◌∙◌, subst}
use Rattle.std.specs.Prelude.{Option}
use Rattle.edf_runs.specs.ComparedFiles.{IsCompared, IsCompareFault}
use Rattle.std.proofs.KnownBytes.{Keeps-refl}
use Rattle.edf_cli.proofs.Undone.{trouble-told, trouble-undone}
use Rattle.edfruns_command.proofs.ComparedOut.{opens-none, opens-one, opens-both}
use Rattle.edfruns_command.proofs.compare_command.compare.Goals as goal

-- ---- memory ran out at an opening

pub returns-in_default-clause-compared : goal.returns-in_default-clause-compared
returns-in_default-clause-compared g c = inr (inr (trouble-told _ _ _ c.print_memory.ensures))

pub returns-in_default-clause-opened : goal.returns-in_default-clause-opened
returns-in_default-clause-opened g c =
    opens-none _ _ _ _ _ c.in_default.ensures.names (trouble-undone _ _ _ c.print_memory.ensures)

pub returns-in_default-open-clause-compared : goal.returns-in_default-open-clause-compared
returns-in_default-open-clause-compared g c =
    inr (inr (trouble-told _ _ _ c.print_memory-in_default-open.ensures))

pub returns-in_default-open-clause-opened : goal.returns-in_default-open-clause-opened
returns-in_default-open-clause-opened g c = opens-one _ _ _ _ _ _ c.in-Ok.ensures.names
    c.in_default-open.ensures.names (trouble-undone _ _ _ c.print_memory-in_default-open.ensures)

pub returns-in_default-open-clause-same : goal.returns-in_default-open-clause-same
returns-in_default-open-clause-same g c =
    λ name. c.open-2.ensures.same name ∙ c.open.ensures.same name

-- ---- the files were read

pub returns-in-Ok-compare_files-clause-compared : goal.returns-in-Ok-compare_files-clause-compared
returns-in-Ok-compare_files-clause-compared g c =
    let one = c.in-Ok.ensures.reader in
    let other = c.in-Ok-open.ensures.reader ∙ c.open.ensures.same c.args.other.now in
    let rest = g.I.Reader.Input.remaining c.compare_files.new.first_input in
    let rest' = g.I.Reader.Input.remaining c.compare_files.new.second_input in
    let comparison = c.in-Ok-compare_files.comparison in
    inl (record {
      rest = rest;
      rest' = rest';
      comparison = comparison;
      compared = subst (λ (b : Option (List ℕ)). IsCompared b rest
          (g.I.Inputs.bytes c.args.inputs.now c.args.other.now) rest' comparison) one
          (subst (λ (b : Option (List ℕ)). IsCompared (g.I.Reader.Input.remaining c.in-Ok.first)
          rest
          b rest' comparison) other c.in-Ok-compare_files.ensures);
      answers = c.print_comparison.ensures;
    })

pub returns-in-Ok-compare_files-clause-opened : goal.returns-in-Ok-compare_files-clause-opened
returns-in-Ok-compare_files-clause-opened g c =
    opens-both _ _ _ _ _ _ c.in-Ok.ensures.names c.in-Ok-open.ensures.names

pub returns-in-Ok-compare_files-clause-same : goal.returns-in-Ok-compare_files-clause-same
returns-in-Ok-compare_files-clause-same g c =
    λ name. c.open-2.ensures.same name ∙ c.open.ensures.same name

pub returns-clause-compared : goal.returns-clause-compared
returns-clause-compared g c =
    let one = c.in-Ok.ensures.reader in
    let other = c.in-Ok-open.ensures.reader ∙ c.open.ensures.same c.args.other.now in
    let rest = g.I.Reader.Input.remaining c.compare_files.new.first_input in
    let rest' = g.I.Reader.Input.remaining c.compare_files.new.second_input in
    let fault = c.in-Err.fault in
    inr (inl (record {
      rest = rest;
      rest' = rest';
      fault = fault;
      nothing = Keeps-refl (g.O.Output.contents c.args.out.now);
      met = subst (λ (b : Option (List ℕ)). IsCompareFault b rest
          (g.I.Inputs.bytes c.args.inputs.now c.args.other.now) rest' fault) one
          (subst (λ (b : Option (List ℕ)). IsCompareFault (g.I.Reader.Input.remaining c.in-Ok.first)
          rest b rest' fault) other c.in-Err.ensures);
      answers = c.refuse_comparison.ensures;
    }))

pub returns-clause-opened : goal.returns-clause-opened
returns-clause-opened g c =
    opens-both _ _ _ _ _ _ c.in-Ok.ensures.names c.in-Ok-open.ensures.names

pub returns-clause-same : goal.returns-clause-same
returns-clause-same g c = λ name. c.open-2.ensures.same name ∙ c.open.ensures.same name
