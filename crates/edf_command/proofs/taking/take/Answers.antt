use Rattle.std.proofs.Common.{ℕ, List, length, map, ◌∙◌, ap, sym, subst, refl, inl, inr}
use Rattle.std.proofs.Common.{string_bytes, true, false}
use Rattle.std.specs.Prelude.{Option}
use Rattle.std.proofs.lemmas.Simd.{map-map}
use Rattle.edf_intake.specs.Refusal.{Answer}
use Rattle.edf_fragment.specs.Call.{InputState, input_state}
use Rattle.edf_command.specs.Lines.{first_take_lines, take_status}
use Rattle.edf_cli.specs.Output.{output_change, AreLinesWritten}
use Rattle.edf_cli.proofs.Puts.{nothing-gets, trouble-lines}
use Rattle.edf_command.proofs.taking.take.Goals as goal

pub returns-in_default-clause-taken : goal.returns-in_default-clause-taken
returns-in_default-clause-taken g c =
    inr (
      refl,
      (
        nothing-gets (g.O.Output.contents c.args.out.now)
            (g.O.Output.failures c.args.out.now),
        c.print_memory.ensures,
      ),
    )

pub returns-then-put_answers-clause-taken : goal.returns-then-put_answers-clause-taken
returns-then-put_answers-clause-taken g c =
    let Reader = g.row.I-Reader.Denot in
    let state : Reader → InputState = input_state g.I.Reader.Input in
    let left : Reader → Option (List ℕ) = λ i. g.I.Reader.Input.remaining i in
    let froms = map state c.as_mut_slice.result.now in
    let bytes = g.I.Inputs.bytes c.args.inputs.now in
    let files = c.args.files.now in
    inl (record {
      froms = froms;
      tos = map state c.submit_all.new.inputs;
      answers = c.in-Ok-submit_all.answers.items;
      opened =
          map-map (λ (f : InputState). f.remaining) state c.as_mut_slice.result.now
          ∙ ap (λ (l : List Reader). map left l) c.as_mut_slice.ensures.value
          ∙ c.in-Ok.ensures.opened ∙ sym (map-map bytes string_bytes files);
      submitted = c.in-Ok-submit_all.ensures.submitted;
      answered = c.in-Ok-submit_all.ensures.answered;
      said = λ spell is.
          let names = map string_bytes files in
          let IsOut : List Answer → Type 0 = λ answers.
          AreLinesWritten (output_change g.O.Output c.args.out.now c.put_answers.new.out)
          (first_take_lines spell names answers) (length answers) true in
          inl (inl (
            subst IsOut c.as_slice.ensures.value (c.if-put_answers.ensures spell is),
            c.take_status.ensures ∙ ap take_status c.as_slice-then-put_answers.ensures.value,
          ));
      silent = nothing-gets (g.F.Output.contents c.args.err.now)
          (g.F.Output.failures c.args.err.now);
    })

pub returns-clause-taken : goal.returns-clause-taken
returns-clause-taken g c =
    let Reader = g.row.I-Reader.Denot in
    let state : Reader → InputState = input_state g.I.Reader.Input in
    let left : Reader → Option (List ℕ) = λ i. g.I.Reader.Input.remaining i in
    let bytes = g.I.Inputs.bytes c.args.inputs.now in
    let files = c.args.files.now in
    inl (record {
      froms = map state c.as_mut_slice.result.now;
      tos = map state c.submit_all.new.inputs;
      answers = c.in-Ok-submit_all.answers.items;
      opened =
          map-map (λ (f : InputState). f.remaining) state c.as_mut_slice.result.now
          ∙ ap (λ (l : List Reader). map left l) c.as_mut_slice.ensures.value
          ∙ c.in-Ok.ensures.opened ∙ sym (map-map bytes string_bytes files);
      submitted = c.in-Ok-submit_all.ensures.submitted;
      answered = c.in-Ok-submit_all.ensures.answered;
      said = λ spell is.
          let names = map string_bytes files in
          let answers = c.in-Ok-submit_all.answers.items in
          let w = output_change g.O.Output c.args.out.now c.put_answers.new.out in
          let IsOut : List Answer → Type 0 = λ answers.
          AreLinesWritten w (first_take_lines spell names answers) (length answers) false in
          trouble-lines w (first_take_lines spell names answers) (length answers)
          (take_status answers) (subst IsOut c.as_slice.ensures.value
          (c.if-put_answers.ensures spell is));
      silent = nothing-gets (g.F.Output.contents c.args.err.now)
          (g.F.Output.failures c.args.err.now);
    })
