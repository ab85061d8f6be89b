use Rattle.std.proofs.Common.{ℕ, List, length, ◌+◌, drop, take, map, string_bytes, ap, sym, ◌∙◌}
use Rattle.std.proofs.Common.{subst}
use Rattle.std.proofs.lemmas.List.{length_push, take_all}
use Rattle.std.proofs.lemmas.Slice.Zip.{zip_turn, zip_end}
use Rattle.std.specs.List.{flat_map}
use Rattle.edf_command.specs.Lines.{take_line, first_take_lines}
use Rattle.edf_cli.specs.Output.{output_change, Gets}
use Rattle.edf_cli.proofs.Puts.{grown, nothing-gets, gets-after, stops-after}
use Rattle.edf_command.proofs.Written.{pairs, pair_line, length-pairs, first-pairs, all-pairs}
use Rattle.edf_command.proofs.Written.{taken-more, first-split}
use Rattle.edf_command.proofs.taking.put_answers.Goals as goal

pub loop-file-init : goal.loop-file-init
loop-file-init g c spell is = nothing-gets (g.O.Output.contents c.args.out.now)
    (g.O.Output.failures c.args.out.now)

pub returns-then-not-put_answer : goal.returns-then-not-put_answer
returns-then-not-put_answer g c spell is =
    let files = c.args.files.now in
    let answers = c.args.answers.now in
    let t = zip_turn files answers c.loop-file.yielded c.into_iter-file-iterator.result
    c.loop-file.file-iterator c.next.new.self c.next.result (cc) (cc) c.loop-file.yielded_by
    (c.in-Some.file, c.in-Some.answer) c.in-Some.is c.next.ensures.steps in
    let n = length c.loop-file.yielded in
    let name = c.as_str.result.now in
    let line = take_line spell name c.in-Some.answer.now in
    let a = g.O.Output.contents c.args.out.now in
    let old = g.O.Output.failures c.args.out.now in
    let b = g.O.Output.contents c.loop-file.out in
    let mid = g.O.Output.failures c.loop-file.out in
    let first = subst (Gets (grown a old b mid)) (sym (first-pairs spell files answers n))
    (c.loop-file.invariant spell is) in
    stops-after a old b mid (g.O.Output.contents c.put_answer.new.out)
    (g.O.Output.failures c.put_answer.new.out)
    (first_take_lines spell (map string_bytes files) answers) (length answers) n line
    (flat_map (pair_line spell files answers) (drop (n + 1) (pairs spell files answers))) t.1
    (first-split spell files answers n c.in-Some.file.now c.in-Some.answer.now name t.0 t.1
    (t.2 c.in-Some.file.now) (t.3 c.in-Some.answer.now) c.as_str.ensures.value)
    first (c.if-not-put_answer.ensures spell is)

pub loop-file-preserved : goal.loop-file-preserved
loop-file-preserved g c spell is =
    let files = c.args.files.now in
    let answers = c.args.answers.now in
    let t = zip_turn files answers c.loop-file.yielded c.into_iter-file-iterator.result
    c.loop-file.file-iterator c.next.new.self c.next.result (cc) (cc) c.loop-file.yielded_by
    (c.in-Some.file, c.in-Some.answer) c.in-Some.is c.next.ensures.steps in
    let n = length c.loop-file.yielded in
    let name = c.as_str.result.now in
    let line = take_line spell name c.in-Some.answer.now in
    let a = g.O.Output.contents c.args.out.now in
    let old = g.O.Output.failures c.args.out.now in
    let after = g.O.Output.contents c.put_answer.new.out in
    let new = g.O.Output.failures c.put_answer.new.out in
    let done = flat_map (pair_line spell files answers) (take n (pairs spell files answers)) in
    let IsOut : List ℕ → Type 0 = λ bytes. Gets (grown a old after new) bytes in
    let more = taken-more spell files answers n c.in-Some.file.now c.in-Some.answer.now name t.0 t.1
    (t.2 c.in-Some.file.now) (t.3 c.in-Some.answer.now) c.as_str.ensures.value in
    let len = ap (λ (m : ℕ). flat_map (pair_line spell files answers)
    (take m (pairs spell files answers)))
    (length_push c.loop-file.yielded (c.in-Some.file, c.in-Some.answer)) in
    subst IsOut (sym (len ∙ more)) (gets-after a old (g.O.Output.contents c.loop-file.out)
    (g.O.Output.failures c.loop-file.out) after new done line (c.loop-file.invariant spell is)
    (c.if-not-put_answer.ensures spell is))

pub returns : goal.returns
returns g c spell is =
    let files = c.args.files.now in
    let answers = c.args.answers.now in
    let n = length c.loop-file.yielded in
    let end = zip_end files answers c.loop-file.yielded c.into_iter-file-iterator.result
    c.loop-file.file-iterator c.next.new.self c.next.result (cc) (cc) c.loop-file.yielded_by
    c.in-None.is c.next.ensures.steps in
    let IsOut : List ℕ → Type 0 = λ bytes.
    Gets (output_change g.O.Output c.args.out.now c.loop-file.out) bytes in
    subst IsOut (ap (flat_map (pair_line spell files answers))
    (take_all n (pairs spell files answers) (length-pairs spell files answers n end))
    ∙ sym (all-pairs spell files answers)) (c.loop-file.invariant spell is)
