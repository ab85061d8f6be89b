use Rattle.std.proofs.Common.{◌≡◌, [], List, Ok, Err, ap, ◌∙◌, sym, subst, rules, refl}
use Rattle.std.specs.Prelude.{Bool, true, false}
use Rattle.std.proofs.lemmas.Result.{err_from_is_err_and}
use Rattle.edf_field.specs.Number.{duration_of}
use Rattle.edf_header.specs.Header.{Layout}
use Rattle.edf_header.specs.Key.{Key}
use Rattle.edf_runs.specs.Inside.Comparing.{IsPassed}
use Rattle.edf_runs.specs.Inside.Siding.{files}
use Rattle.edf_runs.specs.declared.stretch.Stretch.{Stretch}
use Rattle.edf_runs.proofs.ReadOn.{begin-side, nothing-passed, on-layouts, advance-fault}
use Rattle.edf_runs.proofs.compared.compare_records.Goals as goal

pub returns-in-Err-clause-answer : goal.returns-in-Err-clause-answer
returns-in-Err-clause-answer g c =
    begin-side c.args.first.now.header (g.R.Input.remaining c.args.first_input.now)
    (g.R.Input.remaining c.next_record.new.input) c.args.first.now.progress
    c.next_record.new.fragment.progress (Err c.in-Err.fault) c.requires.first
    c.in-Err.ensures.next

pub returns-in-Err-next_record-clause-answer : goal.returns-in-Err-next_record-clause-answer
returns-in-Err-next_record-clause-answer g c =
    begin-side c.args.second.now.header (g.S.Input.remaining c.args.second_input.now)
    (g.S.Input.remaining c.next_record-2.new.input) c.args.second.now.progress
    c.next_record-2.new.fragment.progress (Err c.in-Err-next_record.fault) c.requires.second
    c.in-Err-next_record.ensures.next

pub records-init : goal.records-init
records-init g c =
    let d = c.duration-duration.result in
    let next = c.in-Ok.next in
    let other = c.in-Ok-next_record.other in
    record {
      first = c.next_record.ensures.header;
      second = c.next_record-2.ensures.header;
      duration = c.duration-duration.ensures.value
          ∙ ap (λ (k : Key). duration_of k.duration) (c.identity.ensures
          ∙ ap (λ (l : Layout). l.key) c.header.ensures);
      sides = (
        [],
        [],
        record {
          first = begin-side c.args.first.now.header (g.R.Input.remaining c.args.first_input.now)
              (g.R.Input.remaining c.next_record.new.input) c.args.first.now.progress
              c.next_record.new.fragment.progress (Ok next) c.requires.first c.in-Ok.ensures.next;
          second = begin-side c.args.second.now.header
              (g.S.Input.remaining c.args.second_input.now)
              (g.S.Input.remaining c.next_record-2.new.input) c.args.second.now.progress
              c.next_record-2.new.fragment.progress (Ok other) c.requires.second
              c.in-Ok-next_record.ensures.next;
          passed = subst (λ (x : List Stretch). IsPassed d 0 x c.new-2.result.items [] [] next
              other)
              (sym c.new.ensures.items)
              (subst (λ (x : List Stretch). IsPassed d 0 [] x [] [] next other)
              (sym c.new-2.ensures.items) (nothing-passed d next other));
        },
      );
    }

pub returns-in_err-advance-clause-answer : goal.returns-in_err-advance-clause-answer
returns-in_err-advance-clause-answer g c =
    let i = c.records.invariant in
    let from = g.R.Input.remaining c.args.first_input.now in
    let from' = g.S.Input.remaining c.args.second_input.now in
    let p = err_from_is_err_and c.from_residual.result c.from_residual.ensures.1 in
    let on = on-layouts c.records.first.header c.args.first.now.header c.records.second.header
    c.args.second.now.header (g.R.Input.remaining c.records.first_input)
    (g.S.Input.remaining c.records.second_input)
    (g.R.Input.remaining c.advance.new.first_input)
    (g.S.Input.remaining c.advance.new.second_input) c.records.first.progress
    c.records.second.progress c.advance.new.first.progress c.advance.new.second.progress
    c.records.sides c.advance.new.sides (Err c.in_err-advance.field-0.0) i.first i.second
    c.in_err-advance.ensures.sides in
    let before = files g.R.Input g.S.Input c.args.first.now.header c.args.second.now.header
    c.records.first c.records.first_input c.records.second c.records.second_input in
    let after = files g.R.Input g.S.Input c.args.first.now.header c.args.second.now.header
    c.advance.new.first c.advance.new.first_input c.advance.new.second c.advance.new.second_input in
    rw (p.1, p.2) (advance-fault from from' before after c.records.sides c.advance.new.sides
    i.sides.0 i.sides.1 c.in_err-advance.field-0.0
    (on from from' i.sides.0 i.sides.1 (Err c.in_err-advance.field-0.0) refl i.sides.2))

pub returns-then-not-branch-clause-answer : goal.returns-then-not-branch-clause-answer
returns-then-not-branch-clause-answer g c =
    let i = c.records.invariant in
    let from = g.R.Input.remaining c.args.first_input.now in
    let from' = g.S.Input.remaining c.args.second_input.now in
    let on = on-layouts c.records.first.header c.args.first.now.header c.records.second.header
    c.args.second.now.header (g.R.Input.remaining c.records.first_input)
    (g.S.Input.remaining c.records.second_input)
    (g.R.Input.remaining c.advance.new.first_input)
    (g.S.Input.remaining c.advance.new.second_input) c.records.first.progress
    c.records.second.progress c.advance.new.first.progress c.advance.new.second.progress
    c.records.sides c.advance.new.sides (Ok c.in_ok-advance.field-0) i.first i.second
    c.in_ok-advance.ensures.sides in
    let done : c.in_ok-advance.field-0 ≡ false = search rules in
    let ends = on from from' i.sides.0 i.sides.1 (Ok false)
    (ap (λ (b : Bool). Ok b) done) i.sides.2 in
    (i.sides.0, i.sides.1, ends.0, ends.1, ends.2)

pub records-smaller : goal.records-smaller
records-smaller g c =
    let i = c.records.invariant in
    let on = on-layouts c.records.first.header c.args.first.now.header c.records.second.header
    c.args.second.now.header (g.R.Input.remaining c.records.first_input)
    (g.S.Input.remaining c.records.second_input)
    (g.R.Input.remaining c.advance.new.first_input)
    (g.S.Input.remaining c.advance.new.second_input) c.records.first.progress
    c.records.second.progress c.advance.new.first.progress c.advance.new.second.progress
    c.records.sides c.advance.new.sides (Ok c.in_ok-advance.field-0) i.first i.second
    c.in_ok-advance.ensures.sides in
    let more : c.in_ok-advance.field-0 ≡ true = search rules in
    (on (g.R.Input.remaining c.args.first_input.now) (g.S.Input.remaining c.args.second_input.now)
    i.sides.0 i.sides.1 (Ok true) (ap (λ (b : Bool). Ok b) more) i.sides.2).1

pub records-preserved : goal.records-preserved
records-preserved g c =
    let i = c.records.invariant in
    let on = on-layouts c.records.first.header c.args.first.now.header c.records.second.header
    c.args.second.now.header (g.R.Input.remaining c.records.first_input)
    (g.S.Input.remaining c.records.second_input)
    (g.R.Input.remaining c.advance.new.first_input)
    (g.S.Input.remaining c.advance.new.second_input) c.records.first.progress
    c.records.second.progress c.advance.new.first.progress c.advance.new.second.progress
    c.records.sides c.advance.new.sides (Ok c.in_ok-advance.field-0) i.first i.second
    c.in_ok-advance.ensures.sides in
    let more : c.in_ok-advance.field-0 ≡ true = search rules in
    record {
      first = c.in_ok-advance.ensures.headers.0 ∙ i.first;
      second = c.in_ok-advance.ensures.headers.1 ∙ i.second;
      duration = c.in_ok-advance.ensures.duration ∙ i.duration;
      sides = (on (g.R.Input.remaining c.args.first_input.now)
          (g.S.Input.remaining c.args.second_input.now) i.sides.0 i.sides.1 (Ok true)
          (ap (λ (b : Bool). Ok b) more) i.sides.2).0;
    }
