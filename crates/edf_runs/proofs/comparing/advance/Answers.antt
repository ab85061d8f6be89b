use Rattle.std.proofs.Common.{◌∷◌, ◌++◌, []}
use Rattle.edf_runs.proofs.ReadOn.{first-on, second-on, both-on, first-fails, second-fails, none-on}
use Rattle.edf_runs.proofs.comparing.advance.Goals as goal

pub returns-in-Neither-clause-sides : goal.returns-in-Neither-clause-sides
returns-in-Neither-clause-sides g c from from' p q are =
    none-on c.args.first.now.header c.args.second.now.header from from' c.args.sides.now p q
    (g.R.Input.remaining c.args.first_input.now) (g.S.Input.remaining c.args.second_input.now)
    c.args.first.now.progress c.args.second.now.progress c.in-Neither.ensures.0
    c.in-Neither.ensures.1 are

pub returns-in-Ok-clause-sides : goal.returns-in-Ok-clause-sides
returns-in-Ok-clause-sides g c from from' p q are =
    let step = c.in-First.ensures in
    let on = first-on c.args.first.now.header c.args.second.now.header from from'
    c.args.sides.now c.pass_first.new.self p q step.0 c.in-Ok.next
    (g.R.Input.remaining c.args.first_input.now) (g.R.Input.remaining c.next_record.new.input)
    (g.S.Input.remaining c.args.second_input.now) c.args.first.now.progress
    c.next_record.new.fragment.progress c.args.second.now.progress step.1 step.2 are
    c.in_ok-pass_first-in-First.ensures c.in-Ok.ensures.next in
    ((p ++ step.0 ∷ [], q, record { first = on.0; second = on.1; passed = on.2 }), on.3)

pub returns-in-Err-clause-sides : goal.returns-in-Err-clause-sides
returns-in-Err-clause-sides g c from from' p q are =
    let step = c.in-First.ensures in
    first-fails c.args.first.now.header c.args.second.now.header from from' c.args.sides.now p q
    step.0 c.in-Err.fault (g.R.Input.remaining c.args.first_input.now)
    (g.R.Input.remaining c.next_record.new.input) (g.S.Input.remaining c.args.second_input.now)
    c.args.first.now.progress c.next_record.new.fragment.progress c.args.second.now.progress
    step.1 are c.in-Err.ensures.next

pub returns-in-Ok-next_record-clause-sides : goal.returns-in-Ok-next_record-clause-sides
returns-in-Ok-next_record-clause-sides g c from from' p q are =
    let step = c.in-Second.ensures in
    let on = second-on c.args.first.now.header c.args.second.now.header from from'
    c.args.sides.now c.pass_second.new.self p q step.0 c.in-Ok-next_record.next
    (g.R.Input.remaining c.args.first_input.now) (g.S.Input.remaining c.args.second_input.now)
    (g.S.Input.remaining c.next_record-in-Second.new.input) c.args.first.now.progress
    c.args.second.now.progress c.next_record-in-Second.new.fragment.progress step.1 step.2 are
    c.in_ok-pass_second-in-Second.ensures c.in-Ok-next_record.ensures.next in
    ((p, q ++ step.0 ∷ [], record { first = on.0; second = on.1; passed = on.2 }), on.3)

pub returns-in-Err-next_record-clause-sides : goal.returns-in-Err-next_record-clause-sides
returns-in-Err-next_record-clause-sides g c from from' p q are =
    let step = c.in-Second.ensures in
    second-fails c.args.first.now.header c.args.second.now.header from from' c.args.sides.now p q
    step.0 c.in-Err-next_record.fault (g.R.Input.remaining c.args.first_input.now)
    (g.S.Input.remaining c.args.second_input.now)
    (g.S.Input.remaining c.next_record-in-Second.new.input) c.args.first.now.progress
    c.args.second.now.progress c.next_record-in-Second.new.fragment.progress step.1 are
    c.in-Err-next_record.ensures.next

pub returns-in-Err-next_record-2-clause-sides : goal.returns-in-Err-next_record-2-clause-sides
returns-in-Err-next_record-2-clause-sides g c from from' p q are =
    let step = c.in-Both.ensures in
    first-fails c.args.first.now.header c.args.second.now.header from from' c.args.sides.now p q
    step.0 c.in-Err-next_record-2.fault (g.R.Input.remaining c.args.first_input.now)
    (g.R.Input.remaining c.next_record-in-Both.new.input)
    (g.S.Input.remaining c.args.second_input.now) c.args.first.now.progress
    c.next_record-in-Both.new.fragment.progress c.args.second.now.progress step.2 are
    c.in-Err-next_record-2.ensures.next

pub returns-in-Ok-next_record-3-clause-sides : goal.returns-in-Ok-next_record-3-clause-sides
returns-in-Ok-next_record-3-clause-sides g c from from' p q are =
    let step = c.in-Both.ensures in
    let on = both-on c.args.first.now.header c.args.second.now.header from from'
    c.args.sides.now c.pass_both.new.self p q step.0 step.1 c.in-Ok-next_record-2.next
    c.in-Ok-next_record-3.next (g.R.Input.remaining c.args.first_input.now)
    (g.R.Input.remaining c.next_record-in-Both.new.input)
    (g.S.Input.remaining c.args.second_input.now)
    (g.S.Input.remaining c.next_record-in-Both-2.new.input) c.args.first.now.progress
    c.next_record-in-Both.new.fragment.progress c.args.second.now.progress
    c.next_record-in-Both-2.new.fragment.progress step.2 step.3 step.4 are
    c.in_ok-pass_both-in-Both.ensures c.in-Ok-next_record-2.ensures.next
    c.in-Ok-next_record-3.ensures.next in (
      (
        p ++ step.0 ∷ [],
        q ++ step.1 ∷ [],
        record { first = on.0; second = on.1; passed = on.2 },
      ),
      on.3,
    )

pub returns-in-Err-next_record-3-clause-sides : goal.returns-in-Err-next_record-3-clause-sides
returns-in-Err-next_record-3-clause-sides g c from from' p q are =
    let step = c.in-Both.ensures in
    second-fails c.args.first.now.header c.args.second.now.header from from' c.args.sides.now p q
    step.1 c.in-Err-next_record-3.fault (g.R.Input.remaining c.args.first_input.now)
    (g.S.Input.remaining c.args.second_input.now)
    (g.S.Input.remaining c.next_record-in-Both-2.new.input) c.args.first.now.progress
    c.args.second.now.progress c.next_record-in-Both-2.new.fragment.progress step.3 are
    c.in-Err-next_record-3.ensures.next
