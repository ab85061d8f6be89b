use Rattle.std.proofs.Common.{rules}
use Rattle.edf_command.proofs.Places.{empty_no_plus, has_no_plus, no_place, no_plus, some_place}
use Rattle.edf_command.proofs.order.read_place.Goals as goal

pub returns-else-place-eq0 : goal.returns-else-place-eq0
returns-else-place-eq0 c =
    let same : has_no_plus c.args.text.now = elim c.else-not-is_empty.branch [
      | goal.else-not-is_empty-via-then-not-is_empty+else-bytes-eq-PLUS w ↦
          no_plus c.args.text.now (search rules)
      | goal.else-not-is_empty-via-else-not-is_empty w ↦
          empty_no_plus c.args.text.now (search rules)
    ] in
    some_place c.args.text.now c.in-Ok.place same c.in-Ok.ensures.value.0 c.if-place-eq0.false

pub returns-in-Err : goal.returns-in-Err
returns-in-Err c =
    let same : has_no_plus c.args.text.now = elim c.else-not-is_empty.branch [
      | goal.else-not-is_empty-via-then-not-is_empty+else-bytes-eq-PLUS w ↦
          no_plus c.args.text.now (search rules)
      | goal.else-not-is_empty-via-else-not-is_empty w ↦
          empty_no_plus c.args.text.now (search rules)
    ] in
    no_place c.args.text.now c.in-Err.field-0 same c.in-Err.ensures.value.0
