use Rattle.edf_tests.proofs.adding.ask.Goals as goal

pub next_start-requires-clause-recording : goal.next_start-requires-clause-recording
next_start-requires-clause-recording g c = (
  c.args.identity.now,
  c.in_ok-has_capacity.ensures.changes.same.ids c.in_ok-id.id.row c.args.identity.now
      c.in_ok-id.ensures.row_id.has_row_id,
)

pub near-requires-clause-recording : goal.near-requires-clause-recording
near-requires-clause-recording g c = (
  c.args.identity.now,
  c.in_ok-next.ensures.changes.same.ids c.in_ok-id.id.row c.args.identity.now
      (c.in_ok-has_capacity.ensures.changes.same.ids c.in_ok-id.id.row c.args.identity.now
      c.in_ok-id.ensures.row_id.has_row_id),
  c.duration-duration.ensures.value,
)
