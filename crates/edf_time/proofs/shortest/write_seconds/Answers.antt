use Rattle.std.proofs.Common.{arith, ◌≡◌}
use Rattle.edf_time.specs.Decimal.{short}
use Rattle.edf_time.proofs.Short.{short-parts, IsShortest-short}
use Rattle.edf_time.proofs.shortest.write_seconds.Goals as goal

pub returns-clause-text : goal.returns-clause-text
returns-clause-text c = rw (
  c.in_ok-push_fraction.ensures,
  c.into_bytes-text.ensures.value,
  c.in_ok-to_string.ensures.ok,
) (short-parts c.args.nanos)

pub returns-clause-shortest : goal.returns-clause-shortest
returns-clause-shortest c =
    let e : c.push_fraction.new.text.items ≡ short c.args.nanos =
    rw (
      c.in_ok-push_fraction.ensures,
      c.into_bytes-text.ensures.value,
      c.in_ok-to_string.ensures.ok,
    ) (short-parts c.args.nanos)
    in
    rw e (IsShortest-short c.args.nanos (omega arith))
