use Rattle.std.proofs.Common.{arith, ◌<◌, ◌+◌, ◌*◌, ◌^◌, length}
use Rattle.std.proofs.Math.Nat.{one-le-pow}
use Rattle.edf_field.proofs.Numbers.{joined-fits, pow-fits}
use Rattle.edf_field.proofs.physical.read_physical.Goals as goal

pub pow-requires : goal.pow-requires
pow-requires c = omega (arith, pow-fits (length c.split_fraction.result.0.now) (omega arith))

pub overflow_mul-result : goal.overflow_mul-result
overflow_mul-result c =
    let ten : 0 < 10 = omega arith in
    let zero : 0 < 10 ^ length c.split_fraction.result.0.now =
    one-le-pow (length c.split_fraction.result.0.now) 10 ten in
    let fits : c.read_digits.result * 10 ^ length c.split_fraction.result.0.now + 0 < 10 ^ 8 =
    joined-fits c.read_digits.result 0 (length c.split_digits.result.0.now)
    (length c.split_fraction.result.0.now) c.read_digits.ensures.bound zero (omega arith) in
    rw c.pow.ensures (omega arith)

pub overflow_add-result : goal.overflow_add-result
overflow_add-result c =
    let fits = joined-fits c.read_digits.result c.read_digits-2.result
    (length c.split_digits.result.0.now) (length c.split_fraction.result.0.now)
    c.read_digits.ensures.bound c.read_digits-2.ensures.bound (omega arith) in
    rw c.pow.ensures (omega arith)

pub invariant_of-result : goal.invariant_of-result
invariant_of-result c =
    let fits = joined-fits c.read_digits.result c.read_digits-2.result
    (length c.split_digits.result.0.now) (length c.split_fraction.result.0.now)
    c.read_digits.ensures.bound c.read_digits-2.ensures.bound (omega arith) in
    record { small = rw c.pow.ensures fits; few = omega arith }
