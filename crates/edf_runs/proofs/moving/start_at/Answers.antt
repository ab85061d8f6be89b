use Rattle.std.proofs.Common.{◌≡◌, ℕ, ◌+◌, ◌<◌, ◌≤◌, length, get_or, Some, None, Option, rules}
use Rattle.std.proofs.Common.{of_calls, subst, sym, arith}
use Rattle.std.proofs.lemmas.List.Sorted.{IsPartitionPoint-from_clause, IsPartitionedBy-leb}
use Rattle.edf_runs.specs.Inside.Moving.{LiesIn}
use Rattle.edf_runs.proofs.LyingIn.{begun, never-falls, none-begun, in-last, past-last}
use Rattle.edf_runs.proofs.moving.start_at.Goals as goal

pub returns-in_err-checked_sub : goal.returns-in_err-checked_sub
returns-in_err-checked_sub c rise =
    let xs = c.args.starts.now in
    let d = c.args.duration in
    let n = c.nanos-nanos.result in
    let parted = IsPartitionedBy-leb (λ (s : ℕ). s) xs n (never-falls d 0 xs rise) in
    let point = IsPartitionPoint-from_clause (begun n) xs _
    c.partition_point-begun.ensures.partitioned parted (λ x r q k. search (rules, of_calls)) in
    let none : c.partition_point-begun.result ≡ 0 = search rules in
    let is : c.from_residual.result ≡ None = search rules in
    subst (λ (o : Option ℕ). LiesIn d xs c.args.instant o) (sym is)
    (subst (λ (i : ℕ). LiesIn d xs i None) c.nanos-nanos.ensures.value
    (none-begun d n xs c.partition_point-begun.result point none))

pub returns-then-nanos-duration : goal.returns-then-nanos-duration
returns-then-nanos-duration c rise =
    let xs = c.args.starts.now in
    let d = c.args.duration in
    let n = c.nanos-nanos.result in
    let parted = IsPartitionedBy-leb (λ (s : ℕ). s) xs n (never-falls d 0 xs rise) in
    let point = IsPartitionPoint-from_clause (begun n) xs _
    c.partition_point-begun.ensures.partitioned parted (λ x r q k. search (rules, of_calls)) in
    let m = c.in_ok-checked_sub.field-0 in
    let s = c.in_ok-start.field-0.now in
    let one : c.partition_point-begun.result ≡ m + 1 = search rules in
    let few : m < length xs = search rules in
    let at : s ≡ get_or xs m s = search rules in
    let inside : n < s + d = omega (arith, c.if-nanos-duration.true, c.nanos.ensures.value) in
    subst (λ (i : ℕ). LiesIn d xs i (Some s)) c.nanos-nanos.ensures.value
    (in-last d n xs c.partition_point-begun.result point m s one few at inside)

pub returns-else-nanos-duration : goal.returns-else-nanos-duration
returns-else-nanos-duration c rise =
    let xs = c.args.starts.now in
    let d = c.args.duration in
    let n = c.nanos-nanos.result in
    let parted = IsPartitionedBy-leb (λ (s : ℕ). s) xs n (never-falls d 0 xs rise) in
    let point = IsPartitionPoint-from_clause (begun n) xs _
    c.partition_point-begun.ensures.partitioned parted (λ x r q k. search (rules, of_calls)) in
    let m = c.in_ok-checked_sub.field-0 in
    let s = c.in_ok-start.field-0.now in
    let one : c.partition_point-begun.result ≡ m + 1 = search rules in
    let few : m < length xs = search rules in
    let at : s ≡ get_or xs m s = search rules in
    let past : s + d ≤ n = omega (arith, c.if-nanos-duration.false, c.nanos.ensures.value) in
    subst (λ (i : ℕ). LiesIn d xs i None) c.nanos-nanos.ensures.value
    (past-last d n xs c.partition_point-begun.result point m s rise one few at past)
