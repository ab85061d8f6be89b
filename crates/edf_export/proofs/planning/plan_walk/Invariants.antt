use Rattle.std.proofs.Common.{◌≡◌, false, take}
use Rattle.sqlite.specs.State.{HasCleanDisk}
use Rattle.edf_header.specs.Key.{Key}
use Rattle.edf_holdings.specs.Holdings.{Holdings}
use Rattle.edf_store.specs.Held.{at, KeepsHoldings}
use Rattle.edf_store.specs.Walk.{HasYielded, IsWalking}
use Rattle.edf_canonical.specs.Measure.{IsMeasuredSoFar}
use Rattle.edf_export.proofs.planning.plan_walk.Given as goal

abbrev pub invariant-loop : goal.invariant-loop
invariant-loop g l = record {
  going : l.walk.failed ≡ false;
  ready : IsWalking g.S.Store l.walk;
  same_reference : l.walk.store.ghost_name ≡ l.initial.walk.store.ghost_name;
  stays : KeepsHoldings g.S.Store l.initial.walk.store.now l.walk.store.now;
  moved : (h : Holdings) (k : Key) →
      HasYielded g.S.Store l.initial.walk h k 0 → HasYielded g.S.Store l.walk h k l.counter;
  told : HasCleanDisk (at g.S.Store l.walk.store.now) → (h : Holdings) (k : Key) →
      HasYielded g.S.Store l.initial.walk h k 0 → IsMeasuredSoFar (take l.counter (h k)) l.plan;
}
