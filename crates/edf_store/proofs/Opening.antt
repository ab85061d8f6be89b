-- A file whose rows are kept is opened.
use Rattle.std.proofs.Common.{ℕ, ◌≤◌, sym, subst}
use Rattle.sqlite_trees.specs.declared.store.Store.{Ghosts}
use Rattle.sqlite.specs.Effect.{Database}
use Rattle.sqlite.specs.Held.{Held, state}
use Rattle.sqlite.specs.State.{State, HasCleanDisk, Survives}
use Rattle.edf_tables.specs.Made.{HasTables, IsMadeOf}
use Rattle.edf_header.specs.declared.limits.TheConstants.{MOST_RECORDS}
use Rattle.edf_rows.specs.Rows.{RepresentCommitted}
use Rattle.edf_rows.specs.File.{PassesAudit}
use Rattle.edf_tables.specs.Schema.{HasBoth}
use Rattle.edf_tables.proofs.File.{tables_both}
use Rattle.edf_store.specs.Held.{IsSoundStore}
use Rattle.edf_store.specs.Open.{IsOpened}

pub sound_opened : (cap : ℕ) (old new : State) → 1 ≤ cap → cap ≤ MOST_RECORDS →
    (HasCleanDisk new → PassesAudit cap old new) → IsSoundStore cap new
sound_opened cap old new from to kept = record {
  cap_from = from;
  cap_to = to;
  schema = λ clean is_open. let it = kept clean in
      subst (λ (d : Database). HasBoth d.schema) (sym it.settled)
      (tables_both old.now new.now it.tables);
  holdings = λ clean is_open. let it = kept clean in (
    it.holdings.0,
    subst (λ (d : Database). RepresentCommitted cap d.trees it.holdings.0) (sym it.settled)
        it.holdings.1,
  );
}

pub opened : {S : Type 0} (g : Ghosts S) (cap : ℕ) (old new : Held S) →
    (HasCleanDisk (state g new) → PassesAudit cap (state g old) (state g new)) →
    Survives (state g old) (state g new) (IsMadeOf (state g old).now) →
    IsOpened g old (record { connection = new; cap = cap })
opened g cap old new kept survives = record {
  is_open = λ clean. (kept clean).is_open;
  idle = λ clean. (kept clean).idle;
  tables = λ clean. let it = kept clean in
      subst (λ (d : Database). HasTables (state g old).now d) (sym it.settled) it.tables;
  holdings = λ clean. let it = kept clean in (
    it.holdings.0,
    subst (λ (d : Database). RepresentCommitted cap d.trees it.holdings.0) (sym it.settled)
        it.holdings.1,
  );
  own = λ clean. (kept clean).own;
  crash = survives;
}
