-- What an interrupted statement leaves.
use Rattle.std.proofs.Common.{◌≡◌, inl, inr, List, ℕ, ◌∙◌, sym, subst, ap, Option, None, Some}
use Rattle.std.proofs.Common.{◌≤◌, false, Ok, Err, arith}
use Rattle.sqlite_disk.specs.declared.Disk.{Ghosts}
use Rattle.sqlite.specs.Order.{Row}
use Rattle.sqlite_wal.specs.Recovery.{Image}
use Rattle.sqlite_trees.specs.View.{doubt}
use Rattle.sqlite_trees.specs.declared.error.StoreError.{StoreError}
use Rattle.sqlite_trees.specs.declared.error.StoreError.TheVariants as cause
use Rattle.sqlite_store.specs.declared.store.FileStore.{FileStore}
use Rattle.sqlite.specs.Held.{Held}
use Rattle.sqlite.specs.declared.error.Error.{Error}
use Rattle.sqlite.specs.declared.error.Error.TheVariants.{SqliteFailure, QueryReturnedNoRows}
use Rattle.sqlite.specs.declared.error.ErrorCode.TheVariants.{OperationInterrupted}
use Rattle.sqlite.specs.Effect.{Database, IsDatabase}
use Rattle.sqlite.specs.Files.{AreFoundIn, file_state}
use Rattle.sqlite.specs.Start.{FindsIn}
use Rattle.sqlite.specs.State.{State, QueriesRow, FailsToQuery, FailsToShow, IsNotRun, IsUnchanged}
use Rattle.sqlite.specs.State.{HasCleanDisk, IsLive, Opens, store_error}
use Rattle.edfstore_files.specs.ProgramRun.{IsOpening}

abbrev pub interrupted : Error
interrupted = SqliteFailure OperationInterrupted

no_store_error : (why : StoreError) → interrupted ≡ store_error why → ⊥
no_store_error cause.OutOfMemory is = absurd cc
no_store_error cause.Io is = absurd cc
no_store_error cause.Corrupt is = absurd cc
no_store_error cause.Full is = absurd cc
no_store_error cause.Broken is = absurd cc
no_store_error cause.Unstorable is = absurd cc

no_rows : interrupted ≡ QueryReturnedNoRows → ⊥
no_rows is = absurd cc

module _ (old new : State) where
  to_show : (sql : List ℕ) (c : _) (params : Row) (returning : Option _) →
      FailsToShow old new sql c params interrupted returning → IsUnchanged old new
  to_show sql c params None h = h.3
  to_show sql c params (Some what) (inl h) = h.1
  to_show sql c params (Some what) (inr h) = absurd (no_store_error h.0 h.1)

  pub unchanged : (sql : List ℕ) (params : Row) →
      QueriesRow sql params old new (Err interrupted) → IsUnchanged old new
  unfolding QueriesRow FailsToQuery IsNotRun
  unchanged sql params (inl (inl (inl h))) = h.1
  unchanged sql params (inl (inl (inr h))) = absurd (no_store_error h.0 h.1)
  unchanged sql params (inl (inr h)) = to_show sql h.0 _ h.0.returning h.2
  unchanged sql params (inr h) = absurd (no_rows h.0)

  pub still_opens : IsUnchanged old new → Opens old → Opens new
  still_opens (shows, counts, marks) o = record {
    is_open = shows.is_open;
    clean = shows.now_is ∙ o.clean ∙ sym shows.committed_is;
    autocommit = shows.mode ∙ o.autocommit;
    unmarked = marks ∙ o.unmarked;
    uncounted = (counts.changes ∙ o.uncounted.0, counts.last_rowid ∙ o.uncounted.1);
  }

  pub still_live : IsUnchanged old new → IsLive old → IsLive new
  still_live (shows, counts, marks) live last = (
    subst IsDatabase (sym shows.now_is) (live shows.was_open).0,
    subst IsDatabase (sym shows.committed_is) (live shows.was_open).1,
  )

  pub still_found : (start : Image) → IsUnchanged old new → FindsIn start old → FindsIn start new
  still_found start (shows, counts, marks) found = record {
    holds = λ db held. ap (λ (d : Database). d.trees) shows.committed_is ∙ found.holds db held;
    reads = subst (λ (d : Database). AreFoundIn start d.trees) (sym shows.committed_is)
        found.reads;
  }

module _ {D : Type 0} {g : Ghosts D} (a b : Held (FileStore D g)) (l m : Option ℕ) where
  -- no limit is looked at
  unlimited : IsUnchanged (file_state (record a { step_limit = l })) (file_state b) →
      IsUnchanged (file_state a) (file_state (record b { step_limit = m }))
  unlimited (shows, counts, marks) = (
    record {
      was_open = shows.was_open;
      is_open = shows.is_open;
      now_is = shows.now_is;
      committed_is = shows.committed_is;
      mode = shows.mode;
    },
    record { changes = counts.changes; last_rowid = counts.last_rowid },
    marks,
  )

  pub opening_after : (start : Image) → (a.in_transaction ≡ false → b.in_transaction ≡ false) →
      doubt (file_state a).is_clean ≤ doubt (file_state b).is_clean →
      (HasCleanDisk (file_state b) →
      IsUnchanged (file_state (record a { step_limit = l })) (file_state b)) →
      IsOpening {g = g} start (Ok a) → IsOpening {g = g} start (Ok (record b { step_limit = m }))
  opening_after start mode doubts same (idle, opened) = (
    mode idle,
    λ clean.
        let was : HasCleanDisk (file_state a) = omega (arith, doubts) in
        let last = file_state (record b { step_limit = m }) in
        let u = unlimited (same clean) in (
          (
            still_opens (file_state a) last u (opened was).0.0,
            still_live (file_state a) last u (opened was).0.1,
          ),
          still_found (file_state a) last start u (opened was).1,
        ),
  )
