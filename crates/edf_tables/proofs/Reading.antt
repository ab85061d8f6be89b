-- What any query leaves of a connection.
use Rattle.std.proofs.Common.{◌≡◌, inl, inr, List, ℕ, Result, Ok, Err, IfOk, OnOk, OnErr, IfErr}
use Rattle.std.proofs.Common.{None, Vec, Global, sym, subst, arith}
use Rattle.sqlite.specs.Order.{Row}
use Rattle.sqlite.specs.declared.error.Error.{Error}
use Rattle.sqlite_resolve.specs.declared.compiled.Compiled.{Compiled}
use Rattle.sqlite.specs.Effect.{Database}
use Rattle.sqlite.specs.Listing.{understood, reads_listing, IsSourceOf}
use Rattle.sqlite.specs.State.{State, HasCleanDisk, Survives, Shown, FailsToQuery, IsNotRun}
use Rattle.sqlite.specs.State.{IsUnchanged, KeepsCommit, CommitsShowing, FailsToShow, ShowsRows}
use Rattle.sqlite.specs.State.{IsStatement}
use Rattle.sqlite.specs.Clock.{timed}
use Rattle.sqlite.proofs.StateLemmas.{survives_weaker}
use Rattle.sqlite.proofs.Callers.{IsPlain, never_commits, unchanged_then}
use Rattle.edf_tables.specs.Refused.{IsUnchangedOrRolledBack}
use Rattle.edf_tables.proofs.Keeping.{left_keeps}

module _ (sql : List ℕ) (params : Row) (old new : State)
    (plain : IsPlain (understood old.now.schema sql)) where
  pub shown_same : (rows : List Row) → Shown sql params old new rows → IsUnchanged old new
  unfolding Shown
  shown_same rows h =
      let bare = (subst IsPlain h.1.is plain).0 in
      (subst (ShowsRows old new sql h.0 (timed params h.0.formats h.1.now) rows) bare h.2).3

  pub query_left : (e : Error) → FailsToQuery sql params old new e → IsUnchangedOrRolledBack old new
  unfolding FailsToQuery IsNotRun
  query_left e (inl (inl h)) = inl h.1
  query_left e (inl (inr h)) = inr h.3
  query_left e (inr h) =
      let bare = (subst IsPlain h.1.is plain).0 in
      inl (subst (FailsToShow old new sql h.0 (timed params h.0.formats h.1.now) e) bare h.2).3

  pub query_refused : {X : Type 0} (r : Result X Error) →
      IfErr r (FailsToQuery sql params old new) → OnErr r (IsUnchangedOrRolledBack old new)
  query_refused (Ok x) h = tt
  query_refused (Err e) h = query_left e h

  pub query_same : (r : Result (Vec Row Global) Error) →
      IfOk r (λ rows. Shown sql params old new rows.items) → OnOk r (IsUnchanged old new)
  query_same (Ok rows) h = shown_same rows.items h
  query_same (Err e) h = tt

  pub query_keeps : (r : Result (Vec Row Global) Error) →
      IfOk r (λ rows. Shown sql params old new rows.items) →
      IfErr r (FailsToQuery sql params old new) → KeepsCommit old new
  query_keeps (Ok rows) h f = left_keeps old new (inl (shown_same rows.items h))
  query_keeps (Err e) h f = left_keeps old new (query_left e f)

-- a query commits nothing
pub query_quiet : (sql : List ℕ) (params : Row) (old new : State) →
    (HasCleanDisk old → IsPlain (understood old.now.schema sql)) →
    Survives old new (CommitsShowing sql params old) → Survives old new (λ _. ⊥)
query_quiet sql params old new plain s =
    survives_weaker old new _ _ (λ clean db.
    never_commits sql params old db (plain (omega (arith, s.clean)))) s

-- a query that was begun, and has changed nothing so far
module _ (sql : List ℕ) (params : Row) (old mid new : State)
    (plain : IsPlain (understood old.now.schema sql)) (same : IsUnchanged old mid) where
  abbrev since : (c : Compiled) → IsStatement mid sql params c → IsStatement old sql params c
  since c h = record {
    is = subst (λ (d : Database). understood d.schema sql ≡ Ok c) same.0.now_is h.is;
    whole = h.whole;
    given = h.given;
    now = h.now;
  }

  abbrev bare : (c : Compiled) → IsStatement mid sql params c → c.returning ≡ None
  bare c h = (subst IsPlain (since c h).is plain).0

  source_since : (db : Database) → IsSourceOf (reads_listing mid.now.schema sql) mid.now db →
      IsSourceOf (reads_listing old.now.schema sql) old.now db
  source_since db =
      subst (λ (d : Database). IsSourceOf (reads_listing d.schema sql) d db) same.0.now_is

  pub shown_since : (rows : List Row) → Shown sql params mid new rows →
      Shown sql params old new rows
  unfolding Shown
  shown_since rows h =
      let none = bare h.0 h.1 in
      let full = timed params h.0.formats h.1.now in
      let it = subst (ShowsRows mid new sql h.0 full rows) none h.2 in (
        h.0,
        since h.0 h.1,
        subst (ShowsRows old new sql h.0 full rows) (sym none)
            (it.0, source_since it.0 it.1, it.2, unchanged_then old mid new same it.3),
      )
