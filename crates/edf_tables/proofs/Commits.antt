-- What each statement of a transaction may commit, and what BEGIN, COMMIT and ROLLBACK do.
use Rattle.std.proofs.Common.{◌≡◌, inl, inr, ℕ, List, [], codes, true, false, IsTrue, None, Ok}
use Rattle.std.proofs.Common.{refl, sym, ap, subst, subst₂, ◌∙◌, append-nil, arith, true≢false}
use Rattle.sqlite.specs.Order.{Row}
use Rattle.sqlite.specs.Tree.{Trees}
use Rattle.sqlite.specs.Schema.{Schema}
use Rattle.sqlite_schema.specs.declared.command.Command.{Command}
use Rattle.sqlite_schema.specs.declared.command.Command.TheVariants.{Insert, Begin, Commit}
use Rattle.sqlite_schema.specs.declared.command.Command.TheVariants.{Rollback}
use Rattle.sqlite_schema.specs.declared.command.Source.{Source}
use Rattle.sqlite_tied.specs.Compute.{everything}
use Rattle.sqlite.specs.Listing.{understood}
use Rattle.sqlite.specs.State.{State, HasCleanDisk, Survives, MayCommit, CommitsBy, Executes, Shows}
use Rattle.sqlite.specs.State.{IsRolledBack}
use Rattle.sqlite.proofs.StateLemmas.{survives_weaker, survives_then}
use Rattle.sqlite.proofs.Callers.{IsPlain, command_of, statement_of, runs_as}
use Rattle.edf_tables.specs.Schema.{HasBoth, Others, schema_with}

abbrev pub begin_text : List ℕ
begin_text = codes "BEGIN"

abbrev pub commit_text : List ℕ
commit_text = codes "COMMIT"

abbrev pub rollback_text : List ℕ
rollback_text = codes "ROLLBACK"

pub begin_is : (schema : Schema) → (command_of (understood schema begin_text) ≡ Begin)
    × IsPlain (understood schema begin_text)
unfolding understood everything
begin_is schema = (refl, (refl, refl))

pub commit_is : (schema : Schema) → (command_of (understood schema commit_text) ≡ Commit)
    × IsPlain (understood schema commit_text)
unfolding understood everything
commit_is schema = (refl, (refl, refl))

pub rollback_is : (schema : Schema) → (command_of (understood schema rollback_text) ≡ Rollback)
    × IsPlain (understood schema rollback_text)
unfolding understood everything
rollback_is schema = (refl, (refl, refl))

module _ (sql : List ℕ) (params : Row) (old : State) (schema : Schema)
    (has : old.now.schema ≡ schema) (command : Command)
    (is : command_of (understood schema sql) ≡ command)
    (plain : IsPlain (understood schema sql)) where
  pub commits_as : (db : Trees) → CommitsBy sql params old db →
      MayCommit old None command (statement_of sql (understood schema sql)) params db
  unfolding CommitsBy
  commits_as db h =
      let known = sym h.1.is ∙ ap (λ s. understood s sql) has in
      let bare = subst IsPlain (sym known) plain in
      subst₂ (λ k t. MayCommit old None k t params db) (ap command_of known
      ∙ is) (ap (statement_of sql) known) (rw (bare.0, bare.1, append-nil params) at h.2)

begins_nothing : (old : State) (text : List ℕ) (params : Row) (db : Trees) →
    ¬ MayCommit old None Begin text params db
begins_nothing old text params db (inl (inl e, same)) = absurd (cc)
begins_nothing old text params db (inl (inr e, same)) = absurd (let k = e.2 in cc)
begins_nothing old text params db (inr may) = absurd (let k = may.3 in cc)

ends_nothing : (old : State) (text : List ℕ) (params : Row) (db : Trees) →
    ¬ MayCommit old None Rollback text params db
ends_nothing old text params db (inl (inl e, same)) = absurd (cc)
ends_nothing old text params db (inl (inr e, same)) = absurd (let k = e.2 in cc)
ends_nothing old text params db (inr may) = absurd (let k = may.3 in cc)

commits_now : (old : State) (text : List ℕ) (params : Row) (db : Trees) →
    MayCommit old None Commit text params db → db ≡ old.now.trees
commits_now old text params db (inl it) = it.1
commits_now old text params db (inr may) = absurd (let k = may.3 in cc)

-- inside a transaction an INSERT commits nothing
inserts_nothing : (old : State) (at : ℕ) (from : Source) (text : List ℕ) (params : Row)
    (db : Trees) → IsTrue old.in_transaction → ¬ MayCommit old None (Insert at from) text params db
inserts_nothing old at from text params db inside (inl (inl e, same)) = absurd (cc)
inserts_nothing old at from text params db inside (inl (inr e, same)) = absurd (let k = e.2 in cc)
inserts_nothing old at from text params db inside (inr may) =
    absurd (true≢false (sym (rw may.0 at inside)))

pub begin_survives : (old new : State) → Survives old new (CommitsBy begin_text [] old) →
    Survives old new (λ _. ⊥)
begin_survives old new s =
    survives_weaker old new _ _ (λ clean db may.
    begins_nothing old (statement_of begin_text (understood old.now.schema begin_text)) [] db
    (commits_as begin_text [] old old.now.schema refl Begin (begin_is old.now.schema).0
    (begin_is old.now.schema).1 db may)) s

pub rollback_survives : (old new : State) → Survives old new (CommitsBy rollback_text [] old) →
    Survives old new (λ _. ⊥)
rollback_survives old new s =
    survives_weaker old new _ _ (λ clean db may.
    ends_nothing old (statement_of rollback_text (understood old.now.schema rollback_text)) []
    db (commits_as rollback_text [] old old.now.schema refl Rollback
    (rollback_is old.now.schema).0 (rollback_is old.now.schema).1 db may)) s

pub commit_survives : (old new : State) → Survives old new (CommitsBy commit_text [] old) →
    Survives old new (λ db. db ≡ old.now.trees)
commit_survives old new s =
    survives_weaker old new _ _ (λ clean db may.
    commits_now old (statement_of commit_text (understood old.now.schema commit_text)) [] db
    (commits_as commit_text [] old old.now.schema refl Commit (commit_is old.now.schema).0
    (commit_is old.now.schema).1 db may)) s

pub insert_survives : (old new : State) (sql : List ℕ) (params : Row) (at : ℕ) (from : Source) →
    ((o : Others) → (command_of (understood (schema_with o) sql) ≡ Insert at from)
    × IsPlain (understood (schema_with o) sql))
    → (HasCleanDisk old → HasBoth old.now.schema × IsTrue old.in_transaction) →
    Survives old new (CommitsBy sql params old) → Survives old new (λ _. ⊥)
insert_survives old new sql params at from is has s =
    survives_weaker old new _ _ (λ clean db may. let was = has (omega (arith, s.clean)) in
    inserts_nothing old at from (statement_of sql (understood (schema_with was.0.others) sql))
    params db was.1 (commits_as sql params old _ was.0.is (Insert at from) (is was.0.others).0
    (is was.0.others).1 db may)) s

pub begun : (old new : State) (count : ℕ) → Executes begin_text [] old new (Ok count) →
    Shows old new old.now old.committed true
begun old new count h =
    (runs_as begin_text [] old new old.now.schema refl Begin (begin_is old.now.schema).0
    (begin_is old.now.schema).1 count h).1

pub committed : (old new : State) (count : ℕ) → Executes commit_text [] old new (Ok count) →
    Shows old new old.now old.now false
committed old new count h =
    (runs_as commit_text [] old new old.now.schema refl Commit (commit_is old.now.schema).0
    (commit_is old.now.schema).1 count h).1

pub rolled_back : (old new : State) (count : ℕ) → Executes rollback_text [] old new (Ok count) →
    IsRolledBack old new
rolled_back old new count h =
    (runs_as rollback_text [] old new old.now.schema refl Rollback (rollback_is old.now.schema).0
    (rollback_is old.now.schema).1 count h).1

-- a call that commits nothing, and then one that commits these
pub quiet_then : (a b c : State) (P : Trees → Type 0) → Survives a b (λ _. ⊥) → Survives b c P →
    Survives a c P
quiet_then a b c P one two = survives_then a b c (λ _. ⊥) P P (λ _ db none. absurd none)
    (λ _ db h. h) one two

pub survives_same : (a : State) (P : Trees → Type 0) → Survives a a P
survives_same a P = record {
  clean = omega arith;
  shield = λ h. h;
  counts = omega arith;
  limit =
      refl;
  closes = λ _ h. inl h;
  crash = λ _ db h. inl h;
}
