-- What an empty text tells, and what is read outside a transaction.
use Rattle.std.proofs.Common.{◌≡◌, ℕ, ℤ, List, [], false, IsTrue, Some, None, Ok, refl}
use Rattle.std.proofs.Common.{sym, subst, ◌∙◌, arith, Option}
use Rattle.sqlite.specs.Tree.{Trees}
use Rattle.sqlite.specs.Effect.{Database}
use Rattle.sqlite.specs.Schema.{Schema}
use Rattle.sqlite_schema.specs.declared.command.Command.TheVariants.{Nothing}
use Rattle.sqlite_tied.specs.Compute.{everything}
use Rattle.sqlite.specs.Listing.{understood}
use Rattle.sqlite.specs.State.{State, HasCleanDisk, Survives, KeepsCommit, IsUnchanged}
use Rattle.sqlite.specs.State.{CommitsBy, Executes}
use Rattle.sqlite.proofs.StateLemmas.{survives_weaker}
use Rattle.sqlite.proofs.Callers.{IsPlain, command_of, statement_of, runs_as}
use Rattle.edf_header.specs.Key.{Key, IsKey, key_bytes}
use Rattle.edf_holdings.specs.Holdings.{Holdings}
use Rattle.edf_tables.specs.Recordings.{AreNamedApart, IsIdIn, named}
use Rattle.edf_tables.proofs.Commits.{commits_as, quiet_then}
use Rattle.edf_tables.proofs.Keeping.{keeps_then}
use Rattle.edf_rows.specs.Rows.{RepresentCommitted}
use Rattle.edf_store.specs.Held.{StoreModel, AreHeld, IsSoundStore, KeepsHoldings}
use Rattle.edf_store.specs.Inside.Settled.{IsSettled, IsSelectedIn}
use Rattle.sqlite_trees.specs.declared.store.Store.{Ghosts}
use Rattle.sqlite.specs.Held.{Held, state}
use Rattle.edf_tables.specs.Schema.{HasBoth}
use Rattle.edf_store.proofs.Held.{still_held, still_others, others_committed_then}
use Rattle.edf_store.proofs.Found.{found, absent}
use Rattle.edf_store.proofs.Keys.{identities_rise}
use Rattle.edf_tables.proofs.Creating.{nothing_commits}

nothing_is : (schema : Schema) → (command_of (understood schema []) ≡ Nothing)
    × IsPlain (understood schema [])
unfolding understood everything
nothing_is schema = (refl, (refl, refl))

pub nothing_survives : (old new : State) → Survives old new (CommitsBy [] [] old) →
    Survives old new (λ _. ⊥)
nothing_survives old new s =
    survives_weaker old new _ _ (λ clean db may.
    nothing_commits old (statement_of [] (understood old.now.schema [])) [] db
    (commits_as [] [] old old.now.schema refl Nothing (nothing_is old.now.schema).0
    (nothing_is old.now.schema).1 db may)) s

pub ran_nothing : (old new : State) (count : ℕ) → Executes [] [] old new (Ok count) →
    IsUnchanged old new
ran_nothing old new count h =
    (runs_as [] [] old new old.now.schema refl Nothing (nothing_is old.now.schema).0
    (nothing_is old.now.schema).1 count h).0

-- an open connection without a transaction shows what is held
pub settled_now : (cap : ℕ) (old new : State) (P : Trees → Type 0) → Survives old new P →
    HasCleanDisk new → IsUnchanged old new → old.in_transaction ≡ false →
    (IsTrue old.is_open → old.now ≡ old.committed) → IsSoundStore cap old → IsSettled cap new
settled_now cap old new P s clean same none settles sound =
    let was_clean : HasCleanDisk old = omega (arith, s.clean) in
    let was_open = same.0.was_open in
    let held = sound.holdings was_clean was_open in
    let now : new.now ≡ old.committed = same.0.now_is ∙ settles was_open in
    record {
      is_open = same.0.is_open;
      idle = same.0.mode ∙ none;
      settled = now ∙ sym same.0.committed_is;
      schema = subst (λ (d : Database). HasBoth d.schema) (sym now)
          (sound.schema was_clean was_open);
      holdings = (
        held.0,
        subst (λ (d : Database). RepresentCommitted cap d.trees held.0) (sym now) held.1,
      );
    }

-- what is held is what the tables show
pub held_now : (cap : ℕ) (s : State) → HasCleanDisk s → IsSettled cap s → (h : Holdings) →
    AreHeld cap s h → RepresentCommitted cap s.now.trees h
held_now cap s clean it h held = subst (λ (d : Database). RepresentCommitted cap d.trees h)
    (sym it.settled) (held clean it.is_open)

pub named_apart : (cap : ℕ) (s : State) → IsSettled cap s → AreNamedApart s
named_apart cap s it = record {
  schema = it.schema;
  apart =
      identities_rise s.now.trees it.holdings.0 it.holdings.1.stand;
}

pub still_settled : (cap : ℕ) (old new : State) → IsUnchanged old new → IsSettled cap old →
    IsSettled cap new
still_settled cap old new same it = record {
  is_open = same.0.is_open;
  idle = same.0.mode ∙ it.idle;
  settled = same.0.now_is ∙ it.settled ∙ sym same.0.committed_is;
  schema = subst (λ (d : Database). HasBoth d.schema) (sym same.0.now_is) it.schema;
  holdings = (
    it.holdings.0,
    subst (λ (d : Database). RepresentCommitted cap d.trees it.holdings.0)
        (sym same.0.now_is) it.holdings.1,
  );
}

-- the answer of a look for a key's recording
pub found_now : (cap : ℕ) (old new : State) (k : Key) (bytes : List ℕ) (id : Option ℤ)
    (h : Holdings) → bytes ≡ key_bytes k → IsKey k → IsUnchanged old new →
    IsIdIn (named bytes (old.now.trees 0)) id → RepresentCommitted cap new.now.trees h →
    IsSelectedIn new k h id
found_now cap old new k bytes id h is key same found_there kept =
    go id (subst (λ (d : Database). IsIdIn (named (key_bytes k) (d.trees 0)) id) (sym same.0.now_is)
    (subst (λ (l : List ℕ). IsIdIn (named l (old.now.trees 0)) id) is found_there))
  where
    go : (id : Option ℤ) → IsIdIn (named (key_bytes k) (new.now.trees 0)) id →
        IsSelectedIn new k h id
    go None none = kept.stand.others k (absent new.now.trees k none)
    go (Some id) one = found new.now.trees h id k kept.stand key one

-- three reads, one after the other
module _ (a b c d : State) (one : Survives a b (λ _. ⊥)) (two : Survives b c (λ _. ⊥))
    (three : Survives c d (λ _. ⊥))
    (first : HasCleanDisk b → KeepsCommit a b) (second : HasCleanDisk c →
    KeepsCommit b c) (third : HasCleanDisk d → KeepsCommit c d) where
  pub three_survive : Survives a d (λ _. ⊥)
  three_survive = quiet_then a b d _ one (quiet_then b c d _ two three)

  pub three_keep : HasCleanDisk d → KeepsCommit a d
  three_keep clean =
      let clean_c : HasCleanDisk c = omega (arith, three.clean) in
      let clean_b : HasCleanDisk b = omega (arith, two.clean, three.clean) in
      keeps_then a b d (first clean_b) (keeps_then b c d (second clean_c) (third clean))

pub stays_so : {S : Type 0} (g : Ghosts S) (cap : ℕ) (old new : Held S) →
    Survives (state g old) (state g new) (λ _. ⊥) →
    (HasCleanDisk (state g new) → KeepsCommit (state g old) (state g new)) →
    KeepsHoldings g (record { connection = old; cap = cap })
    (record { connection = new; cap = cap })
stays_so g cap old new s keeps = record {
  cap = refl;
  holdings =
      λ h held. still_held cap (state g old) (state g new) _ s keeps h held;
  others =
      still_others (state g old) (state g new) s keeps;
  crash = s;
}

-- one call after the other
pub stays_then : {S : Type 0} (g : Ghosts S) (a b c : StoreModel S) → KeepsHoldings g a b →
    KeepsHoldings g b c → KeepsHoldings g a c
stays_then g a b c p q = record {
  cap = q.cap ∙ p.cap;
  holdings =
      λ h held. q.holdings h (p.holdings h held);
  others =
      others_committed_then (state g a.connection) (state g b.connection) (state g c.connection)
      p.others q.others;
  crash = quiet_then (state g a.connection) (state g b.connection)
      (state g c.connection) _ p.crash q.crash;
}
