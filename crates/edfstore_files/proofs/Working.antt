-- What is done over an open connection, and what a crash leaves of it.
use Rattle.std.proofs.Common.{◌≡◌, ◌↔◌, inl, inr, ℕ, List, [], ◌∷◌, ◌++◌, Bool, IsTrue}
use Rattle.std.proofs.Common.{refl, sym, subst, ◌∙◌, arith}
use Rattle.sqlite_disk.specs.declared.Disk.{Ghosts}
use Rattle.sqlite_store.specs.declared.store.FileStore.{FileStore}
use Rattle.sqlite.specs.Tree.{Trees}
use Rattle.sqlite.specs.Schema.{Schema}
use Rattle.sqlite.specs.Effect.{Database, IsDatabase}
use Rattle.sqlite.specs.State.{State, HasCleanDisk, IsLive, Survives}
use Rattle.sqlite.specs.Held.{Held}
use Rattle.sqlite.specs.Files.{over_files, file_state}
use Rattle.sqlite.proofs.StateLemmas.{survives_then}
use Rattle.edf_tables.specs.Schema.{HasBoth, AreOurs}
use Rattle.edf_tables.specs.Others.{KeepsTrees}
use Rattle.edf_tables.proofs.File.{tables_both}
use Rattle.edf_fragment.specs.Parsed.{Parsed}
use Rattle.edf_holdings.specs.Holdings.{Holdings}
use Rattle.edf_holdings.specs.Reply.{after}
use Rattle.edf_holdings.proofs.Settled.{after-append}
use Rattle.edf_rows.specs.Rows.{RepresentCommitted}
use Rattle.edf_store.specs.Held.{StoreModel, at, Holds}
use Rattle.edf_store.specs.Open.{IsOpened, IsReturned}
use Rattle.edf_store.specs.declared.fault.StoreFault.{StoreFault}
use Rattle.edf_intake.specs.Batch.{Turn, submissions_in, MayHaveCommittedNext, MayRemainAfterCrash}
use Rattle.edf_cli.specs.Output.{OutputChange}
use Rattle.edf_cli.specs.declared.status.Status.{Status}
use Rattle.edfstore_files.specs.Files.{DatabaseHolds, both_tables}
use Rattle.edfstore_files.specs.ProgramRun.{ProgramRun, Refuses, was_opened}
use Rattle.edfstore_files.specs.Turns.{TakesTurns, IsSubmittedPrefix}
use Rattle.edfstore_files.proofs.Keeping.{opened_holds, both_same, made_keeps, left_keeps}

-- ---- what some first turns leave

pub no_front : (turns : List Turn) → IsSubmittedPrefix turns []
no_front turns = record { first = []; rest = turns; splits = refl; are = inl refl }

-- rows that stand for what some first of the turns leave
pub record FrontKept (cap : ℕ) (turns : List Turn) (h : Holdings) (rows : Trees) : Type 0 where
  pub submissions : List Parsed
  pub front : IsSubmittedPrefix turns submissions
  pub kept : RepresentCommitted cap rows (after cap h submissions)

unended_front : (cap : ℕ) (turns first rest : List Turn) (h : Holdings) (rows : Trees) →
    turns ≡ first ++ rest → MayHaveCommittedNext cap
    (after cap h (submissions_in first)) rest rows → FrontKept cap turns h rows
unended_front cap turns first [] h rows splits none = absurd none
unended_front cap turns first (t ∷ ts) h rows splits u = record {
  submissions = submissions_in first ++ u.1.0 ∷ [];
  front = record {
    first = first;
    rest = t ∷ ts;
    splits = splits;
    are = inr (t, ts, u.1.0, refl, u.0, u.1.1, refl);
  };
  kept = subst (RepresentCommitted cap rows)
      (sym (after-append cap h (submissions_in first) (u.1.0 ∷ []))) u.1.2;
}

front_kept : (cap : ℕ) (turns : List Turn) (h : Holdings) (rows : Trees) →
    MayRemainAfterCrash cap h turns rows → FrontKept cap turns h rows
front_kept cap turns h rows l = elim l.stand [
  | inl kept ↦ record {
    submissions = submissions_in l.first;
    front = record { first = l.first; rest = l.rest; splits = l.splits; are = inl refl };
    kept = kept;
  }
  | inr u ↦ unended_front cap turns l.first l.rest h rows l.splits u
]

-- whatever schema these rows are a database of, it keeps what some first of the turns leave
pub record Fronted (cap : ℕ) (turns : List Turn) (h : Holdings) (rows : Trees) : Type 0 where
  pub submissions : List Parsed
  pub front : IsSubmittedPrefix turns submissions
  pub holds : (schema : Schema) → IsDatabase (record { schema = schema; trees = rows }) →
      DatabaseHolds cap (record { schema = schema; trees = rows }) (after cap h submissions)

-- what a crash may leave
abbrev pub MayBeLeft : ℕ → List Turn → Database → Trees → Type 0
MayBeLeft cap turns db rows = (h : Holdings) → DatabaseHolds cap db h → Fronted cap turns h rows

made_front : (cap : ℕ) (turns : List Turn) (db : Database) (h : Holdings) (rows : Trees) →
    DatabaseHolds cap db h → ((schema : Schema) →
    IsDatabase (record { schema = schema; trees = rows }) →
    DatabaseHolds cap (record { schema = schema; trees = rows }) h) → Fronted cap turns h rows
made_front cap turns db h rows keeps same = record {
  submissions = [];
  front = no_front turns;
  holds = same;
}

both_survive : (a b : State) (P Q : Trees → Type 0) → Survives a b P → Survives a b Q →
    Survives a b (λ db. P db × Q db)
both_survive a b P Q one two = record {
  clean = one.clean;
  shield = one.shield;
  counts = one.counts;
  limit = one.limit;
  closes = one.closes;
  crash = λ clean db may. elim (one.crash clean db may) [
    | inl early ↦ inl early
    | inr p ↦ elim (two.crash clean db may) [ inl early ↦ inl early | inr q ↦ inr (p, q) ]
  ];
}

-- ---- over a connection

module _ {D : Type 0} {g : Ghosts D} (r : ProgramRun g) (first : Held (FileStore D g)) where
  -- the store was opened, and this was done over it
  pub record Works (err : OutputChange) (status : Status) : Type 0 where
    pub old : StoreModel (FileStore D g)
    pub new : StoreModel (FileStore D g)
    pub turns : List Turn
    pub cap_is : old.cap ≡ r.cap
    pub opened : IsOpened over_files first old
    pub noticed : r.Noticed (was_opened r.output)
    pub does : r.Does old new turns err status
    pub takes : TakesTurns over_files old new turns
    pub live : IsLive (at over_files old)

  -- or it was refused, and the connection came back
  pub record Returns (last : Held (FileStore D g)) (status : Status) : Type 0 where
    pub fault : StoreFault
    pub back : IsReturned over_files first r.cap fault last
    pub ours : Bool
    pub ours_is : IsTrue ours ↔ AreOurs (file_state first).now.schema
    pub refuses : Refuses r fault ours status

  module _ {err : OutputChange} {status : Status} (it : Works err status) where
    pub was_clean : HasCleanDisk (at over_files it.new) → HasCleanDisk (at over_files it.old)
    was_clean clean = let was : HasCleanDisk (at over_files it.old) =
        omega (arith, it.takes.crash.clean, clean) in was

    pub holds_first : (h : Holdings) → DatabaseHolds r.cap (file_state first).now h →
        Holds over_files it.old h
    holds_first h keeps = opened_holds over_files first it.old it.opened h
        (subst (λ (n : ℕ). DatabaseHolds n (file_state first).now h) (sym it.cap_is) keeps)

    pub keeps_last : HasCleanDisk (at over_files it.new) → IsTrue (at over_files it.new).is_open →
        (h : Holdings) → Holds over_files it.new h →
        DatabaseHolds r.cap (at over_files it.new).committed h
    keeps_last clean is_open h held = both_tables
        (subst HasBoth (sym (it.takes.others.others clean is_open).schema)
        (tables_both _ _ (it.opened.tables (was_clean clean))))
        (subst (λ (n : ℕ). RepresentCommitted n (at over_files it.new).committed.trees h)
        (it.takes.cap ∙ it.cap_is) (held clean is_open))

    pub others_last : HasCleanDisk (at over_files it.new) → IsTrue (at over_files it.new).is_open →
        HasBoth (file_state first).now.schema → KeepsTrees (file_state first).now.schema
        (file_state first).now.trees (at over_files it.new).committed.trees
    others_last clean is_open both =
        subst (λ (d : Database). KeepsTrees d.schema d.trees (at over_files it.new).committed.trees)
        (both_same (file_state first).now (at over_files it.old).committed
        (it.opened.tables (was_clean clean)) both) (it.takes.others.others clean is_open).trees

    old_crash : Survives (file_state first) (at over_files it.new)
        (MayBeLeft it.old.cap it.turns (file_state first).now)
    old_crash =
        let second = both_survive (at over_files it.old) (at over_files it.new) _ _
        it.takes.others.crash it.takes.crash in
        survives_then (file_state first) (at over_files it.old) (at over_files it.new) _ _ _
        (λ clean rows made h keeps. made_front it.old.cap it.turns (file_state first).now h rows
        keeps (made_keeps it.old.cap (file_state first).now rows h keeps made))
        (λ clean rows left h keeps.
        let kept = front_kept it.old.cap it.turns h rows
        (left.1 h (opened_holds over_files first it.old it.opened h keeps)) in
        let was = was_clean clean in record {
          submissions = kept.submissions;
          front = kept.front;
          holds = left_keeps it.old.cap (at over_files it.old).committed rows
              (after it.old.cap h kept.submissions) (tables_both _ _ (it.opened.tables was))
              (it.live left.0.0).1 left.0.1 kept.kept;
        }) it.opened.crash second

    pub crash : Survives (file_state first) (at over_files it.new)
        (MayBeLeft r.cap it.turns (file_state first).now)
    crash = subst (λ (n : ℕ). Survives (file_state first) (at over_files it.new)
        (MayBeLeft n it.turns (file_state first).now)) it.cap_is old_crash
