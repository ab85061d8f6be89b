-- COMMIT leaves no transaction, also where it is refused.
use Rattle.std.proofs.Common.{◌≡◌, ◌&&◌, ◌||◌, inl, inr, ℕ, [], true, false, Option}
use Rattle.std.proofs.Common.{is_some, IsSome, length, Result, Ok, Err, refl, sym, ap, subst}
use Rattle.std.proofs.Common.{subst₂, ◌∙◌, ◌≤◌, arith, true≢false}
use Rattle.std.proofs.lemmas.Bool.{cases_Bool}
use Rattle.sqlite.specs.Schema.{Schema}
use Rattle.sqlite_schema.specs.declared.command.Command.TheVariants.{Commit}
use Rattle.sqlite_schema.specs.declared.command.Returning.{Returning}
use Rattle.sqlite_resolve.specs.declared.compiled.Compiled.{Compiled}
use Rattle.sqlite_resolve.specs.declared.error.CompileError.{CompileError}
use Rattle.sqlite_tied.specs.Compute.{everything}
use Rattle.sqlite.specs.Calls.{IsWrite}
use Rattle.sqlite.specs.Effect.{is_query}
use Rattle.sqlite.specs.Listing.{understood}
use Rattle.sqlite.specs.State.{State, Executes, ExecutesIn, IsNotRun, IsNoStatement, IsMisplaced}
use Rattle.sqlite.specs.State.{shows_rows, is_pragma}
use Rattle.sqlite.specs.declared.error.Error.{Error}
use Rattle.sqlite.proofs.Callers.{IsPlain, command_of}
use Rattle.edf_tables.proofs.Commits.{commit_text, commit_is, committed}

abbrev tail_of : Result Compiled CompileError → ℕ
tail_of (Ok c) = c.tail
tail_of (Err e) = 0

abbrev names_of : Result Compiled CompileError → ℕ
names_of (Ok c) = length c.names
names_of (Err e) = 0

-- the text is one statement without parameters
record IsAlone (schema : Schema) : Type 0 where
  pub whole : length commit_text ≤ tail_of (understood schema commit_text)
  pub inputs : names_of (understood schema commit_text) ≡ 0
  pub plain : IsPlain (understood schema commit_text)

commit_alone : (schema : Schema) → IsAlone schema
unfolding understood everything
commit_alone schema = record { whole = omega arith; inputs = refl; plain = (refl, refl) }

is_statement : (old : State) → IsAlone old.now.schema → (e : Error) →
    ¬ IsNoStatement old commit_text [] e
is_statement old alone e (inl bad) = subst IsPlain bad.1 alone.plain
is_statement old alone e (inr (c, known, inl short)) =
    short.0 (subst (λ r. length commit_text ≤ tail_of r) known alone.whole)
is_statement old alone e (inr (c, known, inr (inl other))) =
    other.0 (sym (subst (λ r. names_of r ≡ 0) known alone.inputs))
is_statement old alone e (inr (c, known, inr (inr timed))) =
    timed.0 (subst IsPlain known alone.plain).1

-- COMMIT is out of place only where no transaction is open
commit_turn : (old : State) (e : Error) → IsMisplaced old Commit e → old.in_transaction ≡ false
commit_turn old e (inl (is, inl begins)) = absurd (let k = begins.0 in cc)
commit_turn old e (inl (is, inr ends)) = ends.1
commit_turn old e (inr named) = absurd (elim named.2 [ inl k ↦ cc | inr k ↦ cc ])

pub commit_ends : (old new : State) (r : Result ℕ Error) → Executes commit_text [] old new r →
    new.in_transaction ≡ false
unfolding ExecutesIn IsNotRun
commit_ends old new (Ok count) h = (committed old new count h).mode
commit_ends old new (Err e) (inl (inl h)) =
    absurd (is_statement old (commit_alone old.now.schema) e h.0)
commit_ends old new (Err e) (inl (inr h)) = h.3.autocommit
commit_ends old new (Err e) (inr h) =
    let bare = subst IsPlain h.1.is (commit_alone old.now.schema).plain in
    let k : h.0.command ≡ Commit = ap command_of (sym h.1.is) ∙ (commit_is old.now.schema).0 in
    elim (cases_Bool (shows_rows false h.0)) [
      | inl shows ↦
          absurd (true≢false (sym (subst₂ (λ k (r : Option Returning).
          (is_query k || (true && (is_pragma k || is_some r))) ≡ true) k bare.0 shows)))
      | inr runs ↦ elim (rw runs at h.2) [
        | inl same ↦ elim same.0 [
          | inl misplaced ↦
              same.1.0.mode ∙ commit_turn old e (subst (λ k. IsMisplaced old k e) k misplaced)
          | inr may ↦ absurd (elim may.0 [
            | inl writes ↦ subst IsWrite k writes
            | inr some ↦ true≢false (sym (subst IsSome bare.0 some))
          ])
        ]
        | inr fails ↦
            fails.3.autocommit
      ]
    ]
