-- Both tables, made one after the other.
use Rattle.std.proofs.Common.{◌≡◌, [], ap, ◌∙◌, arith}
use Rattle.sqlite.specs.Tree.{Trees}
use Rattle.sqlite.specs.Effect.{Database}
use Rattle.sqlite.specs.State.{State, HasCleanDisk, Survives}
use Rattle.sqlite.proofs.StateLemmas.{survives_then, survives_weaker}
use Rattle.edf_tables.specs.Schema.{no_schema, one_schema, both_schema}
use Rattle.edf_tables.specs.Made.{HasFirst, made_first, had_first, HasTables, from_none, from_one}
use Rattle.edf_tables.specs.Made.{from_both, AreOf, IsMadeOf, crash_after_first, crash_after_both}
use Rattle.edf_tables.specs.Made.{crash_after_second}
use Rattle.edf_tables.proofs.Schemas.{none_not_one, one_not_both}

pub after_first : (a b : Database) → HasFirst a b → b.schema ≡ one_schema
after_first a b (made_first none one empty) = one
after_first a b (had_first one same) = ap (λ (d : Database). d.schema) same ∙ one

pub both_made : (a b c : Database) → HasFirst a b → HasTables b c → HasTables a c
both_made a b c (made_first none one empty) (from_none none2 both first second) =
    absurd (none_not_one b.schema none2 one)
both_made a b c (made_first none one empty) (from_one one2 both first second) =
    from_none none both (first ∙ empty) second
both_made a b c (made_first none one empty) (from_both both same) =
    absurd (one_not_both b.schema one both)
both_made a b c (had_first one same) (from_none none2 both first second) =
    absurd (none_not_one b.schema none2 (ap (λ (d : Database). d.schema) same ∙ one))
both_made a b c (had_first one same) (from_one one2 both first second) =
    from_one one both (first ∙ ap (λ (d : Database). d.trees 0) same) second
both_made a b c (had_first one same) (from_both both same2) =
    absurd (one_not_both b.schema (ap (λ (d : Database). d.schema) same ∙ one) both)

second_of : (a b : Database) (db : Trees) → HasFirst a b → AreOf both_schema db → db 0 ≡ b.trees 0 →
    db 2 ≡ [] → IsMadeOf a db
second_of a b db (made_first none one empty) of first second = crash_after_both none of
    (first ∙ empty) second
second_of a b db (had_first one same) of first second = crash_after_second one of
    (first ∙ ap (λ (d : Database). d.trees 0) same) second

pub first_survives : (a b : State) →
    Survives a b (λ db. (a.now.schema ≡ no_schema) × AreOf one_schema db × (db 0 ≡ [])) →
    Survives a b (IsMadeOf a.now)
first_survives a b s = survives_weaker a b _ _ (λ clean db h. crash_after_first h.0 h.1 h.2) s

pub second_survives : (a b c : State) → (HasCleanDisk b → HasFirst a.now b.now) →
    Survives a b (λ db. (a.now.schema ≡ no_schema) × AreOf one_schema db × (db 0 ≡ [])) →
    Survives b c (λ db. (b.now.schema ≡ one_schema) × AreOf both_schema db × (db 0 ≡ b.now.trees 0)
    × (db 2 ≡ []))
    → Survives a c (IsMadeOf a.now)
second_survives a b c made one two =
    survives_then a b c _ _ (IsMadeOf a.now) (λ clean db h. crash_after_first h.0 h.1 h.2)
    (λ clean db h. second_of a.now b.now db (made (omega (arith, two.clean))) h.1 h.2 h.3) one two
