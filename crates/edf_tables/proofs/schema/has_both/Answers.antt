use Rattle.std.proofs.Common.{All, sym, subst, ◌∙◌, true≢false}
use Rattle.edf_tables.specs.Schema.{IsOtherView}
use Rattle.edf_tables.proofs.Both.{BeginTables, BeginIndexes, both_of, views_of}
use Rattle.edf_tables.proofs.schema.has_both.Goals as goal
use Rattle.edf_tables.proofs.schema.has_both.Goals.{then-begin_with_both, else-begin_with_both}

pub returns-then-begin_with_ours : goal.returns-then-begin_with_ours
returns-then-begin_with_ours c =
    let same = c.as_slice-then-begin_with_ours.ensures in (
      λ h. elim c.if-begin_with_both.branch [
        | then-begin_with_both w ↦ both_of c.args.schema.now
            (subst BeginTables c.as_slice.ensures
            (c.begin_with_both.ensures.0 w.if-begin_with_both.true))
            (subst BeginIndexes w.as_slice-then-begin_with_both.ensures
            (w.begin_with_ours.ensures.0 (sym w.value-is ∙ c.if-begin_with_ours.true)))
            (subst (All IsOtherView) same (c.are_other_views.ensures.0 h))
        | else-begin_with_both w ↦
            absurd (true≢false (sym c.if-begin_with_ours.true ∙ w.value-is
            ∙ w.if-begin_with_both.false))
      ],
      λ h. c.are_other_views.ensures.1
          (subst (All IsOtherView) (sym same) (views_of c.args.schema.now h)),
    )
