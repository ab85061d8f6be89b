use Rattle.std.proofs.Common.{◌≡◌, ℕ, ◌-◌, ◌^◌, Some, None, List, [], length, subst, sym, ap, ◌∙◌}
use Rattle.std.proofs.Common.{arith, inl}
use Rattle.std.proofs.KnownBytes.{Keeps-refl}
use Rattle.edf_header.specs.Key.{IsKey}
use Rattle.edf_fragment.specs.Fragment.{DataRecord}
use Rattle.edf_runs.specs.CutFiles.{IsCutPlan}
use Rattle.edf_runs.specs.Outline.{IsOutline}
use Rattle.edf_runs.specs.declared.fault.WriteFault.{WriteFault}
use Rattle.edf_runs.specs.declared.fault.WriteFault.TheVariants.{Undated, Changed, Memory}
use Rattle.edf_runs.proofs.CanonicalFiles.{canonical-answer}
use Rattle.edf_runs.proofs.CutLaws.{has-all}
use Rattle.edf_runs.proofs.cutting.write_canonical.Goals as goal

-- the greatest instant
abbrev MAX : ℕ
MAX = 2 ^ 64 - 1

pub returns-in-Ok-Some-clause-answer : goal.returns-in-Ok-Some-clause-answer
returns-in-Ok-Some-clause-answer g c = λ k ones is.
    let cut = c.in-Ok-Some.cut in
    let plan : IsCutPlan c.args.outline.now 0 MAX (Some cut) =
    subst (IsCutPlan c.args.outline.now 0 MAX) c.in-Ok-Some.field-0-is c.in-Ok-Some.ensures in
    let own : IsOutline k ones cut.outline.now = subst (IsOutline k ones) (sym plan.0) is in
    let all = plan.1 k ones is in
    let key : IsKey k = subst IsKey is.identity c.identity_is_key.ensures in
    canonical-answer (g.R.Input.remaining c.args.input.now) (g.W.Output.contents c.args.out.now)
    (g.W.Output.contents c.write_cut.new.out) cut k ones own key all.0 all.1 all.2
    (g.R.Input.remaining c.write_cut.new.input) c.write_cut.result c.write_cut.ensures.written
    c.write_cut.ensures.refused

pub returns-in-Ok-None-clause-answer : goal.returns-in-Ok-None-clause-answer
returns-in-Ok-None-clause-answer g c = λ k ones is.
    let key : IsKey k = subst IsKey is.identity c.identity_is_key.ensures in
    let plan : IsCutPlan c.args.outline.now 0 MAX None =
    subst (IsCutPlan c.args.outline.now 0 MAX) c.in-Ok-None.field-0-is c.in-Ok-None.ensures in
    let none : ones ≡ [] = sym (has-all k ones key is.sound) ∙ plan.1 k ones is in
    let len = ap (λ (l : List DataRecord). length l) none in
    absurd (omega (arith, is.some, len))

pub returns-in-Err-clause-answer : goal.returns-in-Err-clause-answer
returns-in-Err-clause-answer g c = λ k ones is. record {
  dated = λ same. let e : ◌≡◌ {A = WriteFault} Memory Undated = same in cc;
  unchanged = λ bytes others records known spells joined. (
    λ same. let e : ◌≡◌ {A = WriteFault} Memory Changed = same in cc,
    inl (Keeps-refl _),
  );
}
