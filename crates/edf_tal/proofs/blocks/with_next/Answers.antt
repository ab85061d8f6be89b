use Rattle.std.proofs.Common.{ℕ, ◌≡◌, ◌+◌, ◌<◌, ◌^◌, List, ◌++◌, length, arith, sym, ap, subst}
use Rattle.std.specs.Prelude.{sum_by}
use Rattle.std.proofs.lemmas.List.Sums.{sum_by-append}
use Rattle.edf_tal.specs.Inside.Blocks.{HasForm}
use Rattle.edf_tal.specs.declared.blocks.Sums.{Sums}
use Rattle.edf_tal.specs.declared.blocks.Form.{Form}
use Rattle.edf_tal.specs.declared.blocks.Form.TheVariants.{Good}
use Rattle.edf_tal.specs.Condition.{HaveNonUtf8TextAt}
use Rattle.edf_tal.proofs.Joined.{surveyed-append, surveyed-room, bad-front, bad-back, form-lists}
use Rattle.edf_tal.proofs.Joined.{lists-both}
use Rattle.edf_tal.proofs.blocks.with_next.Goals as goal

sums-fit : (before after : List (List ℕ)) (s : ℕ) (f g : Form) (a b : Sums) → HasForm before s f →
    HasForm after s g → f ≡ Good a → g ≡ Good b → sum_by length (before ++ after) < 2 ^ 64 →
    (a.count + a.text_bytes) + (b.count + b.text_bytes) < 2 ^ 64
sums-fit before after s f g a b p q is-f is-g low =
    omega (
      arith,
      surveyed-room before s a (subst (HasForm before s) is-f p),
      surveyed-room after s b (subst (HasForm after s) is-g q),
      sum_by-append (λ (x : List ℕ). length x) before after,
    )

pub overflow_add-result : goal.overflow_add-result
overflow_add-result c =
    let (s, before, after, p, start, q, low) = c.requires in
    let fit = sums-fit before after s c.args.form c.args.next c.in-Good-Good.sums
    c.in-Good-Good.more p q c.in-Good-Good.is-0 c.in-Good-Good.is-1 low in
    omega arith

pub overflow_add-result-in-Good-Good : goal.overflow_add-result-in-Good-Good
overflow_add-result-in-Good-Good c =
    let (s, before, after, p, start, q, low) = c.requires in
    let fit = sums-fit before after s c.args.form c.args.next c.in-Good-Good.sums
    c.in-Good-Good.more p q c.in-Good-Good.is-0 c.in-Good-Good.is-1 low in
    omega arith

pub returns-in-Good-Good : goal.returns-in-Good-Good
returns-in-Good-Good c = λ s before after p start q.
    surveyed-append before after s c.in-Good-Good.sums c.in-Good-Good.more
    (subst (HasForm before s) c.in-Good-Good.is-0 p) (subst (HasForm after s) c.in-Good-Good.is-1 q)

pub returns-in-BadText-default : goal.returns-in-BadText-default
returns-in-BadText-default c = λ s before after p start q.
    let h = subst (HasForm before s) c.in-BadText-default.is-0 p in (
      lists-both before after h.0 (form-lists after s c.args.next q),
      bad-front before after c.in-BadText-default.offset h.1,
    )

pub returns-in-Good-BadText : goal.returns-in-Good-BadText
returns-in-Good-BadText c = λ s before after p start q.
    let v = subst (HasForm before s) c.in-Good-BadText.is-0 p in
    let h = subst (HasForm after s) c.in-Good-BadText.is-1 q in
    let place : sum_by length before + c.in-Good-BadText.offset ≡ c.args.start +
    c.in-Good-BadText.offset = ap (λ (n : ℕ). n + c.in-Good-BadText.offset) (sym start) in (
      lists-both before after (v.tals, v.lists) h.0,
      subst (HaveNonUtf8TextAt (before ++ after)) place
          (bad-back before after s c.in-Good-BadText.field-0-0 c.in-Good-BadText.offset v h.1),
    )
