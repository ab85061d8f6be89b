use Rattle.std.proofs.Common.{◌≡◌, ℕ, List, length, take, drop, cond, arith, sym, ap, ◌∙◌, subst, ℤ}
use Rattle.std.proofs.Common.{Option, Some, None}
use Rattle.std.proofs.lemmas.List.{take_all}
use Rattle.edf_field.specs.Text.{after_startdate_of}
use Rattle.edf_header.specs.Fixed.{FixedPart, is_dated}
use Rattle.edf_header.proofs.fixed.Fixed.after.Goals as goal

after-day : (r : List ℕ) (s : Option ℤ) (day : ℤ) → s ≡ Some day →
    length (after_startdate_of s r) ≡ cond (is_dated s) 59 69 →
    take 59 (drop 21 r) ≡ after_startdate_of s r
after-day r s day e len =
    let l : length (drop 21 r) ≡ 59 =
    subst (λ (o : Option ℤ). length (after_startdate_of o r) ≡ cond (is_dated o) 59 69) e len in
    take_all 59 (drop 21 r) (omega arith) ∙ ap (λ (o : Option ℤ). after_startdate_of o r) (sym e)

after-x : (r : List ℕ) (s : Option ℤ) → s ≡ None →
    length (after_startdate_of s r) ≡ cond (is_dated s) 59 69 →
    take 69 (drop 11 r) ≡ after_startdate_of s r
after-x r s e len =
    let l : length (drop 11 r) ≡ 69 =
    subst (λ (o : Option ℤ). length (after_startdate_of o r) ≡ cond (is_dated o) 59 69) e len in
    take_all 69 (drop 11 r) (omega arith) ∙ ap (λ (o : Option ℤ). after_startdate_of o r) (sym e)

pub returns-in-Some : goal.returns-in-Some
returns-in-Some c =
    let i = c.self.inside in
    after-day i.recording i.startdate c.in-Some.field-0 c.in-Some.is c.self.invariant.0.after_len
    ∙ ap (λ (f : FixedPart). f.after) c.self.view_is

pub returns-in-None : goal.returns-in-None
returns-in-None c =
    let i = c.self.inside in
    after-x i.recording i.startdate c.in-None.is c.self.invariant.0.after_len
    ∙ ap (λ (f : FixedPart). f.after) c.self.view_is
