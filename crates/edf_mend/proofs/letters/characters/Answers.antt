use Rattle.std.proofs.Common.{◌≡◌, ◌∙◌, List, ℕ, Bool, true, false, sym, ap, refl}
use Rattle.std.specs.Prelude.{if◌then◌else◌}
use Rattle.std.specs.Str.{chars, is_utf8, IsUtf8}
use Rattle.std.proofs.lemmas.Result.{IfOk-weaker}
use Rattle.std.proofs.lemmas.Str.{is_utf8-from_IsUtf8, IsUtf8-from_is_utf8}
use Rattle.edf_mend.proofs.letters.characters.Goals as goal

decided : (text codes : List ℕ) (b : Bool) → is_utf8 text ≡ b →
    codes ≡ (if b then chars text else text) → codes ≡ (if is_utf8 text then chars text else text)
decided text codes b is e = e ∙ sym (ap (λ (x : Bool). if x then chars text else text) is)

is-none : (text : List ℕ) → ¬ IsUtf8 text → is_utf8 text ≡ false
is-none text never = go (is_utf8 text) refl
  where
    go : (b : Bool) → is_utf8 text ≡ b → is_utf8 text ≡ false
    go true e = absurd (never (IsUtf8-from_is_utf8 text e))
    go false e = e

pub returns-in-Ok : goal.returns-in-Ok
returns-in-Ok c = IfOk-weaker c.codes_of.result (λ r. r.items ≡ chars c.in-Ok.letters.now)
    _ (λ r e. decided c.args.text.now r.items true
    (is_utf8-from_IsUtf8 c.args.text.now c.in-Ok.ensures.cases.1)
    (e ∙ ap (λ (x : List ℕ). chars x) c.in-Ok.ensures.cases.0))
    c.codes_of.ensures

pub returns-in-Err : goal.returns-in-Err
returns-in-Err c = IfOk-weaker c.codes_of_bytes.result (λ r. r.items ≡ c.args.text.now)
    _ (λ r e. decided c.args.text.now r.items false
    (is-none c.args.text.now c.in-Err.ensures.cases.0) e)
    c.codes_of_bytes.ensures
