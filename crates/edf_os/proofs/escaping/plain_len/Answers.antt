use Rattle.std.proofs.Common.{rules, ◌≡◌, ◌≤◌, length, take, sym, ◌∙◌, ap, subst, length-take-le}
use Rattle.std.proofs.Common.{List, ℕ, Bool}
use Rattle.std.specs.Str.{IsUtf8, NoCharPasses}
use Rattle.std.specs.Str.Lossy.{utf8_valid_len}
use Rattle.std.proofs.lemmas.List.{take-take}
use Rattle.std.proofs.lemmas.Fn.{always_returns_same}
use Rattle.std.proofs.lemmas.Str.{utf8_valid_len_le, IsUtf8-take}
use Rattle.edf_os.specs.Plain.{is_barred, IsPlain}
use Rattle.edf_os.proofs.escaping.plain_len.Goals as goal

-- all of the text has passed
whole_is_plain : (keeps : Bool) (bytes text : List ℕ) → text ≡ take (utf8_valid_len bytes) bytes
    → IsUtf8 text → NoCharPasses (is_barred keeps) text → IsPlain keeps (take (length text) bytes)
whole_is_plain keeps bytes text e utf8 none =
    let le : utf8_valid_len bytes ≤ length bytes = utf8_valid_len_le bytes in
    let same : take (length text) bytes ≡ text =
    ap (λ n. take n bytes) (ap length e ∙ length-take-le (utf8_valid_len bytes) bytes le) ∙ sym e in
    let P : List ℕ → Type 0 = λ xs. IsPlain keeps xs in
    subst P (sym same) (utf8, none)

-- the first part of the text has passed
front_is_plain : (keeps : Bool) (bytes text : List ℕ) (at : ℕ)
    → text ≡ take (utf8_valid_len bytes) bytes → at ≤ length text
    → IsUtf8 (take at text) → NoCharPasses (is_barred keeps) (take at text)
    → IsPlain keeps (take at bytes)
front_is_plain keeps bytes text at e within utf8 none =
    let le : utf8_valid_len bytes ≤ length bytes = utf8_valid_len_le bytes in
    let long : length text ≡ utf8_valid_len bytes =
    ap length e ∙ length-take-le (utf8_valid_len bytes) bytes le in
    let below : at ≤ utf8_valid_len bytes = subst (λ n. at ≤ n) long within in
    let same : take at text ≡ take at bytes =
    ap (take at) e ∙ take-take at (utf8_valid_len bytes) bytes below in
    let P : List ℕ → Type 0 = λ xs. IsPlain keeps xs in
    subst P same (utf8, none)

pub returns-in-None-clause-plain : goal.returns-in-None-clause-plain
returns-in-None-clause-plain c =
    whole_is_plain c.args.keeps_lines c.args.bytes.now _ c.valid_prefix-text.ensures
    c.valid_prefix-text.utf8 (c.in-None.ensures.cases (is_barred c.args.keeps_lines)
    (always_returns_same _ _ _ (λ a r f' called. (search rules, search rules))))

pub returns-in-Some-clause-plain : goal.returns-in-Some-clause-plain
returns-in-Some-clause-plain c =
    let found = c.in-Some.ensures.cases in
    let text = c.valid_prefix-text.result.now in
    front_is_plain c.args.keeps_lines c.args.bytes.now text c.in-Some.at
    c.valid_prefix-text.ensures found.3.0
    (IsUtf8-take text c.in-Some.at c.valid_prefix-text.utf8 found.3)
    (found.1 (is_barred c.args.keeps_lines)
    (always_returns_same _ _ _ (λ a r f' called. (search rules, search rules)))).0
