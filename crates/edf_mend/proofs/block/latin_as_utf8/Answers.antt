use Rattle.std.proofs.Common.{rules, ◌≡◌, ◌++◌, ◌∷◌, [], ℕ, List, sym, ap, ◌∙◌, take}
use Rattle.std.proofs.Common.{slice_index_or, append-nil, string_bytes, encode_utf8_all}
use Rattle.std.proofs.Common.{encode_utf8, arith}
use Rattle.std.proofs.lemmas.List.{take_more, take_all}
use Rattle.std.proofs.lemmas.Str.{encodes-append}
use Rattle.edf_mend.proofs.block.latin_as_utf8.Goals as goal

pub loop-b-init : goal.loop-b-init
loop-b-init c = search rules

pub loop-b-preserved : goal.loop-b-preserved
loop-b-preserved c =
    let text = c.args.text.now in
    let i = c.loop-b.b-index in
    let b = slice_index_or text i 0 in
    let pushed : string_bytes c.push.new.self ≡ string_bytes c.loop-b.letters ++ encode_utf8 b =
    search rules in
    let one : encode_utf8_all (take i text ++ b ∷ [])
    ≡ encode_utf8_all (take i text) ++ encode_utf8 b =
    encodes-append (take i text) (b ∷ [])
    ∙ ap (λ (x : List ℕ). encode_utf8_all (take i text) ++ x) (append-nil (encode_utf8 b)) in
    pushed ∙ ap (λ (x : List ℕ). x ++ encode_utf8 b) c.loop-b.invariant ∙ sym one
    ∙ ap encode_utf8_all (sym (take_more text i 0 c.loop-b-test.true))

pub returns : goal.returns
returns c =
    let text = c.args.text.now in
    c.loop-b.invariant
    ∙ ap encode_utf8_all (take_all c.loop-b.b-index text (omega (arith, c.loop-b-test.false)))
