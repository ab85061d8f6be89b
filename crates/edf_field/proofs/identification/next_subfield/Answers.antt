use Rattle.std.proofs.lemmas.Bool.Decides.{nat_tests}
use Rattle.std.proofs.Common.{◌==◌, not, arith, sym, ap, ◌∙◌, ◌≡◌, ◌<◌, length, drop, List, ℕ}
use Rattle.std.proofs.lemmas.List.{nil_from_length}
use Rattle.std.proofs.lemmas.List.Sums.{prefix_len-le-length}
use Rattle.edf_field.specs.Number.{unpadded_len}
use Rattle.edf_field.specs.Text.{subfields}
use Rattle.edf_field.proofs.Subfields.{spaces_len, skip-spaces, first-front, front-some}
use Rattle.edf_field.proofs.identification.next_subfield.Goals as goal

pub split_at-requires : goal.split_at-requires
split_at-requires c = rw c.spaces_len.ensures (prefix_len-le-length (λ b. b == 32) c.args.text.now)

after-spaces : (text rest : List ℕ) (n : ℕ) → n ≡ spaces_len text → rest ≡ drop n text →
    rest ≡ drop (spaces_len text) text
after-spaces text rest n e r = r ∙ ap (λ (k : ℕ). drop k text) e

pub returns-then-is_empty : goal.returns-then-is_empty
returns-then-is_empty c =
    let e = after-spaces c.args.text.now c.split_at.result.1.now c.spaces_len.result
    c.spaces_len.ensures c.split_at.ensures.back in
    skip-spaces c.args.text.now ∙ ap subfields (sym e
    ∙ nil_from_length c.split_at.result.1.now (grind (arith, nat_tests)))

pub split_at-requires-2 : goal.split_at-requires-2
split_at-requires-2 c = rw c.unpadded_len.ensures
    (prefix_len-le-length (λ b. not (b == 32)) c.split_at.result.1.now)

pub returns : goal.returns
returns c =
    let text = c.args.text.now in
    let e = after-spaces text c.split_at.result.1.now c.spaces_len.result c.spaces_len.ensures
    c.split_at.ensures.back in
    let some : 0 < length c.split_at.result.1.now = grind (arith, nat_tests) in
    let more : 0 < unpadded_len c.split_at.result.1.now =
    rw e (front-some text (rw (sym e) some)) in
    let first = skip-spaces text ∙ ap subfields (sym e)
    ∙ first-front c.split_at.result.1.now more in
    simp (c.split_at-2.ensures.front, c.split_at-2.ensures.back, c.unpadded_len.ensures) first
