use Rattle.std.proofs.Common.{◌≡◌, ℕ, ◌-◌, List, ◌++◌, length, drop, ap, ◌∙◌, arith, append_assoc}
use Rattle.std.proofs.Common.{rules}
use Rattle.std.proofs.lemmas.List.{drop-replicate}
use Rattle.edf_field.specs.Text.{spaces}
use Rattle.edf_runs.proofs.filled_identity.push_padded.Goals as goal

pub returns : goal.returns
returns c =
    let text = c.args.text.now in
    let n = c.min.result in
    let rest : 8 - n ≡ 8 - length text = omega (arith, c.min.ensures) in
    let back : drop n (spaces 8) ≡ spaces (8 - length text) =
    drop-replicate n 8 32 ∙ ap (λ (m : ℕ). spaces m) rest in
    let all : c.extend_from_slice-2.new.self.items ≡ (c.args.out.now.items ++ text)
    ++ drop n (spaces 8) = search rules in
    all
    ∙ ap (λ (l : List ℕ). (c.args.out.now.items ++ text) ++ l) back
    ∙ append_assoc c.args.out.now.items text (spaces (8 - length text))
