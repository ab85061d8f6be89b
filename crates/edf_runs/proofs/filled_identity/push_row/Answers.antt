use Rattle.std.proofs.Common.{◌≡◌, ℕ, ◌/◌, List, ◌++◌, take, drop, sym, ap, ◌∙◌, arith}
use Rattle.std.proofs.Common.{rules}
use Rattle.std.proofs.Common.{append_assoc, false, length-drop}
use Rattle.std.specs.Prelude.{Bool, ◌==◌, if◌then◌else◌}
use Rattle.std.specs.Fmt.{decimal}
use Rattle.std.proofs.lemmas.Bool.Decides.{nat_tests}
use Rattle.std.proofs.lemmas.List.{take_all}
use Rattle.edf_field.specs.Text.{padded_to}
use Rattle.edf_header.specs.Signal.{samples}
use Rattle.edf_runs.proofs.filled_identity.push_row.Goals as goal

pub returns : goal.returns
returns c =
    let row = c.args.row.now in
    let g = c.args.parts in
    let out = c.args.out.now.items in
    let front = take 216 row in
    let digits : c.as_bytes.result.now ≡ decimal (c.args.size / g) = search rules in
    let text : padded_to 8 c.as_bytes.result.now ≡ padded_to 8 (decimal (samples row / g)) =
    ap (λ (l : List ℕ). padded_to 8 l) digits
    ∙ ap (λ (n : ℕ). padded_to 8 (decimal (n / g))) c.requires.sized in
    let back : take 32 (drop 224 row) ≡ drop 224 row =
    take_all 32 (drop 224 row) (omega (arith, length-drop 224 row, c.requires.long)) in
    let no : (g == 1) ≡ false = grind (arith, nat_tests) in
    c.in_ok-extend_from_slice-3.ensures.items
    ∙ ap (λ (l : List ℕ). l ++ take 32 (drop 224 row)) c.in_ok-push_padded.ensures
    ∙ ap (λ (l : List ℕ). (l ++ padded_to 8 c.as_bytes.result.now) ++ take 32 (drop 224 row))
    c.in_ok-extend_from_slice-2.ensures.items
    ∙ ap (λ (l : List ℕ). ((out ++ front) ++ l) ++ take 32 (drop 224 row)) text
    ∙ ap (λ (l : List ℕ). ((out ++ front) ++ padded_to 8 (decimal (samples row / g))) ++ l) back
    ∙ ap (λ (l : List ℕ). l ++ drop 224 row)
    (append_assoc out front (padded_to 8 (decimal (samples row / g))))
    ∙ append_assoc out (front ++ padded_to 8 (decimal (samples row / g))) (drop 224 row)
    ∙ ap (λ (b : Bool). out ++ (if b then row
    else front ++ padded_to 8 (decimal (samples row / g)) ++ drop 224 row)) (sym no)
