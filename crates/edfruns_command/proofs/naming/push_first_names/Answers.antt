use Rattle.std.proofs.Common.{◌++◌, ◌∷◌, ◌+◌, [], ℕ, List, ap, sym, ◌∙◌, arith, map, string_bytes}
use Rattle.std.proofs.Common.{append_assoc}
use Rattle.std.specs.List.{range_with_len}
use Rattle.std.proofs.lemmas.List.{map-append}
use Rattle.std.proofs.lemmas.List.FromFn.{map-range_with_len_more}
use Rattle.edfruns_command.specs.Naming.{run_name}
use Rattle.edfruns_command.proofs.naming.push_first_names.Goals as goal

pub loop-at-preserved : goal.loop-at-preserved
loop-at-preserved c =
    let f : ℕ → List ℕ = λ width. run_name c.args.prefix.now width 1 in
    let at = c.loop-at.at in
    let name = c.in_ok-run_name.field-0 in
    let old = map string_bytes c.args.names.now.items in
    ap (map string_bytes) c.in_ok-push.ensures.items
    ∙ map-append string_bytes c.loop-at.names.items (name ∷ [])
    ∙ ap (λ (l : List (List ℕ)). l ++ (string_bytes name ∷ [])) c.loop-at.invariant
    ∙ append_assoc old (map f (range_with_len 1 at)) (string_bytes name ∷ [])
    ∙ ap (λ (n : List ℕ). old ++ (map f (range_with_len 1 at) ++ (n ∷ []))) c.in_ok-run_name.ensures
    ∙ ap (λ (l : List (List ℕ)). old ++ l)
    (sym (map-range_with_len_more f 1 at (at + 1) (omega arith)))
