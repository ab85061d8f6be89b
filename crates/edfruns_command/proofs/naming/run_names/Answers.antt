use Rattle.std.proofs.Common.{◌++◌, ◌∷◌, ◌+◌, [], ℕ, List, ap, sym, ◌∙◌, arith, map, string_bytes}
use Rattle.std.specs.List.{range_with_len}
use Rattle.std.proofs.lemmas.List.{map-append}
use Rattle.std.proofs.lemmas.List.FromFn.{map-range_with_len_more}
use Rattle.edfruns_command.specs.Naming.{run_name}
use Rattle.edfruns_command.proofs.naming.run_names.Goals as goal

pub loop-at-preserved : goal.loop-at-preserved
loop-at-preserved c =
    let f = run_name c.args.prefix.now c.len-width.result in
    let at = c.loop-at.at in
    let name = c.in_ok-run_name.field-0 in
    ap (map string_bytes) c.in_ok-push.ensures.items
    ∙ map-append string_bytes c.loop-at.names.items (name ∷ [])
    ∙ ap (λ (l : List (List ℕ)). l ++ (string_bytes name ∷ [])) c.loop-at.invariant
    ∙ ap (λ (n : List ℕ). map f (range_with_len 1 at) ++ (n ∷ [])) c.in_ok-run_name.ensures
    ∙ sym (map-range_with_len_more f 1 at (at + 1) (omega arith))
