use Rattle.std.proofs.Common.{◌≡◌, ◌+◌, ◌++◌, ◌∷◌, ℕ, List, [], map, take, subst, sym, ap, ◌∙◌}
use Rattle.std.proofs.Common.{rules}
use Rattle.std.proofs.lemmas.List.{take_all, take_more, map_push}
use Rattle.edf_page.specs.Inside.{TakesGiven}
use Rattle.edf_page.proofs.Taken.{takes_none, takes_more}
use Rattle.edf_page.proofs.holding.take_files.Goals as goal

pub loop-file-init : goal.loop-file-init
loop-file-init c =
    let none : map (λ line. line.items) c.new-lines.result.items ≡ [] = search rules in
    subst (λ (ls : List (List ℕ)). TakesGiven c.args.store.now c.args.store.now ls []) (sym none)
    (takes_none c.args.store.now)

pub loop-file-preserved : goal.loop-file-preserved
loop-file-preserved c =
    let pushed : c.push.new.self.items ≡ c.loop-file.lines.items ++ c.in_ok-line.line ∷ []
    = search rules in
    let lines = ap (map (λ line. line.items)) pushed
    ∙ map_push (λ line. line.items) c.loop-file.lines.items c.in_ok-line.line in
    subst (λ (ls : List (List ℕ)). TakesGiven c.args.store.now c.take_file.new.store ls
    (take (c.loop-file.file-index + 1) c.args.files.now)) (sym lines)
    (subst (TakesGiven c.args.store.now c.take_file.new.store
    (map (λ line. line.items) c.loop-file.lines.items ++ c.in_ok-line.line.items ∷ []))
    (sym (take_more c.args.files.now c.loop-file.file-index _ c.loop-file-test.true))
    (takes_more c.args.store.now c.loop-file.store c.take_file.new.store
    (map (λ line. line.items) c.loop-file.lines.items) c.in_ok-line.line.items _ _
    c.loop-file.invariant c.in_ok-line.ensures))

pub returns : goal.returns
returns c = subst (TakesGiven c.args.store.now c.loop-file.store
    (map (λ line. line.items) c.loop-file.lines.items))
    (take_all c.loop-file.file-index c.args.files.now c.loop-file-test.false) c.loop-file.invariant
