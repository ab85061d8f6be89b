use Rattle.std.proofs.Common.{◌≡◌, ◌++◌, ◌+◌, List, [], ◌∷◌, take, subst, sym, ap, ◌∙◌}
use Rattle.std.proofs.Common.{append_assoc, rules}
use Rattle.std.proofs.lemmas.List.{take_more}
use Rattle.edf_picture.specs.declared.extent.Note.{Note}
use Rattle.edf_tal.specs.Tal.{Annotation}
use Rattle.edfruns_command.specs.Picturing.{AreNoted}
use Rattle.edfruns_command.proofs.Noting.{noted-more}
use Rattle.edfruns_command.proofs.sight.add_notes.Goals as goal

pub loop-note-preserved : goal.loop-note-preserved
loop-note-preserved c before are =
    let all = c.notes-note-items.result.now in
    let i = c.loop-note.note-index in
    let a = c.note-item.result in
    let n = c.in_ok-copy.copy in
    let more : take (i + 1) all ≡ take i all ++ a ∷ [] = search (rules, take_more) in
    let grown = noted-more (before ++ take i all) c.loop-note.notes.items a n
    (c.loop-note.invariant before are) c.in_ok-copy.ensures in
    subst (λ (ns : List Note). AreNoted (before ++ take (i + 1) all) ns)
    (sym c.in_ok-push.ensures.items)
    (subst (λ (all : List Annotation). AreNoted all (c.loop-note.notes.items ++ n ∷ []))
    (append_assoc before (take i all) (a ∷ [])
    ∙ ap (λ (l : List Annotation). before ++ l) (sym more)) grown)
