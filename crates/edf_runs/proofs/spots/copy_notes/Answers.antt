use Rattle.std.proofs.Common.{◌≡◌, ◌∷◌, ◌++◌, ◌+◌, [], rules, take, sym, ap, ◌∙◌, append_assoc}
use Rattle.std.proofs.lemmas.List.{take_more}
use Rattle.edf_tal.specs.Tal.{Annotation}
use Rattle.edf_runs.proofs.spots.copy_notes.Goals as goal
use Rattle.edf_runs.proofs.spots.copy_notes.Goals.{in-Some+in_ok-push, in_default}

pub loop-note-preserved : goal.loop-note-preserved
loop-note-preserved c =
    elim c.match-new.branch [
      | in-Some+in_ok-push w ↦
          let copied : w.in-Some.copy ≡ c.note-item.result = search rules in
          let all = c.args.from.now in
          let old = c.args.to.now.items in
          let i = c.loop-note.note-index in
          let more : take (i + 1) all ≡ take i all ++ c.note-item.result ∷ [] = search
          (rules, take_more) in
          ap (λ v. v.items) w.to-is ∙ w.in_ok-push.ensures.items
          ∙ ap (λ (x : Annotation). c.loop-note.to.items ++ x ∷ []) copied
          ∙ ap (λ l. l ++ c.note-item.result ∷ []) c.loop-note.invariant
          ∙ append_assoc old (take i all) (c.note-item.result ∷ [])
          ∙ ap (λ l. old ++ l) (sym more)
      | in_default w ↦ absurd (search rules)
    ]
