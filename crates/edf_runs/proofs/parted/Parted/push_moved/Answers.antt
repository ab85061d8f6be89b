use Rattle.std.proofs.Common.{◌≡◌, ℕ, ◌+◌, List, [], ◌∷◌, ◌++◌, take, rules, sym, ap}
use Rattle.std.proofs.Common.{◌∙◌}
use Rattle.std.proofs.Common.{subst, append_assoc}
use Rattle.std.specs.List.{AllZip}
use Rattle.std.proofs.lemmas.List.{take_more}
use Rattle.std.proofs.lemmas.List.Elements.{AllZip-push}
use Rattle.edf_tal.specs.Tal.{Annotation}
use Rattle.edf_runs.specs.Inside.Moving.{MovesTo, MovesNote}
use Rattle.edf_runs.proofs.parted.Parted.push_moved.Goals as goal

pub loop-note-preserved : goal.loop-note-preserved
loop-note-preserved c rise =
    let p = c.args.self.now in
    let was = c.loop-note.invariant rise in
    let a = c.note-item.result in
    let to = c.in_ok-copy.copy in
    let i = c.loop-note.note-index in
    let notes = c.args.notes.now in
    let onset : c.onset.result ≡ a.onset = search rules in
    let moves : MovesTo p c.onset.result c.in-Some.onset = c.in-Some.ensures rise in
    let copy : to ≡ record { onset = c.in-Some.onset; duration = a.duration; text = a.text } =
    c.in_ok-copy.ensures in
    let one : MovesNote p a to = record {
      duration = ap (λ (x : Annotation). x.duration) copy;
      text = ap (λ (x : Annotation). x.text) copy;
      onset = subst (λ (t : ℕ). MovesTo p a.onset t)
          (sym (ap (λ (x : Annotation). x.onset) copy))
          (subst (λ (t : ℕ). MovesTo p t c.in-Some.onset) onset moves);
    } in
    let more : take (i + 1) notes ≡ take i notes ++ a ∷ [] = search (rules, take_more) in (
      was.0 ++ to ∷ [],
      subst (λ (l : List Annotation). AllZip (MovesNote p) l (was.0 ++ to ∷ [])) (sym more)
          (AllZip-push (MovesNote p) (take i notes) was.0 a to was.1 one),
      c.in_ok-push_note.ensures ∙ ap (λ (l : List Annotation). l ++ to ∷ []) was.2
          ∙ append_assoc c.args.moved.now.items was.0 (to ∷ []),
    )
