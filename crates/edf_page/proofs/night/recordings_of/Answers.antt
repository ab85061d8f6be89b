use Rattle.std.proofs.Common.{◌≡◌, List, [], ◌∷◌, ◌++◌, sym, subst, rules, ap, ◌∙◌, append_assoc}
use Rattle.std.specs.List.{AllZip}
use Rattle.std.specs.Vec.Iter.{into_iter_items}
use Rattle.std.proofs.lemmas.Slice.Zip.{all_zipped_more}
use Rattle.edf_page.specs.InsideHeld.{IsOfFile}
use Rattle.edf_page.specs.declared.night.Recording.{Recording}
use Rattle.edf_page.proofs.night.recordings_of.Goals as goal

pub loop-file-preserved : goal.loop-file-preserved
loop-file-preserved c =
    let ys = c.loop-file.yielded in
    let rest : into_iter_items c.loop-file.file-iterator
    ≡ c.in-Some.file ∷ into_iter_items c.next.new.self = search rules in
    let pushed : c.push.new.self.items
    ≡ c.loop-file.recordings.items ++ c.in_ok-recording.recording ∷ [] = search rules in
    record {
      parts = c.loop-file.invariant.parts ∙ ap (λ l. ys ++ l) rest
          ∙ sym (append_assoc ys (c.in-Some.file ∷ []) (into_iter_items c.next.new.self));
      each = subst (λ (rs : List Recording). AllZip (λ file r. IsOfFile file.items r)
          (ys ++ c.in-Some.file ∷ []) rs) (sym pushed) (all_zipped_more
          (λ file r. IsOfFile file.items r) _ _ _ _ c.loop-file.invariant.each
          c.in_ok-recording.ensures);
    }
