use Rattle.std.proofs.Common.{◌≡◌, List, [], ◌∷◌, ◌++◌, sym, subst, rules, ap, ◌∙◌, append_assoc}
use Rattle.std.proofs.Common.{map, All}
use Rattle.std.specs.List.{AllZip}
use Rattle.std.specs.Vec.Iter.{into_iter_items}
use Rattle.std.proofs.lemmas.List.{map_push}
use Rattle.std.proofs.lemmas.List.Elements.{All-push}
use Rattle.edf_cli.specs.Made.{MadeFile}
use Rattle.edf_page.specs.Programs.{IsGivenBack, IsWholeOrGone, finished_of, made_of}
use Rattle.edf_page.specs.declared.begun.NamedFile.{NamedFile}
use Rattle.edf_page.proofs.Replacing.{finished-more}
use Rattle.edf_page.proofs.Zips.{zip_append}
use Rattle.edf_page.proofs.begun.BegunFiles.into_named.Goals as goal

pub loop-entry-preserved : goal.loop-entry-preserved
loop-entry-preserved c =
    let ys = c.loop-entry.yielded in
    let rest : into_iter_items c.loop-entry.entry-iterator
    ≡ c.in-Some.entry ∷ into_iter_items c.next.new.self = search rules in
    let added = c.in_ok-push_finished.ensures.added in
    record {
      parts = c.loop-entry.invariant.parts ∙ ap (map made_of) (ap (λ l. ys ++ l) rest
          ∙ sym (append_assoc ys (c.in-Some.entry ∷ []) (into_iter_items c.next.new.self)));
      each = subst (λ (made : List MadeFile).
          AllZip IsGivenBack made c.push_finished.new.files.items)
          (sym (ap finished_of (map_push made_of ys c.in-Some.entry)
          ∙ finished-more (map made_of ys) (made_of c.in-Some.entry)))
          (subst (λ (files : List NamedFile). AllZip IsGivenBack (finished_of (map made_of ys)
          ++ finished_of (made_of c.in-Some.entry ∷ [])) files) (sym added.1)
          (zip_append IsGivenBack _ _ _ _ c.loop-entry.invariant.each added.2));
      gone = subst (All IsWholeOrGone) (sym (map_push made_of ys c.in-Some.entry))
          (All-push IsWholeOrGone (map made_of ys) (made_of c.in-Some.entry)
          c.loop-entry.invariant.gone c.in_ok-push_finished.ensures.gone);
    }
