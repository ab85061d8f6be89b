use Rattle.std.proofs.Common.{◌≡◌, ◌<◌, ◌++◌, ◌∷◌, ap, ◌∙◌, arith, length, map}
use Rattle.edf_cli.specs.Made.{MadeFile, removed}
use Rattle.edf_cli.specs.declared.new_files.FileStage.TheVariants.{Removed}
use Rattle.edf_page.specs.declared.begun.BegunFile.{BegunFile}
use Rattle.edf_page.specs.Programs.{made_of}
use Rattle.edf_page.proofs.Replacing.{replaced, was}
use Rattle.edf_page.proofs.begun.BegunFiles.remove.Goals as goal

pub returns-then-place-len-clause-files : goal.returns-then-place-len-clause-files
returns-then-place-len-clause-files c front later file now at =
    let entries = c.self.inside.entries.items in
    let e = c.index_mut.result.now in
    let e' : BegunFile = record {
      name = e.name;
      stage = Removed;
      is_whole = e.is_whole;
      bytes = e.bytes;
      why = e.why;
    } in
    let here : map made_of entries ≡ front ++ (file ∷ later) = c.self.view_is ∙ now in
    let lt : c.args.place < length entries =
    omega (arith, c.if-place-len.true, c.len.ensures, c.self.inside.entries.ok.0) in
    replaced made_of entries c.args.place front later file here at e'
    ∙ ap (λ (f : MadeFile). front ++ (removed f ∷ later))
    (was made_of entries c.args.place front later file here at e lt c.index_mut.ensures.value)
