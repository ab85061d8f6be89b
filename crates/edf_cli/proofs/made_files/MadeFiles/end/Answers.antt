use Rattle.std.proofs.Common.{◌≡◌, ◌<◌, ◌++◌, ◌∷◌, List, Bool, true, false, ap, ◌∙◌, arith, length}
use Rattle.std.proofs.Common.{map, string_bytes, refl}
use Rattle.std.specs.Prelude.{option_map}
use Rattle.std.specs.Bool.{MatchBool}
use Rattle.edf_cli.specs.Made.{Made, MadeFile, made_file, removed, not_removed, stage_after}
use Rattle.edf_cli.specs.declared.made_files.MadeEntry.{MadeEntry}
use Rattle.edf_cli.specs.declared.new_files.FileStage.{FileStage}
use Rattle.edf_cli.proofs.MadeLists.{replaced, was}
use Rattle.edf_cli.proofs.made_files.MadeFiles.end.Goals as goal

ends : (is_gone : Bool) (stage : FileStage) (front later now : List MadeFile) (old new file :
    MadeFile)
    → stage ≡ stage_after is_gone → old ≡ file →
    new ≡ made_file old.name stage old.whole old.bytes old.why → now ≡ front ++ (new ∷ later) →
    MatchBool is_gone (now ≡ front ++ (removed file ∷ later))
    (now ≡ front ++ (not_removed file ∷ later))
ends true stage front later now old new file s was is so =
    so ∙ ap (λ (f : MadeFile). front ++ (f ∷ later)) (is
    ∙ ap (λ (t : FileStage). made_file old.name t old.whole old.bytes old.why) s
    ∙ ap (λ (f : MadeFile). removed f) was)
ends false stage front later now old new file s was is so =
    so ∙ ap (λ (f : MadeFile). front ++ (f ∷ later)) (is
    ∙ ap (λ (t : FileStage). made_file old.name t old.whole old.bytes old.why) s
    ∙ ap (λ (f : MadeFile). not_removed f) was)

pub returns-then-place-len-clause-files : goal.returns-then-place-len-clause-files
returns-then-place-len-clause-files c front later file now at =
    let f : MadeEntry → MadeFile = λ entry. made_file (string_bytes entry.name) entry.stage
    entry.is_whole (option_map (λ bytes. bytes.items) entry.bytes) entry.why in
    let entries = c.self.inside.entries.items in
    let e = c.index_mut.result.now in
    let stage = c.stage_after-stage.result in
    let e' : MadeEntry = record {
      name = e.name;
      stage = stage;
      is_whole = e.is_whole;
      bytes = e.bytes;
      why = e.why;
    } in
    let here : map f entries ≡ front ++ (file ∷ later) =
    ap (λ (made : Made). made.files) c.self.view_is ∙ now in
    let lt : c.args.place < length entries =
    omega (arith, c.if-place-len.true, c.len.ensures, c.self.inside.entries.ok.0) in
    ends c.args.is_gone stage front later _ (f e) (f e') file c.stage_after-stage.ensures
    (was f entries c.args.place front later file here at e lt c.index_mut.ensures.value) refl
    (replaced f entries c.args.place front later file here at e')
