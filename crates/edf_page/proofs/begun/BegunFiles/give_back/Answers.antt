use Rattle.std.proofs.Common.{◌≡◌, ◌<◌, ◌-◌, ◌++◌, ◌∷◌, [], ℕ, List, Bool, ap, ◌∙◌, arith, length}
use Rattle.std.proofs.Common.{Option, map, string_bytes, length-append, false, sym}
use Rattle.std.specs.Prelude.{option_map}
use Rattle.std.proofs.lemmas.List.{length-map, map-set, get_or-map}
use Rattle.edf_cli.specs.Made.{MadeFile, made_file, begun}
use Rattle.edf_cli.specs.declared.new_files.FileStage.{FileStage}
use Rattle.edf_cli.specs.declared.new_files.Unfinished.{Unfinished}
use Rattle.edf_page.specs.declared.begun.BegunFile.{BegunFile}
use Rattle.edf_page.specs.Programs.{made_of}
use Rattle.edf_page.specs.InsideFolder.{last_held}
use Rattle.edf_page.proofs.LastHeld.{held-set}
use Rattle.edf_page.proofs.Replacing.{replaced, was}
use Rattle.edf_page.proofs.begun.BegunFiles.give_back.Goals as goal

pub returns-then-is_begun-clause-files : goal.returns-then-is_begun-clause-files
returns-then-is_begun-clause-files c files name now =
    let f : BegunFile → MadeFile = made_of in
    let entries = c.self.inside.entries.items in
    let k = c.len-count.result - 1 in
    let e = c.index_mut.result.now in
    let e' = c.give_back.new.self in
    let here : map f entries ≡ files ++ (begun name ∷ []) =
    c.self.view_is ∙ now in
    let size = ap (λ (l : List MadeFile). length l) here in
    let at : length files ≡ k = omega (
      arith,
      size,
      length-map entries f,
      length-append files (begun name ∷ []),
      c.len-count.ensures,
      c.self.inside.entries.ok.0,
    ) in
    let lt : k < length entries = omega (
      arith,
      c.if-count-gt0.true,
      c.len-count.ensures,
      c.self.inside.entries.ok.0,
    ) in
    let before : string_bytes e.name ≡ name = ap (λ (x : MadeFile). x.name)
    (was f entries k files [] (begun name) here at e lt c.index_mut.ensures.value) in
    let its : f e' ≡ made_file name c.args.stage c.args.is_whole
    (option_map (λ bytes. bytes.items) c.args.bytes) c.args.why =
    ap (λ n. made_file (string_bytes n) e'.stage e'.is_whole
    (option_map (λ bytes. bytes.items) e'.bytes) e'.why) c.give_back.ensures.name
    ∙ ap (λ (n : List ℕ). made_file n e'.stage e'.is_whole
    (option_map (λ bytes. bytes.items) e'.bytes) e'.why) before
    ∙ ap (λ (t : FileStage). made_file name t e'.is_whole
    (option_map (λ bytes. bytes.items) e'.bytes) e'.why) c.give_back.ensures.stage
    ∙ ap (λ (w : Bool). made_file name c.args.stage w
    (option_map (λ bytes. bytes.items) e'.bytes) e'.why) c.give_back.ensures.whole
    ∙ ap (λ b. made_file name c.args.stage c.args.is_whole
    (option_map (λ bytes. bytes.items) b) e'.why) c.give_back.ensures.bytes
    ∙ ap (λ (w : Option Unfinished). made_file name c.args.stage c.args.is_whole
    (option_map (λ bytes. bytes.items) c.args.bytes) w) c.give_back.ensures.why in
    replaced f entries k files [] (begun name) here at e'
    ∙ ap (λ (x : MadeFile). files ++ (x ∷ [])) its

pub returns-then-is_begun-clause-held : goal.returns-then-is_begun-clause-held
returns-then-is_begun-clause-held c half name other =
    let entries = c.self.inside.entries.items in
    let k = c.len-count.result - 1 in
    let e = c.index.result.now in
    let e' = c.give_back.new.self in
    let lt : k < length entries = omega (
      arith,
      c.if-count-gt0.true,
      c.len-count.ensures,
      c.self.inside.entries.ok.0,
    ) in
    let was_half = (c.is_begun.ensures.0 c.if-is_begun.true).1 in
    let is_half : e'.is_whole ≡ false = c.give_back.ensures.whole ∙ half in
    ap (λ (l : List MadeFile). last_held l name other) (map-set made_of entries k e')
    ∙ held-set (map made_of entries) k (made_of e) (made_of e') (omega (
      arith,
      lt,
      length-map
          entries made_of,
    )) (ap made_of c.index.ensures ∙ sym (get_or-map made_of entries k e
    (made_of e) lt)) was_half is_half name other
    ∙ ap (λ (l : List MadeFile). last_held l name other) c.self.view_is
