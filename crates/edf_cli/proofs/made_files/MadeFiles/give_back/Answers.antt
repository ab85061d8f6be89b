use Rattle.std.proofs.Common.{◌≡◌, ◌<◌, ◌-◌, ◌++◌, ◌∷◌, [], ℕ, List, Bool, ap, ◌∙◌, arith, length}
use Rattle.std.proofs.Common.{Option, map, string_bytes, length-append}
use Rattle.std.specs.Prelude.{option_map}
use Rattle.std.proofs.lemmas.List.{length-map}
use Rattle.edf_cli.specs.Made.{Made, MadeFile, made_file, begun}
use Rattle.edf_cli.specs.declared.made_files.MadeEntry.{MadeEntry}
use Rattle.edf_cli.specs.declared.new_files.FileStage.{FileStage}
use Rattle.edf_cli.specs.declared.new_files.Unfinished.{Unfinished}
use Rattle.edf_cli.proofs.MadeLists.{replaced, was}
use Rattle.edf_cli.proofs.made_files.MadeFiles.give_back.Goals as goal

pub returns-then-eq-clause-files : goal.returns-then-eq-clause-files
returns-then-eq-clause-files c files name now =
    let f : MadeEntry → MadeFile = λ entry. made_file (string_bytes entry.name) entry.stage
    entry.is_whole (option_map (λ bytes. bytes.items) entry.bytes) entry.why in
    let entries = c.self.inside.entries.items in
    let k = c.len-count.result - 1 in
    let e = c.index_mut.result.now in
    let e' = c.give_back.new.self in
    let here : map f entries ≡ files ++ (begun name ∷ []) =
    ap (λ (made : Made). made.files) c.self.view_is ∙ now in
    let size = ap (λ (l : List MadeFile). length l) here in
    let at : length files ≡ k = omega (
      arith,
      size,
      length-map entries f,
      length-append files (begun name ∷ []),
      c.len-count.ensures,
      c.self.inside.entries.ok.0,
    ) in
    let lt : k < length entries = omega (
      arith,
      c.if-count-gt0.true,
      c.len-count.ensures,
      c.self.inside.entries.ok.0,
    ) in
    let before : string_bytes e.name ≡ name = ap (λ (x : MadeFile). x.name)
    (was f entries k files [] (begun name) here at e lt c.index_mut.ensures.value) in
    let its : f e' ≡ made_file name c.args.stage c.args.is_whole
    (option_map (λ bytes. bytes.items) c.args.bytes) c.args.why =
    ap (λ n. made_file (string_bytes n) e'.stage e'.is_whole
    (option_map (λ bytes. bytes.items) e'.bytes) e'.why) c.give_back.ensures.name
    ∙ ap (λ (n : List ℕ). made_file n e'.stage e'.is_whole
    (option_map (λ bytes. bytes.items) e'.bytes) e'.why) before
    ∙ ap (λ (t : FileStage). made_file name t e'.is_whole
    (option_map (λ bytes. bytes.items) e'.bytes) e'.why) c.give_back.ensures.stage
    ∙ ap (λ (w : Bool). made_file name c.args.stage w
    (option_map (λ bytes. bytes.items) e'.bytes) e'.why) c.give_back.ensures.whole
    ∙ ap (λ b. made_file name c.args.stage c.args.is_whole
    (option_map (λ bytes. bytes.items) b) e'.why) c.give_back.ensures.bytes
    ∙ ap (λ (w : Option Unfinished). made_file name c.args.stage c.args.is_whole
    (option_map (λ bytes. bytes.items) c.args.bytes) w) c.give_back.ensures.why in
    replaced f entries k files [] (begun name) here at e'
    ∙ ap (λ (x : MadeFile). files ++ (x ∷ [])) its
