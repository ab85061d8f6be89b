use Rattle.std.proofs.Common.{◌≡◌, ◌≤◌, ◌⊎◌, ℕ, List, map, length, refl, subst, ap, ◌∙◌, rules}
use Rattle.edf_page.specs.Night.{IsNight, pieces_of}
use Rattle.edf_page.specs.declared.given.GivenFile.{GivenFile}
use Rattle.edf_page_exports.specs.Laid.{AreLaid, HaveNoRoom, LieFiles, ComeOfFiles, AnyStop}
use Rattle.edf_page_exports.proofs.Answering.{gives}
use Rattle.edf_page_exports.proofs.page_night.Goals as goal

pub returns-in-Ok-pieces_of_night : goal.returns-in-Ok-pieces_of_night
returns-in-Ok-pieces_of_night c =
    let two : 2 ≤ length c.args.parts.now = search rules in
    let night = c.in-Ok-give_night.night in
    let all = ap (map (λ piece. piece.now)) c.as_slice-in-Ok-pieces_of_night.ensures.value
    ∙ c.in-Ok-pieces_of_night.ensures in
    gives c.args.out.now c.give.new.out c.args.parts.now c.give.new.parts
    (LieFiles c.args.names.now c.args.name_sizes.now c.args.bytes.now c.args.sizes.now)
    (ComeOfFiles c.args.names.now c.args.name_sizes.now c.args.bytes.now c.args.sizes.now) AnyStop
    c.give.result (pieces_of night) two (record {
      own_names = map (λ file. file.name.now) c.in-Ok.files.items;
      files = map (λ file. file.bytes.now) c.in-Ok.files.items;
      are_files = c.in-Ok.ensures.files;
      night = night;
      is_night = subst (λ (fs : List GivenFile). IsNight (map (λ file. file.name.now) fs)
          (map (λ file. file.bytes.now) fs) night) c.as_slice.ensures.value
          c.in-Ok-give_night.ensures;
      are_pieces = refl;
    }) (subst (λ (ps : List (List ℕ)). ((c.give.result ≡ 0)
    × AreLaid c.args.out.now c.give.new.out c.args.parts.now c.give.new.parts ps)
    ⊎ ((c.give.result ≡ 1)
    × HaveNoRoom c.args.out.now c.give.new.out c.args.parts.now c.give.new.parts ps)) all
    c.give.ensures)
