use Rattle.std.proofs.Common.{ℕ, ◌-◌, List, ◌++◌, length, take, drop, sym, ap, ◌∙◌, subst}
use Rattle.std.specs.List.{flat_map}
use Rattle.edf_tal.specs.Tal.{Annotation, all_tals, tal_annotations, annotations}
use Rattle.edf_tal.specs.Block.{BlocksParseTo, split_by_sizes}
use Rattle.edf_tal.specs.declared.place.Place.{Place}
use Rattle.edf_tal.proofs.Cuts.{HasFirst, cut-split, has-first}
use Rattle.edf_tal.proofs.read.list_notes.Goals as goal
use Rattle.edf_tal.proofs.read.list_notes.Goals.{After-split_at}

-- what the blocks give, by the first and those after it
the-first : (c : After-split_at) (p : Place) (start : ℕ) (list : List Annotation) →
    BlocksParseTo (split_by_sizes c.args.sizes.now c.args.block.now) c.args.file_start p start list
    → HasFirst c.args.file_start c.split_at.result.0.now (split_by_sizes (take (length
    c.args.sizes.now - 1) (drop 1 c.args.sizes.now)) c.split_at.result.1.now) list
the-first c p start list r =
    let parts = cut-split c.args.sizes.now c.args.block.now c.split_at.result.0.now
    c.split_at.result.1.now c.requires.sizes.some c.split_at.ensures.front
    c.split_at.ensures.back in
    has-first c.args.file_start p c.split_at.result.0.now _ start list
    (subst (λ (bs : List (List ℕ)). BlocksParseTo bs c.args.file_start p start list) parts r)

pub push_first-requires : goal.push_first-requires
push_first-requires c =
    let r = c.requires.read in
    let h = the-first (goal.at.push_first-requires c).After-split_at r.0 r.1 r.2 r.3 in
    (h.tals, h.sound, h.timed)

pub push_blocks-requires-clause-sound : goal.push_blocks-requires-clause-sound
push_blocks-requires-clause-sound c =
    let r = c.requires.read in
    let h = the-first (goal.at.push_blocks-requires-clause-sound c).After-split_at r.0 r.1 r.2
    r.3 in
    (h.others, h.rest)

pub returns : goal.returns
returns c = λ p start list r.
    let h = the-first (goal.at.returns c).After-split_at p start list r in
    let first = c.in_ok-push_first.ensures h.tals h.sound h.timed in
    let later = c.in_ok-push_blocks.ensures h.others h.rest in
    let rest = flat_map (tal_annotations c.args.file_start) (all_tals h.others) in
    let none = ap (λ (w : List Annotation). w ++ annotations c.args.file_start h.tals)
    c.in_ok-list.ensures.items in
    later ∙ ap (λ (w : List Annotation). w ++ rest) (first ∙ none) ∙ sym h.list_is
