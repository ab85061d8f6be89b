use Rattle.std.proofs.Common.{◌≡◌, ℕ, ◌+◌, ◌-◌, ◌≤◌, ◌<◌, List, [], ◌∷◌, ◌++◌, length, take, drop}
use Rattle.std.proofs.Common.{arith, false, true, vec_len, vec_capacity, length-append}
use Rattle.std.proofs.Common.{sym, ap, ◌∙◌, subst, slice_index_or, Result, Ok, Err, IsOk, is_ok}
use Rattle.std.proofs.Common.{if◌then◌else◌}
use Rattle.std.proofs.lemmas.List.{drop_all, drop_more}
use Rattle.std.proofs.lemmas.Slice.{between_to_end}
use borrow.Rule.Slice.PartMut.{same_len_mid}
use Rattle.edf_header.specs.Header.{AreApart}
use Rattle.edf_header.specs.declared.header.Block.{Block}
use Rattle.edf_fragment.specs.Fragment.{bytes_outside}
use Rattle.edf_field.specs.Number.{field}
use Rattle.edf_fragment.proofs.Layouts.{length-outside, length-field}
use Rattle.edf_fragment.proofs.Cuts.{IsCutTo, HasRoom, cut-none, cut-step, cut-last, room-left}
use Rattle.edf_fragment.proofs.buffers.cut_record.Goals as goal

abbrev no_block : Block
no_block = record { at = 0; bytes = 0 }

-- the block that is next
next-cut : (all given : List Block) (i : ℕ) (whole samples blocks : List ℕ) (n : ℕ) →
    given ≡ all → i < length given → IsCutTo all (drop i all) whole samples blocks n
    → IsCutTo all (slice_index_or given i no_block ∷ drop (i + 1) all) whole samples blocks n
next-cut all given i whole samples blocks n same low c =
    let low2 : i < length all = subst (λ (x : List Block). i < length x) same low in
    let first : slice_index_or all i no_block ∷ drop (i + 1) all ≡ slice_index_or given i
    no_block ∷ drop (i + 1) all =
    ap (λ (x : List Block). slice_index_or x i no_block ∷ drop (i + 1) all) (sym same) in
    subst (λ (x : List Block). IsCutTo all x whole samples blocks n)
    (drop_more all i no_block low2 ∙ first) c

-- the block that is next, with what fits after what is done
next-room : (all given : List Block) (i : ℕ) (whole samples blocks : List ℕ) (n : ℕ) →
    given ≡ all → i < length given → IsCutTo all (drop i all) whole samples blocks n
    → HasRoom (slice_index_or given i no_block) (length samples) n
    (length (bytes_outside 0 all whole)) (length blocks) (length whole)
next-room all given i whole samples blocks n same low c =
    room-left all (drop (i + 1) all) (slice_index_or given i no_block) whole samples blocks n
    (next-cut all given i whole samples blocks n same low c)

-- what was added, where there was room
added : {E : Type 0} (r : Result Unit E) (old more new : List ℕ) → IsOk r →
    new ≡ (if is_ok r then old ++ more else old) → new ≡ old ++ more
added (Ok it) old more new ok e = e
added (Err it) old more new ok e = let no : false ≡ true = ok in absurd (cc)

pub loop-block-init : goal.loop-block-init
loop-block-init c =
    let l = c.args.header.now in
    let layout = c.blocks-block-items.ensures.layout in
    let whole = c.args.whole.now in
    let apart = subst (λ (n : ℕ). AreApart 0 l.blocks n) (sym c.requires.whole) layout.apart in (
      cut-none l.blocks whole c.args.samples.now.items c.args.joined.now c.requires.empty apart
          c.requires.joined,
      omega (
        arith,
        c.requires.room,
        c.requires.whole,
        length-outside 0 l.blocks whole apart,
      ),
    )

pub slice_bounds-extend_from_slice-end :
    goal.slice_bounds-extend_from_slice-end
slice_bounds-extend_from_slice-end c =
    let l = c.args.header.now in
    let given = c.blocks-block-items.result.now in
    let i = c.loop-block.block-index in
    let room = next-room l.blocks given i c.args.whole.now _ _ _ c.blocks-block-items.ensures.value
    c.loop-block-test.true c.loop-block.invariant.0 in
    omega (arith, room.within, room.after_done, room.copied_fits)

pub slice_bounds-copy_from_slice-end :
    goal.slice_bounds-copy_from_slice-end
slice_bounds-copy_from_slice-end c =
    let l = c.args.header.now in
    let given = c.blocks-block-items.result.now in
    let i = c.loop-block.block-index in
    let room = next-room l.blocks given i c.args.whole.now _ _ _ c.blocks-block-items.ensures.value
    c.loop-block-test.true c.loop-block.invariant.0 in
    omega (arith, room.within, room.after_done, room.copied_fits)

pub slice_bounds-copy_from_slice-end-in-loop-block :
    goal.slice_bounds-copy_from_slice-end-in-loop-block
slice_bounds-copy_from_slice-end-in-loop-block c =
    let l = c.args.header.now in
    let given = c.blocks-block-items.result.now in
    let i = c.loop-block.block-index in
    let room = next-room l.blocks given i c.args.whole.now _ _ _ c.blocks-block-items.ensures.value
    c.loop-block-test.true c.loop-block.invariant.0 in
    omega (arith, room.within, room.after_done, room.copied_fits)

pub loop-block-preserved : goal.loop-block-preserved
loop-block-preserved c =
    let l = c.args.header.now in
    let given = c.blocks-block-items.result.now in
    let i = c.loop-block.block-index in
    let b = slice_index_or given i no_block in
    let whole = c.args.whole.now in
    let before = c.loop-block.samples.items in
    let cut = next-cut l.blocks given i whole before c.loop-block.joined c.loop-block.copied
    c.blocks-block-items.ensures.value c.loop-block-test.true c.loop-block.invariant.0 in
    let room = next-room l.blocks given i whole before c.loop-block.joined c.loop-block.copied
    c.blocks-block-items.ensures.value c.loop-block-test.true c.loop-block.invariant.0 in
    let size : b.at + b.bytes - b.at ≡ b.bytes = omega arith in
    let piece = c.copy_from_slice.ensures.after ∙ ap (λ (n : ℕ). take n (drop b.at whole)) size in
    let m = length before in
    let n = c.loop-block.copied in
    let more = take (b.at - (c.len.result + n)) (drop (c.len.result + n) whole) in
    let long : c.len.result ≡ m = omega (arith, c.len.ensures, c.loop-block.samples.ok.0) in
    let same : more ≡ field whole (m + n) (b.at - (m + n)) =
    ap (λ (k : ℕ). take (b.at - (k + n)) (drop (k + n) whole)) long in
    let fits : vec_len c.loop-block.samples + length more ≤ vec_capacity c.loop-block.samples =
    omega (
      arith,
      room.ordinary_fits,
      c.loop-block.invariant.1,
      c.loop-block.samples.ok.0,
      ap (λ (x : List ℕ). length x) same,
      length-field whole (m + n) (b.at - (m + n)) (omega (arith, room.after_done, room.within)),
    ) in
    let grown = added c.extend_from_slice.result before more c.extend_from_slice.new.self.items
    (c.extend_from_slice.ensures.succeeds fits) c.extend_from_slice.ensures.items in (
      cut-step l.blocks (drop (i + 1) l.blocks) b whole before c.loop-block.joined _ more _ n _ cut
          grown same piece (same_len_mid _ _ c.loop-block.joined c.copy_from_slice.new.self
          c.copy_from_slice.auto.self),
      omega (arith, c.loop-block.invariant.1, c.extend_from_slice.ensures.capacity),
    )

pub returns : goal.returns
returns c =
    let l = c.args.header.now in
    let given = c.blocks-block-items.result.now in
    let i = c.loop-block.block-index in
    let whole = c.args.whole.now in
    let before = c.loop-block.samples.items in
    let past : drop i l.blocks ≡ [] =
    drop_all i l.blocks (subst (λ (x : List Block). length x ≤ i)
    c.blocks-block-items.ensures.value (omega (arith, c.loop-block-test.false))) in
    let none = subst (λ (x : List Block).
    IsCutTo l.blocks x whole before c.loop-block.joined c.loop-block.copied) past
    c.loop-block.invariant.0 in
    let m = length before in
    let n = c.loop-block.copied in
    let from = c.len-2.result + n in
    let more = take (length whole - from) (drop from whole) in
    let long : c.len-2.result ≡ m = omega (arith, c.len-2.ensures, c.loop-block.samples.ok.0) in
    let same : more ≡ drop (m + n) whole =
    between_to_end whole from (length whole) (omega arith) ∙ ap (λ (k : ℕ). drop (k + n) whole) long
    in
    let fits : vec_len c.loop-block.samples + length more ≤ vec_capacity c.loop-block.samples =
    omega (
      arith,
      c.loop-block.invariant.1,
      c.loop-block.samples.ok.0,
      ap (λ (x : List ℕ). length x) same,
      ap (λ (x : List ℕ). length x) none.samples_are,
      length-append before (drop (m + n) whole),
    ) in
    let grown = added c.extend_from_slice-2.result before more c.extend_from_slice-2.new.self.items
    (c.extend_from_slice-2.ensures.succeeds fits) c.extend_from_slice-2.ensures.items in
    let up = cut-last l.blocks whole before c.loop-block.joined _ more n none grown same in
    record { samples = up.samples_are; joined = up.blocks_are }
