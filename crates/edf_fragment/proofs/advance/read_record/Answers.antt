use Rattle.std.proofs.Common.{◌≡◌, ℕ, List, ◌+◌, length, arith, ap, refl, ◌∙◌, take_at, rules}
use Rattle.edf_fragment.proofs.Layouts.{sizes-some, ordinary-len}
use Rattle.edf_fragment.proofs.Sound.{read-kept}
use Rattle.edf_fragment.proofs.Steps.{was_cut, given_record, told_cut}
use Rattle.edf_fragment.proofs.advance.read_record.Goals as goal

pub read_blocks-requires-clause-some : goal.read_blocks-requires-clause-some
read_blocks-requires-clause-some g c =
    sizes-some c.args.header.now c.as_slice-2.result.now c.record_bytes.ensures.layout
    (c.as_slice-2.ensures.value ∙ c.requires.fits.sizes)

pub within_limits-requires : goal.within_limits-requires
within_limits-requires g c =
    let l = c.args.header.now in
    let layout = c.record_bytes.ensures.layout in
    let size : length c.as_slice.result.now ≡ l.record_bytes =
    omega (arith, c.as_slice.ensures.len, c.requires.fits.whole) in
    read-kept _ _ _ _ _ _ (omega (
      arith,
      ap (λ (x : List ℕ). length x) c.cut_record.ensures.samples,
      ordinary-len l c.as_slice.result.now layout size,
      layout.parts,
      layout.ordinary_size,
    ))
    c.in-Ok-read_blocks.ensures

pub returns-in-Ok-read_blocks-clause-read : goal.returns-in-Ok-read_blocks-clause-read
returns-in-Ok-read_blocks-clause-read g c =
    let l = c.args.header.now in
    let from = c.args.progress in
    let left = g.R.Input.remaining c.args.input.now in
    let rest = g.R.Input.remaining c.fill_record.new.input in
    let whole = c.as_slice.result.now in
    let filled = c.fill_record.new.whole in
    let cut = was_cut l from left rest c.in_ok-fill_record.field-0 whole filled
    c.cut_record.new.samples.items c.as_slice-joined.result.now c.as_slice-2.result.now
    c.record_bytes.ensures.layout c.requires.may_come c.in_ok-fill_record.ensures.step
    c.if-not-branch.false (omega (arith, c.requires.fits.whole))
    (c.as_slice.ensures.value ∙ take_at filled _ _ (omega arith)) c.cut_record.ensures.samples
    (c.as_slice-joined.ensures.value ∙ take_at c.cut_record.new.joined _ _ (omega arith)
    ∙ c.cut_record.ensures.joined) (c.as_slice-2.ensures.value ∙ c.requires.fits.sizes) in
    record {
      step = given_record l from left rest whole c.cut_record.new.samples.items _ c.start.result
          c.within_limits.result _ cut c.start.ensures c.in-Ok-read_blocks.ensures
          c.within_limits.ensures
          refl;
      counted = search rules;
    }

pub returns-in-Err-clause-read : goal.returns-in-Err-clause-read
returns-in-Err-clause-read g c =
    let l = c.args.header.now in
    let from = c.args.progress in
    let left = g.R.Input.remaining c.args.input.now in
    let rest = g.R.Input.remaining c.fill_record.new.input in
    let whole = c.as_slice.result.now in
    let filled = c.fill_record.new.whole in
    let cut = was_cut l from left rest c.in_ok-fill_record.field-0 whole filled
    c.cut_record.new.samples.items c.as_slice-joined.result.now c.as_slice-2.result.now
    c.record_bytes.ensures.layout c.requires.may_come c.in_ok-fill_record.ensures.step
    c.if-not-branch.false (omega (arith, c.requires.fits.whole))
    (c.as_slice.ensures.value ∙ take_at filled _ _ (omega arith)) c.cut_record.ensures.samples
    (c.as_slice-joined.ensures.value ∙ take_at c.cut_record.new.joined _ _ (omega arith)
    ∙ c.cut_record.ensures.joined) (c.as_slice-2.ensures.value ∙ c.requires.fits.sizes) in
    record {
      step = told_cut l from left rest whole c.cut_record.new.samples.items _ c.start.result
          (from.given + 1) c.in-Err.fault c.block_refusal.result cut c.start.ensures refl
          c.block_refusal.ensures.memory c.block_refusal.ensures.other c.in-Err.ensures;
      counted = search rules;
    }
