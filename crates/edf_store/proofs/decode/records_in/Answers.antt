use Rattle.std.proofs.Common.{◌≡◌, ◌∷◌, map, length, rules, arith, sym, ap, ◌∙◌}
use Rattle.std.proofs.lemmas.Result.{err_from_is_err_and}
use Rattle.std.specs.Vec.Iter.{into_iter_items}
use Rattle.edf_fragment.specs.Sound.{IsSoundRecord}
use Rattle.edf_tables.specs.Cells.{cells_of}
use Rattle.edf_store.proofs.Decoding.{next_read, pushed, all_read, none_read}
use Rattle.edf_store.proofs.Walks.{no_items}
use Rattle.edf_store.proofs.decode.records_in.Goals as goal

pub loop-row-init : goal.loop-row-init
loop-row-init c = (
  search rules,
  λ k ds key sound same.
      let all = ap (map cells_of) c.into_iter-row-iterator.ensures.into_iter_gives.0 ∙ same in
      none_read (IsSoundRecord k) ds _ _ (search rules) all sound,
)

pub loop-row-preserved : goal.loop-row-preserved
loop-row-preserved c =
    let at = c.loop-row in
    let row = c.in-Some.row in
    let steps : into_iter_items at.row-iterator ≡ row ∷ into_iter_items c.next.new.self =
    c.in-Some.ensures.steps.0 in (
      let was = at.invariant.0 in
          let gone = c.in-Some.ensures.steps.1 in
          let short = ap length steps in
          omega arith,
      λ k ds key sound same.
          let next = next_read (IsSoundRecord k) ds at.records.items row _ _
          (at.invariant.1 k ds key sound same) steps in
          pushed (IsSoundRecord k) ds at.records.items row _ c.in_ok-data_record.data_record
          c.push.new.self.items next
          (c.in_ok-data_record.ensures k next.data_record key next.has next.cells)
          (search rules),
    )

pub returns : goal.returns
returns c k ds key sound same =
    let at = c.loop-row in
    all_read (IsSoundRecord k) ds at.records.items _ (at.invariant.1 k ds key sound same)
    (no_items _ (sym at.invariant.0 ∙ c.in-None.ensures.steps.0))

pub returns-in_err-data_record : goal.returns-in_err-data_record
returns-in_err-data_record c k ds key sound same =
    let told = err_from_is_err_and c.from_residual.result c.from_residual.ensures.1 in
    let at = c.loop-row in
    let next = next_read (IsSoundRecord k) ds at.records.items c.in-Some.row _ _
    (at.invariant.1 k ds key sound same) c.in-Some.ensures.steps.0 in
    rw (told.1, told.2)
    (c.in_err-data_record.ensures k next.data_record key next.has next.cells)
