use Rattle.std.proofs.Common.{[]}
use Rattle.edf_page_exports.proofs.Values.{made-values}
use Rattle.edf_page_exports.proofs.asked.values_of.Goals as goal

pub returns : goal.returns
returns c = made-values c.args.name.now c.args.texts.now (record { ref_ptr = (0, 0); now = [] })
    c.in-len7.len_at_least c.in-len7.len_below _ _ _ _ _ _ c.is_empty.result c.is_empty-2.result
    c.value_of.ensures c.value_of-2.ensures c.value_of-3.ensures c.value_of-4.ensures
    c.value_of-5.ensures c.value_of-6.ensures c.is_empty.ensures c.is_empty-2.ensures
