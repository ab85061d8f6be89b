use Rattle.std.proofs.Common.{rules, of_calls}
use Rattle.std.specs.Ordering.{is_lt}
use Rattle.std.proofs.lemmas.List.Sorted.{ranks_by, answers_always}
use Rattle.edf_runs.specs.Order.{annotation_cmp}
use Rattle.edf_runs.proofs.Order.{total, order-is}
use Rattle.edf_runs.proofs.ordering.in_order.Goals as goal

pub returns : goal.returns
returns c =
    order-is c.args.notes.items c.sort_by.new.self.items c.sort_by.ensures.permutation
    (c.in_ok-sort_by.ensures.sorted (λ x y. is_lt (annotation_cmp x y)) (ranks_by total (λ x. x))
    (answers_always _ _ _ (λ f a r g h. search (rules, of_calls))))
