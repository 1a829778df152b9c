use Rattle.std.proofs.Common.{ℕ, List, length, Vec, Global, sym, subst}
use Rattle.std.proofs.lemmas.Result.{IfOk-weaker}
use Rattle.graph_build.specs.Orders.{HasEnds, NoneIsEmpty}
use Rattle.graph_build.proofs.SortLaws.{none_empty, preorder_of_sorted}
use Rattle.graph_build.proofs.order.preorder_of.Goals as goal

pub ends_of-requires : goal.ends_of-requires
ends_of-requires c = subst NoneIsEmpty (sym c.as_slice.ensures.value)
    (none_empty c.args.vertices.now c.requires.rooted c.in_ok-paths.paths.items c.sort.new.self.items
    c.in_ok-paths.ensures c.in_ok-sort.ensures.permutation)

pub returns : goal.returns
returns c = IfOk-weaker c.ends_of.result _ _ (λ ends has.
    preorder_of_sorted c.args.vertices.now c.requires.rooted c.in_ok-paths.paths.items c.sort.new.self.items
    c.in_ok-paths.ensures c.in_ok-sort.ensures.permutation ends.items c.in_ok-sort.ensures.sorted
    (subst (λ (l : List (Vec ℕ Global)). HasEnds l (length l) ends.items) c.as_slice.ensures.value has))
    c.ends_of.ensures
