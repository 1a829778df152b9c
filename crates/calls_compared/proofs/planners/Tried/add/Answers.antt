use Rattle.std.proofs.Common.{◌≡◌, [], ◌++◌, append-nil, subst, sym, arith}
use Rattle.planner_points.specs.Lists.{AreSame}
use Rattle.planner_min_tree.specs.Plans.{StandsFor}
use Rattle.calls_compared.proofs.planners.Tried.add.Goals as goal

pub add_span-requires-2-clause-room : goal.add_span-requires-2-clause-room
add_span-requires-2-clause-room g c = λ spans same m a b.
    let least = (c.min_over-else-min_over-quantity.ensures.least spans same).each m a b in
    let enough = c.if-min_over-quantity-2.false in
    omega arith

pub invariant_of-result : goal.invariant_of-result
invariant_of-result g c =
    let items = c.self.inside.spans.items in
    let whole : items ≡ items ++ [] = sym (append-nil items) in
    let tree = c.in_ok-add_span.ensures.spans items []
    (subst (StandsFor c.self.inside.tree) whole c.self.invariant.0) in
    let plain = c.in_ok-add_span-2.ensures.spans items []
    (subst (AreSame c.self.inside.plain.spans) whole c.self.invariant.1) in
    (rw c.in-Ok.ensures.items tree, rw c.in-Ok.ensures.items plain)
