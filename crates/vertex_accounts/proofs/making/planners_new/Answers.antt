use Rattle.std.proofs.Common.{◌+◌, ◌∷◌, [], ℕ, List, length, length-append, ◌∙◌}
use Rattle.std.proofs.Common.{ap, subst}
use Rattle.vertex_planners.specs.Groups.{AreFresh}
use Rattle.vertex_planners.specs.Lists.{items_of}
use Rattle.vertex_accounts.proofs.CountLaws.{one_wide, one_new}
use Rattle.vertex_accounts.proofs.making.planners_new.Goals as goal

pub loop-vertex-preserved : goal.loop-vertex-preserved
loop-vertex-preserved g c =
    let old = items_of c.loop-vertex.planners in
    let new = items_of c.push.new.self in
    let totals = c.in_ok-totals.totals.items in
    let inv = c.loop-vertex.invariant in
    let (item, is, told) = c.in_ok-push.ensures.ok in
    let fresh = subst (λ (ns : List ℕ). AreFresh g.P.Planner.total_of g.P.Planner.stands_for ns item)
    c.as_slice.ensures.value told in
    record {
      len = ap length is ∙ length-append old (item ∷ []) ∙ ap (λ n. n + 1) inv.len;
      places = one_wide (length c.args.quantities.now)
          c.loop-vertex.vertex old new item inv.len is inv.places (fresh.len ∙ c.in_ok-totals.ensures.len);
      planners = one_new (length c.args.quantities.now)
          c.loop-vertex.vertex old new item inv.len is g.P.Planner.total_of g.P.Planner.stands_for
          c.args.graph.now.resources.vertices c.args.quantities.now
          totals inv.planners c.in_ok-totals.ensures.totals fresh.total fresh.spans;
    }
