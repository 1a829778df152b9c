use Rattle.std.proofs.Common.{Some, sym, ◌∙◌, ap, arith}
use Rattle.list_laws.proofs.Lists.{get_some}
use Rattle.vertex_planners.proofs.GroupLaws.{few_groups, group_there, item_there}
use Rattle.vertex_planners.proofs.planners.VertexPlanners.at.Goals as goal

pub returns-in-Some-clause-item : goal.returns-in-Some-clause-item
returns-in-Some-clause-item g c =
    item_there c.args.self.now.groups c.args.self.now.spare.count c.args.vertex c.in-Some.group.now c.requires
    (sym c.in-Some.ensures.value) ∙ ap (λ x. Some x) (sym c.item.ensures)

pub returns-in-Some-clause-work : goal.returns-in-Some-clause-work
returns-in-Some-clause-work g c =
    let few = few_groups c.args.self.now.groups c.args.self.now.spare.count c.args.self.now.spare.few in
    let work = c.in-Some.ensures.work in
    omega (arith, few, work)

pub unreachable-requires : goal.unreachable-requires
unreachable-requires g c =
    let lt = group_there c.args.self.now.groups c.args.self.now.spare.count c.args.vertex c.requires in
    let (x, is) = get_some c.args.self.now.groups _ lt in
    let none = c.in-None.ensures.value in
    cc
