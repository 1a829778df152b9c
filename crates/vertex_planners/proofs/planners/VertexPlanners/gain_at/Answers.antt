use Rattle.std.proofs.Common.{◌/◌, ◌*◌, arith}
use Rattle.list_laws.proofs.Lists.{get_some}
use Rattle.vertex_planners.specs.Kept.{Gains}
use Rattle.vertex_planners.specs.Rows.{count_some}
use Rattle.vertex_planners.proofs.GroupLaws.{few_groups, group_there, item_there, same_length, row_changed, others_same}
use Rattle.vertex_planners.proofs.planners.VertexPlanners.gain_at.Goals as goal

pub change-requires-clause-within : goal.change-requires-clause-within
change-requires-clause-within g c =
    group_there c.args.self.now.groups c.args.self.now.spare.count c.args.vertex c.requires.vertex

pub change-requires-clause-fits : goal.change-requires-clause-fits
change-requires-clause-fits g c = λ x at.
    let there = item_there c.args.self.now.groups c.args.self.now.spare.count c.args.vertex x
    c.requires.vertex at in
    (omega arith, c.requires.places _ there, c.requires.window, c.requires.room _ there)

pub returns-in_err-change-clause-len : goal.returns-in_err-change-clause-len
returns-in_err-change-clause-len g c =
    let new = c.change.ensures.new in
    same_length c.args.self.now.groups c.args.self.now.spare.count c.change.new.self (c.args.vertex / 16) new.0 new.1

pub returns-in_err-change-clause-work : goal.returns-in_err-change-clause-work
returns-in_err-change-clause-work g c = λ most within.
    let (x, is) = get_some c.args.self.now.groups (c.args.vertex / 16)
    (group_there c.args.self.now.groups c.args.self.now.spare.count c.args.vertex c.requires.vertex) in
    let there = item_there c.args.self.now.groups c.args.self.now.spare.count c.args.vertex x
    c.requires.vertex is in
    let work = c.change.ensures.work x (count_some c.args.row.now * most) is
    (most, λ k p at. within _ k p there at, omega arith) in
    let few = few_groups c.args.self.now.groups c.args.self.now.spare.count c.args.self.now.spare.few in
    omega (arith, work, few)

pub returns-clause-len : goal.returns-clause-len
returns-clause-len g c =
    let new = c.change.ensures.new in
    same_length c.args.self.now.groups c.args.self.now.spare.count c.change.new.self (c.args.vertex / 16) new.0 new.1

pub returns-clause-here : goal.returns-clause-here
returns-clause-here g c = λ before after a b.
    let new = c.in_ok-change.ensures.new in
    let (x, is) = get_some c.args.self.now.groups (c.args.vertex / 16)
    (group_there c.args.self.now.groups c.args.self.now.spare.count c.args.vertex c.requires.vertex) in
    row_changed c.args.self.now.groups c.args.self.now.spare.count c.change.new.self c.args.vertex new.0 new.1
    (Gains g.P.Planner.total_of g.P.Planner.stands_for c.args.window) c.args.row.now x before after is (new.2 x is) a b

pub returns-clause-others : goal.returns-clause-others
returns-clause-others g c =
    let new = c.in_ok-change.ensures.new in
    let (x, is) = get_some c.args.self.now.groups (c.args.vertex / 16)
    (group_there c.args.self.now.groups c.args.self.now.spare.count c.args.vertex c.requires.vertex) in
    others_same c.args.self.now.groups c.args.self.now.spare.count c.change.new.self c.args.vertex new.0 new.1
    (Gains g.P.Planner.total_of g.P.Planner.stands_for c.args.window) c.args.row.now x is (new.2 x is)

pub returns-clause-work : goal.returns-clause-work
returns-clause-work g c = λ most within.
    let (x, is) = get_some c.args.self.now.groups (c.args.vertex / 16)
    (group_there c.args.self.now.groups c.args.self.now.spare.count c.args.vertex c.requires.vertex) in
    let there = item_there c.args.self.now.groups c.args.self.now.spare.count c.args.vertex x
    c.requires.vertex is in
    let work = c.change.ensures.work x (count_some c.args.row.now * most) is
    (most, λ k p at. within _ k p there at, omega arith) in
    let few = few_groups c.args.self.now.groups c.args.self.now.spare.count c.args.self.now.spare.few in
    omega (arith, work, few)
