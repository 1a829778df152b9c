use Rattle.std.proofs.Common.{length, ap, arith}
use Rattle.vertex_planners.proofs.ItemLaws.{place_there, one_fresh, all_fresh}
use Rattle.vertex_planners.proofs.groups.Group.set.Goals as goal

pub index_of-index-requires : goal.index_of-index-requires
index_of-index-requires g c =
    let view = ap length c.self.view_is in
    let lt = c.loop-place-test.true in
    place_there g.P.Planner.total_of g.P.Planner.stands_for c.args.totals.now c.args.slot c.args.self.now
    c.requires.slot c.loop-place.self-inside.planners c.loop-place.place c.loop-place.invariant lt
    (omega (arith, view))

pub loop-place-preserved : goal.loop-place-preserved
loop-place-preserved g c =
    one_fresh g.P.Planner.total_of g.P.Planner.stands_for c.args.totals.now c.args.slot c.args.self.now
    c.requires.slot c.loop-place.self-inside.planners c.loop-place.place c.loop-place.invariant c.put-before.new.self
    c.in_ok-planner.planner c.index_of-index.result c.index_of-index.ensures.index c.index_of-index.ensures.within
    c.put-before.ensures.new c.in_ok-planner.ensures.total c.in_ok-planner.ensures.spans

pub returns-clause-fresh : goal.returns-clause-fresh
returns-clause-fresh g c =
    let view = ap length c.self.view_is in
    let all = c.loop-place-test.false in
    all_fresh g.P.Planner.total_of g.P.Planner.stands_for c.args.totals.now c.args.slot c.args.self.now
    c.requires.slot c.loop-place.self-inside.planners c.loop-place.place c.loop-place.invariant all
    (omega (arith, view))
