use Rattle.std.proofs.Common.{◌+◌, ◌*◌, length, arith}
use Rattle.planner_points.specs.Work.{renew_cost}
use Rattle.vertex_planners.specs.Rows.{places_of, count_all}
use Rattle.vertex_planners.specs.Kept.{Gains, HasRoomFor}
use Rattle.vertex_planners.specs.Lists.{items_of}
use Rattle.vertex_planners.specs.Work.{change_most}
use Rattle.vertex_planners.proofs.Walks.{row_of, none_of, vertex_there, row_places, row_before, walk_steps, walk_counts}
use Rattle.vertex_planners.proofs.Walks.{walk_begins, gains_none, still_wide, walk_ends}
use Rattle.vertex_planners.proofs.planners.VertexPlanners.gain.Goals as goal

pub loop-row-init : goal.loop-row-init
loop-row-init g c = record {
  walked =
      (walk_begins (Gains g.P.Planner.total_of g.P.Planner.stands_for c.args.window) (items_of c.args.self.now)
      (places_of c.args.rows) (gains_none g.P.Planner.total_of g.P.Planner.stands_for c.args.window) c.requires.keys);
  work = λ most within. omega arith;
}

pub gain_at-requires-clause-vertex : goal.gain_at-requires-clause-vertex
gain_at-requires-clause-vertex g c =
    vertex_there (Gains g.P.Planner.total_of g.P.Planner.stands_for c.args.window)
    (items_of c.args.self.now) (places_of c.args.rows)
    (items_of c.loop-row.self) (places_of c.loop-row.left)
    (places_of c.pop.new.self) c.in-Some.vertex c.pop.new.row c.loop-row.invariant.walked
    (row_of (Gains g.P.Planner.total_of g.P.Planner.stands_for c.args.window)
    (items_of c.args.self.now) (places_of c.args.rows) (places_of c.loop-row.left) (places_of c.pop.new.self)
    c.in_ok-vertex.field-0 c.in-Some.vertex c.pop.new.row c.in-Some.is c.in_ok-vertex.ensures.taken)

pub gain_at-requires-clause-places : goal.gain_at-requires-clause-places
gain_at-requires-clause-places g c =
    row_places (Gains g.P.Planner.total_of g.P.Planner.stands_for c.args.window)
    (items_of c.args.self.now) (places_of c.args.rows)
    (items_of c.loop-row.self) (places_of c.loop-row.left)
    (places_of c.pop.new.self) c.in-Some.vertex c.pop.new.row c.loop-row.invariant.walked
    (row_of (Gains g.P.Planner.total_of g.P.Planner.stands_for c.args.window) (items_of c.args.self.now)
    (places_of c.args.rows) (places_of c.loop-row.left) (places_of c.pop.new.self) c.in_ok-vertex.field-0
    c.in-Some.vertex c.pop.new.row c.in-Some.is c.in_ok-vertex.ensures.taken) c.requires.places

pub gain_at-requires-clause-room : goal.gain_at-requires-clause-room
gain_at-requires-clause-room g c =
    row_before (Gains g.P.Planner.total_of g.P.Planner.stands_for c.args.window)
    (items_of c.args.self.now) (places_of c.args.rows)
    (items_of c.loop-row.self) (places_of c.loop-row.left)
    (places_of c.pop.new.self) c.in-Some.vertex c.pop.new.row c.loop-row.invariant.walked
    (row_of (Gains g.P.Planner.total_of g.P.Planner.stands_for c.args.window)
    (items_of c.args.self.now) (places_of c.args.rows) (places_of c.loop-row.left) (places_of c.pop.new.self)
    c.in_ok-vertex.field-0 c.in-Some.vertex c.pop.new.row c.in-Some.is c.in_ok-vertex.ensures.taken)
    (HasRoomFor g.P.Planner.total_of g.P.Planner.stands_for c.args.window) c.requires.places c.requires.room

pub loop-row-preserved : goal.loop-row-preserved
loop-row-preserved g c =
    let off = row_of (Gains g.P.Planner.total_of g.P.Planner.stands_for c.args.window)
    (items_of c.args.self.now) (places_of c.args.rows) (places_of c.loop-row.left) (places_of c.pop.new.self)
    c.in_ok-vertex.field-0 c.in-Some.vertex c.pop.new.row c.in-Some.is c.in_ok-vertex.ensures.taken in
    record {
      walked = walk_steps (Gains g.P.Planner.total_of g.P.Planner.stands_for c.args.window)
          (items_of c.args.self.now) (places_of c.args.rows)
          (items_of c.loop-row.self) (places_of c.loop-row.left)
          (places_of c.pop.new.self) c.in-Some.vertex c.pop.new.row c.loop-row.invariant.walked off
          (items_of c.gain_at.new.self) c.gain_at.ensures.len
          c.in_ok-gain_at.ensures.here c.in_ok-gain_at.ensures.others;
      work = λ most within.
          walk_counts (Gains g.P.Planner.total_of g.P.Planner.stands_for c.args.window)
          (items_of c.args.self.now) (places_of c.args.rows)
          (items_of c.loop-row.self) (places_of c.loop-row.left)
          (places_of c.pop.new.self) c.in-Some.vertex c.pop.new.row c.loop-row.invariant.walked off
          (renew_cost g.P.Planner.settle_cost g.P.Planner.change_cost) most c.loop-row.steps c.gain_at.new.steps
          (c.args.steps.now + count_all
          (places_of c.args.rows) * change_most (length (items_of c.args.self.now)) most)
          within (c.gain_at.ensures.work most) (c.loop-row.invariant.work most within);
    }

pub loop-row-smaller : goal.loop-row-smaller
loop-row-smaller g c =
    let off = row_of (Gains g.P.Planner.total_of g.P.Planner.stands_for c.args.window)
    (items_of c.args.self.now) (places_of c.args.rows) (places_of c.loop-row.left) (places_of c.pop.new.self)
    c.in_ok-vertex.field-0 c.in-Some.vertex c.pop.new.row c.in-Some.is c.in_ok-vertex.ensures.taken in
    off.row_is.less off.was

pub returns-in_err-gain_at-clause-work : goal.returns-in_err-gain_at-clause-work
returns-in_err-gain_at-clause-work g c = λ most within.
    let counts = walk_counts (Gains g.P.Planner.total_of g.P.Planner.stands_for c.args.window)
    (items_of c.args.self.now) (places_of c.args.rows)
    (items_of c.loop-row.self) (places_of c.loop-row.left)
    (places_of c.pop.new.self) c.in-Some.vertex c.pop.new.row c.loop-row.invariant.walked
    (row_of (Gains g.P.Planner.total_of g.P.Planner.stands_for c.args.window)
    (items_of c.args.self.now) (places_of c.args.rows) (places_of c.loop-row.left) (places_of c.pop.new.self)
    c.in_ok-vertex.field-0 c.in-Some.vertex c.pop.new.row c.in-Some.is c.in_ok-vertex.ensures.taken)
    (renew_cost g.P.Planner.settle_cost g.P.Planner.change_cost) most c.loop-row.steps c.gain_at.new.steps
    (c.args.steps.now + count_all (places_of c.args.rows) * change_most (length (items_of c.args.self.now)) most)
    within (c.gain_at.ensures.work most) (c.loop-row.invariant.work most within) in
    omega (arith, counts)

pub returns-clause-places : goal.returns-clause-places
returns-clause-places g c =
    still_wide (Gains g.P.Planner.total_of g.P.Planner.stands_for c.args.window)
    (items_of c.args.self.now) (places_of c.args.rows)
    (items_of c.loop-row.self) (places_of c.loop-row.left) c.loop-row.invariant.walked
    (none_of (Gains g.P.Planner.total_of g.P.Planner.stands_for c.args.window)
    (items_of c.args.self.now) (places_of c.args.rows) (places_of c.loop-row.left)
    c.in_ok-vertex.field-0 c.in_default.is c.in_ok-vertex.ensures.none) c.requires.places

pub returns-clause-gains : goal.returns-clause-gains
returns-clause-gains g c =
    walk_ends (Gains g.P.Planner.total_of g.P.Planner.stands_for c.args.window)
    (items_of c.args.self.now) (places_of c.args.rows)
    (items_of c.loop-row.self) (places_of c.loop-row.left) c.loop-row.invariant.walked
    (none_of (Gains g.P.Planner.total_of g.P.Planner.stands_for c.args.window)
    (items_of c.args.self.now) (places_of c.args.rows) (places_of c.loop-row.left)
    c.in_ok-vertex.field-0 c.in_default.is c.in_ok-vertex.ensures.none) c.requires.places
