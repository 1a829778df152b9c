use Rattle.std.proofs.Common.{◌+◌, ◌*◌, length, arith}
use Rattle.std.proofs.Math.Nat.{mul-le-mul_right}
use Rattle.flux_defs.specs.Digits.{dig}
use Rattle.planner_points.proofs.Starts.{none_to_next, none_at_all, first_found}
use Rattle.planner_min_tree.specs.Points.{count_before}
use Rattle.planner_min_tree.proofs.Nexts.{next_is, next_none}
use Rattle.planner_min_tree.proofs.Nexts.{counts_more, count_within, first_later}
use Rattle.planner_min_tree.proofs.PlanFacts.{one_more, in_all}
use Rattle.planner_min_tree.proofs.planner.MinTreePlanner.first_at_least.Goals as goal

pub returns-then-may_start-clause-first : goal.returns-then-may_start-clause-first
returns-then-may_start-clause-first g c = λ spans now.
    first_found c.args.self.now.total c.args.self.now.horizon spans c.args.duration c.args.quantity c.requires
    c.args.from
    c.loop-from.t c.loop-from.invariant.later (c.loop-from.invariant.none spans now)
    ((c.may_start.ensures.answer spans now).0 (cc))

pub returns-then-may_start-clause-work : goal.returns-then-may_start-clause-work
returns-then-may_start-clause-work g c =
    let points = c.args.self.now.points in
    let b = dig (length points + 2) in
    let k = count_before (c.loop-from.t + 1) points in
    let few = count_within (c.loop-from.t + 1) points in
    let most = mul-le-mul_right (6 * b) few in
    omega (arith, most, in_all (length points) b, c.loop-from.invariant.work, c.may_start.ensures.work)

pub returns-in_default-clause-first : goal.returns-in_default-clause-first
returns-in_default-clause-first g c = λ spans now.
    none_at_all c.args.self.now.total c.args.self.now.horizon spans c.args.duration c.args.quantity c.requires
    c.args.from
    c.loop-from.t (c.loop-from.invariant.none spans now)
    (λ s. let t = (c.may_start.ensures.answer spans now).1 s in absurd (cc))
    (next_none c.args.self.now.total c.args.self.now.points spans now.tallies c.loop-from.t (cc))

pub returns-in_default-clause-work : goal.returns-in_default-clause-work
returns-in_default-clause-work g c =
    let points = c.args.self.now.points in
    let b = dig (length points + 2) in
    let few = count_within (c.loop-from.t + 1) points in
    let most = mul-le-mul_right (6 * b) few in
    omega (
      arith,
      most,
      in_all (length points) b,
      c.loop-from.invariant.work,
      c.may_start.ensures.work,
      c.next.ensures.work,
    )

pub loop-from-smaller : goal.loop-from-smaller
loop-from-smaller g c =
    let points = c.args.self.now.points in
    let more = counts_more (c.loop-from.t + 1) points c.in-Some.point (cc) in
    let few = count_within (c.in-Some.point.time + 1) points in
    omega (arith, more, few)

pub loop-from-preserved : goal.loop-from-preserved
loop-from-preserved g c =
    let points = c.args.self.now.points in
    let b = dig (length points + 2) in
    let more = counts_more (c.loop-from.t + 1) points c.in-Some.point (cc) in
    let later = first_later (c.loop-from.t + 1) points c.in-Some.point (cc) in
    record {
      later = omega (arith, later, c.loop-from.invariant.later);
      none = λ spans now. none_to_next c.args.self.now.total c.args.self.now.horizon spans c.args.duration
          c.args.quantity
          c.requires c.args.from c.loop-from.t c.in-Some.point.time (c.loop-from.invariant.none spans now)
          (λ s. let t = (c.may_start.ensures.answer spans now).1 s in absurd (cc))
          (next_is c.args.self.now.total points spans now.tallies c.loop-from.t c.in-Some.point (cc));
      work = omega (
        arith,
        one_more (count_before (c.loop-from.t + 1) points) (count_before (c.in-Some.point.time + 1) points) b more,
        c.loop-from.invariant.work,
        c.may_start.ensures.work,
        c.next.ensures.work,
      );
    }
