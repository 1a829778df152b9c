use Rattle.planner_min_tree.proofs.Nexts.{next_is, next_none}
use Rattle.planner_min_tree.proofs.planner.MinTreePlanner.next_point.Goals as goal

pub returns-in_default-clause-next : goal.returns-in_default-clause-next
returns-in_default-clause-next g c = λ spans marks.
    next_none c.args.self.now.total c.args.self.now.points spans marks.tallies c.args.after (cc)

pub returns-clause-next : goal.returns-clause-next
returns-clause-next g c = λ spans marks.
    next_is c.args.self.now.total c.args.self.now.points spans marks.tallies c.args.after c.in-Some.point (cc)
