use Rattle.std.proofs.Common.{[]}
use Rattle.planner_min_tree.proofs.PlanFacts.{marks_none}
use Rattle.planner_min_tree.proofs.planner.MinTreePlanner.settle.Goals as goal

pub invariant_of-self-in-Err : goal.invariant_of-self-in-Err
invariant_of-self-in-Err g c =
    record {
      spans = [];
      marks = rw c.empty.ensures (marks_none c.self.inside.total);
      near = rw c.none-self-inside.ensures tt;
    }
