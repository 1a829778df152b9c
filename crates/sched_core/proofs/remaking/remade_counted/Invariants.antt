use Rattle.sched_core.specs.Courses.{IsMadeTo}
use Rattle.sched_core.proofs.remaking.remade_counted.Given as goal

-- the entries so far are kept
abbrev pub invariant-loop-at : goal.invariant-loop-at
invariant-loop-at g l = IsMadeTo l.site l.left l.at l.kept
