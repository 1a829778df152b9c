use Rattle.std.proofs.Common.{refl, arith}
use Rattle.flux_defs.specs.Present.{bare}
use Rattle.sched_core.proofs.finding.is_satisfiable.Goals as goal

pub returns-clause-answer : goal.returns-clause-answer
returns-clause-answer g c = c.some_fit.ensures.answer bare refl

pub returns-clause-work : goal.returns-clause-work
returns-clause-work g c = let work = c.some_fit.ensures.work bare refl in omega (arith, work)
