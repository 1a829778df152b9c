use Rattle.sched_core.proofs.scheduler.Core.decide.Given as goal

abbrev pub ghosts-decide_counted : goal.ghosts-decide_counted
ghosts-decide_counted a = record { name = a.blank.name; parts = a.blank.parts }
