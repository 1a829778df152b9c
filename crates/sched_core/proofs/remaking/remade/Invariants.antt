use Rattle.sched_core.proofs.remaking.remade.Given as goal

abbrev pub ghosts-remade_counted : goal.ghosts-remade_counted
ghosts-remade_counted a = record { name = a.blank.name; parts = a.blank.parts }
