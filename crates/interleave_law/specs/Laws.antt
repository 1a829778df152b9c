-- What is so after any events in any order, as a statement.
use Rattle.std.specs.Prelude.{List}
use Rattle.flux_defs.specs.declared.events.Event.{Event}
use Rattle.flux_defs.specs.declared.journal.Script.{Script}
use Rattle.flux_defs.specs.Scheduler.{Setting}
use Rattle.flux_defs.specs.Interleaving.{Machine, first_machine, Runs, IsOneHistory}

-- Whatever events happen to the machine of a script, in whatever order: its history is legal, each history that a
-- client looked at begins it, and each client's part of it answers the lines that the client has done.
abbrev pub AnyOrderIsOneHistory : Type 0
AnyOrderIsOneHistory = (g : Setting) (script : Script) (events : List Event) (m : Machine) →
    Runs g script (first_machine script) events m → IsOneHistory g script m
