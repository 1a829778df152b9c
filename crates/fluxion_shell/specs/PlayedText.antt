-- What the code says of lines that were played: their history and its text.
use Rattle.std.specs.Prelude.{ℕ, List, map}
use Rattle.flux_defs.specs.declared.journal.Entry.{Entry}
use Rattle.flux_defs.specs.Sound.{IsSoundThroughout}
use Rattle.flux_defs.specs.Scripts.{Interleaves, Plays}
use Rattle.resource_graph.specs.NamedGraph.{NamedGraph}
use Rattle.fluxion_lines.specs.Scripts.{script_of}
use Rattle.asked_calls.specs.Calls.{Served}
use Rattle.fluxion_shell.specs.Outputs.{served_setting}

-- the numbers of the lines that entries answer
abbrev pub lines_answered : List Entry → List ℕ
lines_answered history = map (λ e. e.line) history

-- the history answers the lines of the input in some order that keeps that of each client, and no vertex is
-- oversubscribed
pub record IsPlayed (served : Served) (graph : NamedGraph) (input : List ℕ) (history : List Entry) : Type 0 where
  pub interleaves : Interleaves (script_of graph served.form input) (lines_answered history)
  pub plays : Plays (served_setting graph served) (script_of graph served.form input) (lines_answered history) history
  pub sound : IsSoundThroughout graph.resources.vertices history
