-- The text that answers a call: that of a history of the scheduler of one thread, that of a graph, or the counts of a
-- load.
use Rattle.std.specs.Prelude.{◌≡◌, ℕ, ◌++◌, List, [], codes}
use Rattle.flux_defs.specs.declared.journal.Entry.{Entry}
use Rattle.flux_defs.specs.declared.limits.TheConstants.{SHIPPED}
use Rattle.flux_defs.specs.Scheduler.{Setting}
use Rattle.flux_defs.specs.Scripts.{Interleaves, Plays}
use Rattle.flux_defs.specs.Sound.{IsSoundThroughout}
use Rattle.resource_graph.specs.NamedGraph.{NamedGraph}
use Rattle.graph_json.specs.GraphText.{IsGraphText}
use Rattle.graph_json.specs.WrittenGraph.{graph_text}
use Rattle.sched_core.specs.Courses.{setting_of}
use Rattle.fluxion_lines.specs.Columns.{line_column}
use Rattle.fluxion_lines.specs.Inputs.{clients_of}
use Rattle.fluxion_lines.specs.Scripts.{script_of, input_order}
use Rattle.fluxion_lines.specs.Texts.{history_text}
use Rattle.load_script.specs.Counts.{counts_text}
use Rattle.load_script.specs.Lines.{load_text}
use Rattle.load_script.specs.Vertices.{IsLoadGraph}
use Rattle.asked_calls.specs.Calls.{Served, Call, serve, print, load, IsServing, only_name}

-- the setting of a graph that is served
abbrev pub served_setting : NamedGraph → Served → Setting
served_setting graph served = setting_of graph.resources served.rules served.horizon SHIPPED.claims

-- The text is that of a history over the graph. The column LINE of the text is the order in which the history has the
-- input's lines: each once, and those of each client in their order. The history is legal: each entry is the reply of
-- the scheduler of one thread in the state that the entries before it leave. No vertex is oversubscribed at any point.
pub record IsOutput (served : Served) (graph : NamedGraph) (input text : List ℕ) : Type 0 where
  pub interleaves : Interleaves (script_of graph served.form input) (line_column text)
  pub history : List Entry
  pub plays : Plays (served_setting graph served) (script_of graph served.form input) (line_column text) history
  pub sound : IsSoundThroughout graph.resources.vertices history
  pub text-is : text ≡ history_text graph (clients_of input) history

-- the text answers the input over the graph of the file's bytes
pub record Answers (served : Served) (file input text : List ℕ) : Type 0 where
  pub graph : NamedGraph
  pub graph-is : IsGraphText file graph
  pub output : IsOutput served graph input text

-- the text is that of the graph of the file's bytes, and a line feed
pub record Prints (file text : List ℕ) : Type 0 where
  pub graph : NamedGraph
  pub graph-is : IsGraphText file graph
  pub text-is : text ≡ graph_text graph ++ codes "\n"

-- The text has the counts of the load of so many commands: those of the legal history that answers the load's input,
-- line by line in its order, over the load's graph, as `serve` without an option would. It is a function of the number
-- of commands.
pub record IsSummary (commands : ℕ) (text : List ℕ) : Type 0 where
  pub graph : NamedGraph
  pub graph-is : IsLoadGraph graph
  pub served : Served
  pub plainly : IsServing (only_name []) served
  pub history : List Entry
  pub plays : Plays (served_setting graph served) (script_of graph served.form (load_text commands))
      (input_order graph served.form (load_text commands)) history
  pub sound : IsSoundThroughout graph.resources.vertices history
  pub text-is : text ≡ counts_text history

-- the text answers the call, for the graph file's bytes and the input's
abbrev pub IsAnswerTo : Call → (file input text : List ℕ) → Type 0
IsAnswerTo (serve served) file input text = Answers served file input text
IsAnswerTo (print name) file input text = Prints file text
IsAnswerTo (load commands) file input text = IsSummary commands text
