-- What never changes of a book.
use Rattle.std.specs.Prelude.{◌≡◌, ℕ, List}
use Rattle.std.specs.Arc.{arc_value}
use Rattle.resource_graph.specs.NamedGraph.{NamedGraph}
use Rattle.prune_filters.specs.declared.rules.Rule.{Rule}
use Rattle.book_state.specs.declared.held.Kept.{Kept}
use Rattle.book_state.specs.declared.frames.Frame.{Frame}
use Rattle.book_state.specs.Books.{graph_of, rules_of, horizon_of}

-- the graph
abbrev pub graph_in : Frame → NamedGraph
graph_in frame = (arc_value frame.filtered).graph

-- the filter rules
abbrev pub rules_in : Frame → List Rule
rules_in frame = (arc_value frame.filtered).rules

-- the horizon, in seconds
abbrev pub horizon_in : Frame → ℕ
horizon_in frame = frame.horizon

-- the frame has the graph, the rules and the horizon of the book
pub record IsFrameOf (book : Kept) (frame : Frame) : Type 0 where
  pub graph : graph_in frame ≡ graph_of book
  pub rules : rules_in frame ≡ rules_of book
  pub horizon : horizon_in frame ≡ horizon_of book
