use Rattle.std.proofs.Common.{ℕ, ◌<◌, IsTrue}
use Rattle.std.specs.List.{list_any}
use Rattle.flux_defs.specs.Graph.{IsNode, is_at_or_below}
use Rattle.dfu_match.proofs.bars.bars_all.Given as goal

-- each node so far is barred
abbrev pub invariant-loop-vertex : goal.invariant-loop-vertex
invariant-loop-vertex l = (v : ℕ) → v < l.vertex → IsNode l.graph.resources.vertices v →
    IsTrue (list_any (is_at_or_below l.graph.resources.vertices v) l.barred)
