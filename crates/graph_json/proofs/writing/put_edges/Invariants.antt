use Rattle.std.proofs.Common.{◌≡◌, ◌++◌, drop}
use Rattle.graph_json.specs.WrittenGraph.{edges_data}
use Rattle.json_written.specs.Tokens.{rest_tokens}
use Rattle.graph_json.proofs.writing.put_edges.Given as goal

abbrev pub invariant-edges : goal.invariant-edges
invariant-edges l =
    (l.writer.tokens ++ rest_tokens (edges_data l.at (drop l.at l.graph.resources.vertices)) ≡ l.fn.writer.tokens
    ++ rest_tokens (edges_data 0 l.graph.resources.vertices)) × (l.writer.before ≡ l.fn.writer.before)
