use Rattle.std.proofs.Common.{◌≡◌, ◌++◌, drop}
use Rattle.graph_json.specs.WrittenGraph.{nodes_data}
use Rattle.json_written.specs.Tokens.{rest_tokens}
use Rattle.graph_json.proofs.writing.put_nodes.Given as goal

abbrev pub invariant-nodes : goal.invariant-nodes
invariant-nodes l = (l.writer.tokens ++ rest_tokens (nodes_data l.graph l.at (drop l.at l.graph.resources.vertices))
    ≡ l.fn.writer.tokens ++ rest_tokens (nodes_data l.graph 0 l.graph.resources.vertices))
    × (l.writer.before ≡ l.fn.writer.before)
