use Rattle.std.proofs.Common.{ℕ, List, Option, Some, None, sym, subst}
use Rattle.graph_build.specs.Raw.{IsBuiltFrom}
use Rattle.graph_from_r.specs.declared.nodes.RNode.{RNode}
use Rattle.graph_from_r.specs.Names.{IsRepeatedName}
use Rattle.graph_from_r.specs.Vertices.{r_kinds, r_vertices}
use Rattle.graph_from_r.proofs.reading.graph_with.Goals as goal

pub returns-in-Some-clause-fault : goal.returns-in-Some-clause-fault
returns-in-Some-clause-fault c =
    let named = subst (λ (o : Option ℕ). IsRepeatedName c.items.result.now o) c.in-Some.is c.in_ok-rank.ensures in (
      c.in_ok-nodes.nodes,
      c.in_ok-nodes.ensures.nodes,
      subst (λ (ns : List RNode). IsRepeatedName ns (Some c.in-Some.rank)) c.items.ensures named,
    )

pub graph_of_nodes-requires-clause-apart : goal.graph_of_nodes-requires-clause-apart
graph_of_nodes-requires-clause-apart c =
    let named = subst (λ (o : Option ℕ). IsRepeatedName c.items.result.now o) c.in-None.is c.in_ok-rank.ensures in
    subst (λ (ns : List RNode). IsRepeatedName ns None) (sym c.items-2.ensures)
    (subst (λ (ns : List RNode). IsRepeatedName ns None) c.items.ensures named)

pub returns-clause-graph : goal.returns-clause-graph
returns-clause-graph c = record {
  nodes = c.in_ok-nodes.nodes;
  are = c.in_ok-nodes.ensures.nodes;
  apart = subst (λ (ns : List RNode). IsRepeatedName ns None) c.items.ensures
      (subst (λ (o : Option ℕ). IsRepeatedName c.items.result.now o) c.in-None.is c.in_ok-rank.ensures);
  built = subst (λ (ns : List RNode). IsBuiltFrom r_kinds (r_vertices ns) c.in_ok-graph.graph) c.items-2.ensures
      c.in_ok-graph.ensures;
}
