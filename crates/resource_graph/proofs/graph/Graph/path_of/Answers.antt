use Rattle.std.proofs.Common.{◌<◌, length, sym, subst}
use Rattle.resource_graph.specs.NamedGraph.{NamedGraph}
use Rattle.resource_graph.proofs.Queries.{parents_known, chains_short}
use Rattle.resource_graph.proofs.graph.Graph.path_of.Goals as goal

pub chain_up-requires-clause-known : goal.chain_up-requires-clause-known
chain_up-requires-clause-known c = rw c.items.ensures (parents_known _ _ c.self.invariant.whole.valid)

pub chain_up-requires-clause-short : goal.chain_up-requires-clause-short
chain_up-requires-clause-short c = rw c.items.ensures (chains_short _ _ c.self.invariant.whole.valid c.args.vertex
    (subst (λ (g : NamedGraph). c.args.vertex < length g.resources.vertices) (sym c.self.view_is) c.requires))
