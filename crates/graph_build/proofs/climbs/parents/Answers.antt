use Rattle.std.proofs.Common.{◌≡◌, ℕ, Option, get_or, arith}
use Rattle.flux_defs.specs.Graph.{parent_of}
use Rattle.resource_graph.proofs.ChainLaws.{parent_at, no_vertex}
use Rattle.graph_build.proofs.ClimbLaws.{entries_more}
use Rattle.graph_build.proofs.climbs.parents.Goals as goal

pub loop-vertex-preserved : goal.loop-vertex-preserved
loop-vertex-preserved c =
    entries_more (λ (u : ℕ) (o : Option ℕ). o ≡ parent_of c.args.vertices.now u) c.loop-vertex.vertex-index
    c.loop-vertex.climbs.items c.push.new.self.items
    (get_or c.args.vertices.now c.loop-vertex.vertex-index no_vertex).parent c.loop-vertex.invariant.0
    c.loop-vertex.invariant.1
    (parent_at c.args.vertices.now c.loop-vertex.vertex-index no_vertex (omega arith)) c.in_ok-push.ensures.items

pub returns : goal.returns
returns c = record { as_many = (let long = c.loop-vertex.invariant.0 in omega arith); each = c.loop-vertex.invariant.1 }
