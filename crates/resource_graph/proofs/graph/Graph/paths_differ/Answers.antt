use Rattle.resource_graph.proofs.PathsApart.{paths_apart}
use Rattle.resource_graph.proofs.graph.Graph.paths_differ.Goals as goal

pub returns : goal.returns
returns c = rw (← c.self.view_is) (λ clear. paths_apart _ _ c.self.invariant.whole.valid clear)
