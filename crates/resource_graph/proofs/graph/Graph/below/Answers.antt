use Rattle.std.proofs.Common.{sym, ◌∙◌}
use Rattle.std.proofs.lemmas.Bool.{le-ltb}
use Rattle.graph_laws.proofs.Preorder.{parents_first}
use Rattle.resource_graph.proofs.Queries.{below_later}
use Rattle.resource_graph.proofs.graph.Graph.below.Goals as goal

pub returns-else-upper-lower : goal.returns-else-upper-lower
returns-else-upper-lower c =
    rw (← c.self.view_is)
    (le-ltb c.args.upper c.args.lower c.if-upper-lower.false ∙
    sym (below_later c.self.inside.vertices
    (parents_first _ c.self.invariant.whole.valid.preorder) c.args.upper c.args.lower c.if-upper-lower.false))
