use Rattle.std.proofs.Common.{◌∙◌, ap, List}
use Rattle.flux_defs.specs.declared.vertices.Vertex.{Vertex}
use Rattle.flux_defs.specs.Graph.{parent_of}
use Rattle.graph_laws.proofs.Preorder.{parents_first}
use Rattle.vertex_planners.proofs.ClaimSums.{parents_in, parent_inside}
use Rattle.vertex_accounts.proofs.asking.upper.Goals as goal

pub returns-clause-value : goal.returns-clause-value
returns-clause-value c =
    c.parent_in.ensures
    ∙ ap (λ (vs : List Vertex). parent_of vs c.args.vertex) (c.items.ensures ∙ c.vertices.ensures.value)

pub returns-clause-inside : goal.returns-clause-inside
returns-clause-inside c =
    parent_inside c.args.graph.now.resources.vertices c.args.vertex c.parent_in.result
    (c.parent_in.ensures
    ∙ ap (λ (vs : List Vertex). parent_of vs c.args.vertex) (c.items.ensures ∙ c.vertices.ensures.value))
    (parents_in c.args.graph.now.resources.vertices
    (parents_first c.args.graph.now.resources c.vertices.ensures.valid.valid.preorder))
